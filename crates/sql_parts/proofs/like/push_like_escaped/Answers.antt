use Rattle.sql_parts.proofs.Imports.{◌≡◌, ◌+◌, ◌<◌, ◌++◌, ◌∷◌, [], ◌∙◌, ap, arith, get_or, length, refl, string_bytes, subst, sym, IsCharBoundary}
use Rattle.sql_parts.proofs.Imports.{IsCharBoundary-before_ascii, IsCharBoundary-start, encode_ascii}
use Rattle.sql_parts.specs.{is_special}
use Rattle.sql_parts.proofs.bytes.{run, special-low, written-plain, written-special}
use Rattle.sql_parts.proofs.like.push_like_escaped.Goals as goal
use Rattle.sql_parts.proofs.like.push_like_escaped.Goals.{then-is_special+in_ok-push_str+in_ok-push, else-is_special}

pub loop-at-init : goal.loop-at-init
loop-at-init c = record { from = omega arith; cut = IsCharBoundary-start c.args.text.now c.utf8.text; written = refl }

pub loop-at-preserved : goal.loop-at-preserved
loop-at-preserved c =
    let text = c.args.text.now in
    let start = c.loop-at.start in
    let at = c.loop-at.at in
    let out = string_bytes c.loop-at.out in
    let before = string_bytes c.args.out.now in
    let escape = c.character-escape.result in
    let low = c.character-escape.ensures.one_byte in
    let same = c.as_bytes-bytes.ensures.value in
    let inside : at < length text = omega (arith, ap length same) in
    let here : is_special escape (get_or text at 0) ≡ c.is_special.result = ap (λ t. is_special escape (get_or t at 0)) (sym same) ∙ sym c.is_special.ensures in
    elim c.if-is_special.branch [
      | then-is_special+in_ok-push_str+in_ok-push w ↦
          let is = here ∙ w.if-is_special.true in
          let filled = w.in_ok-push_str.ensures.bytes ∙ ap (λ t. out ++ t) w.range.ensures.value in
          let pushed : string_bytes w.push.new.self ≡ (out ++ run text start at) ++ escape ∷ [] =
          w.in_ok-push.ensures.bytes ∙ (λ i. filled i ++ encode_ascii escape low i) in
          record {
            from = omega (arith, w.start-is);
            cut = subst (λ n. IsCharBoundary text n) (sym w.start-is)
                (IsCharBoundary-before_ascii text at inside (special-low escape (get_or text at 0) low is));
            written = (λ i. (ap string_bytes w.out-is ∙ pushed) i ++ run text (w.start-is i) (at + 1))
                ∙ written-special escape start at text before out c.loop-at.invariant.from inside c.loop-at.invariant.written is;
          }
      | else-is_special w ↦
          record {
            from = omega (arith, w.start-is);
            cut = subst (λ n. IsCharBoundary text n) (sym w.start-is) c.loop-at.invariant.cut;
            written = (λ i. string_bytes (w.out-is i) ++ run text (w.start-is i) (at + 1))
                ∙ written-plain escape start at text before out c.loop-at.invariant.from inside c.loop-at.invariant.written (here ∙ w.if-is_special.false);
          }
    ]
