-- What a step over one part leaves of a text that is read by lines.
use Rattle.sqlb.proofs.Imports.{◌≡◌, ℕ, suc, ◌+◌, ◌-◌, ◌<◌, ◌≤◌, ◌==◌, Bool, true, false, ◌||◌, not, List, [], ◌∷◌, length, take, drop, get_or, length-drop}
use Rattle.sqlb.proofs.Imports.{refl, sym, subst, ap, ap₂, ◌∙◌, arith, inl, inr, after_first, before_first, onto_first, position_or_len, IsCharBoundary}
use Rattle.sqlb.proofs.Imports.{cases_lt, eqb-true, IsCharBoundary-after_ascii, IsCharBoundary-before_ascii, IsCharBoundary-end, drop-drop, drop_all}
use Rattle.sqlb.proofs.Imports.{get_or-drop, get_or_past, passes_at_first, prefix_len-le-length, slice_split-cons_no, slice_split-cons_yes}
use Rattle.std.specs.Prelude.{IsUtf8}
use Rattle.sqlb.specs.{parts_of, Remaining, is_or_feed, is_separator, remaining_of}

abbrev tab : ℕ → Bool
tab byte = byte == 9

abbrev feed : ℕ → Bool
feed byte = byte == 10

-- what is before the first element that passes, that element, and what is after it
abbrev cut : (ℕ → Bool) → List ℕ → List ℕ × ℕ × List ℕ
cut p xs = (before_first p xs, get_or xs (position_or_len p xs) 0, after_first p xs)

module _ (p : ℕ → Bool) (x : ℕ) (xs : List ℕ) where
  cut-yes : p x ≡ true → cut p (x ∷ xs) ≡ ([], x, xs)
  cut-yes e = rw e refl

  further : p x ≡ false → position_or_len p (x ∷ xs) ≡ suc (position_or_len p xs)
  further e = rw e (omega arith)

  cut-no : p x ≡ false → cut p (x ∷ xs) ≡ (x ∷ before_first p xs, get_or xs (position_or_len p xs) 0, after_first p xs)
  cut-no e =
      let behind : position_or_len p (x ∷ xs) + 1 ≡ suc (position_or_len p xs + 1) = omega (arith, further e) in
      ap₂ (λ n k. (take n (x ∷ xs), get_or (x ∷ xs) n 0, drop k (x ∷ xs))) (further e) behind

abbrev left : List (List ℕ) → List ℕ → Remaining
left parts behind = record { parts = parts; behind = behind }

-- a part in front of what is left
abbrev pub with_part : List ℕ → Remaining → Remaining
with_part part after = left (part ∷ after.parts) after.behind

-- a line that is cut from a text
abbrev line_of : List ℕ × ℕ × List ℕ → Remaining
line_of c = left (parts_of c.0) c.2

-- a part that is cut from a line
abbrev part_of : List ℕ × ℕ × List ℕ → Remaining
part_of c = with_part c.0 (remaining_of (tab c.1) c.2)

step : (rest : List ℕ) → remaining_of true rest ≡ part_of (cut is_separator rest)
step [] = refl
step (byte ∷ rest) = by (tab byte) (feed byte) refl refl (step rest)
  where
    by : (t f : Bool) → tab byte ≡ t → feed byte ≡ f → remaining_of true rest ≡ part_of (cut is_separator rest)
        → remaining_of true (byte ∷ rest) ≡ part_of (cut is_separator (byte ∷ rest))
    by true true is_tab is_feed e = absurd (omega (arith, eqb-true byte 9 is_tab, eqb-true byte 10 is_feed))
    by true false is_tab is_feed e =
        let ends : is_separator byte ≡ true = ap₂ (λ a b. a || b) is_tab is_feed in
        ap line_of (cut-no feed byte rest is_feed)
        ∙ ap (λ l. left l (after_first feed rest)) (slice_split-cons_yes tab byte (before_first feed rest) is_tab)
        ∙ sym (ap part_of (cut-yes is_separator byte rest ends) ∙ ap (λ t. with_part [] (remaining_of t rest)) is_tab)
    by false true is_tab is_feed e =
        let ends : is_separator byte ≡ true = ap₂ (λ a b. a || b) is_tab is_feed in
        ap line_of (cut-yes feed byte rest is_feed)
        ∙ sym (ap part_of (cut-yes is_separator byte rest ends) ∙ ap (λ t. with_part [] (remaining_of t rest)) is_tab)
    by false false is_tab is_feed e =
        let goes_on : is_separator byte ≡ false = ap₂ (λ a b. a || b) is_tab is_feed in
        ap line_of (cut-no feed byte rest is_feed)
        ∙ ap (λ l. left l (after_first feed rest)) (slice_split-cons_no tab byte (before_first feed rest) is_tab)
        ∙ ap (λ (l : Remaining). left (onto_first byte l.parts) l.behind) e ∙ sym (ap part_of (cut-no is_separator byte rest goes_on))

small : (one byte : ℕ) → one < 128 → is_or_feed one byte ≡ true → byte < 128
small one byte below ends = by (byte == one) (byte == 10) refl refl ends
  where
    by : (is feed : Bool) → (byte == one) ≡ is → (byte == 10) ≡ feed → (is || feed) ≡ true → byte < 128
    by true f is is_feed e = omega (arith, below, eqb-true byte one is)
    by false true is is_feed e = omega (arith, eqb-true byte 10 is_feed)
    by false false is is_feed e = cc

-- a part or a line that begins at a place of a text, and ends at another
module _ (one : ℕ) (below : one < 128) (text : List ℕ) (at end : ℕ) (start : at ≤ length text)
    (is : end ≡ at + position_or_len (is_or_feed one) (drop at text)) where
  abbrev size : ℕ
  size = position_or_len (is_or_feed one) (drop at text)

  pub within : end ≤ length text
  within = omega (arith, start, is, length-drop at text, prefix_len-le-length (λ byte. not (is_or_feed one byte)) (drop at text))

  last : get_or (drop at text) size 0 ≡ get_or text end 0
  last = get_or-drop at text size 0 ∙ ap (λ k. get_or text k 0) (sym is)

  ends : end < length text → is_or_feed one (get_or text end 0) ≡ true
  ends inside = subst (λ byte. is_or_feed one byte ≡ true) last (passes_at_first (is_or_feed one) (drop at text) 0 (omega (arith, is, inside, length-drop at text)))

  pub boundary_at_end : IsCharBoundary text end
  boundary_at_end =
      elim (cases_lt end (length text)) [
        | inl inside ↦ IsCharBoundary-before_ascii text end inside (small one _ below (ends inside))
        | inr outside ↦ subst (IsCharBoundary text) (omega (arith, outside, within)) (IsCharBoundary-end text)
      ]

  pub boundary_behind : IsUtf8 text → end < length text → IsCharBoundary text (end + 1)
  boundary_behind utf8 inside = IsCharBoundary-after_ascii text end utf8 inside (small one _ below (ends inside))

  behind : after_first (is_or_feed one) (drop at text) ≡ drop (end + 1) text
  behind =
      let count : at + (size + 1) ≡ end + 1 = omega (arith, is) in
      drop-drop (size + 1) at text ∙ ap (λ n. drop n text) count

  pub behind_end : end ≡ length text → drop (end + 1) text ≡ drop end text
  behind_end e = drop_all (end + 1) text (omega (arith, e)) ∙ sym (drop_all end text (omega (arith, e)))

-- a part
module _ (text : List ℕ) (at end : ℕ) (start : at ≤ length text) (is : end ≡ at + position_or_len is_separator (drop at text)) where
  part : take (end - at) (drop at text) ≡ before_first is_separator (drop at text)
  part =
      let count : end - at ≡ position_or_len is_separator (drop at text) = omega (arith, is) in
      ap (λ n. take n (drop at text)) count

  pub steps_on : remaining_of true (drop at text) ≡ with_part (take (end - at) (drop at text)) (remaining_of (tab (get_or text end 0)) (drop (end + 1) text))
  steps_on =
      step (drop at text)
      ∙ ap₂ with_part (sym part) (ap₂ (λ byte rest. remaining_of (tab byte) rest) (last 9 (omega arith) text at end start is) (behind 9 (omega arith) text at end start is))

  pub steps_to_end : end ≡ length text → remaining_of true (drop at text) ≡ with_part (take (end - at) (drop at text)) (remaining_of false (drop end text))
  steps_to_end e =
      let byte : get_or text end 0 ≡ 0 = get_or_past text end 0 (omega (arith, e)) in
      steps_on ∙ ap₂ (λ byte rest. with_part (take (end - at) (drop at text)) (remaining_of (tab byte) rest)) byte (behind_end 9 (omega arith) text at end start is e)

feed_twice : (byte : ℕ) → is_or_feed 10 byte ≡ feed byte
feed_twice byte = by (feed byte)
  where
    by : (b : Bool) → (b || b) ≡ b
    by true = refl
    by false = refl

-- what is behind a line
pub line_behind : (text : List ℕ) (at end : ℕ) (start : at ≤ length text) (is : end ≡ at + position_or_len (is_or_feed 10) (drop at text))
    → after_first feed (drop at text) ≡ drop (end + 1) text
line_behind text at end start is = (λ i. after_first (λ byte. sym (feed_twice byte) i) (drop at text)) ∙ behind 10 (omega arith) text at end start is
