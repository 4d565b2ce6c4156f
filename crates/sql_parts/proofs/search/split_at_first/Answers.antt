use Rattle.sql_parts.proofs.Imports.{◌≡◌, ℕ, ◌+◌, ◌-◌, ◌<◌, ◌≤◌, ◌++◌, ◌∙◌, List, ap, arith, below_more, drop, false, inl, inr, length, subst, sym, take}
use Rattle.sql_parts.proofs.Imports.{IsCharBoundary, LacksTextAt, cases_lt, Decides-eqb, starts_is, Front}
use Rattle.sql_parts.specs.{front_of, gap, has_front}
use Rattle.sql_parts.proofs.bytes.{cut-before, cut-behind, lacks-by-front, lacks-by-room, lacks-here, split-at}
use Rattle.sql_parts.proofs.search.split_at_first.Goals as goal
use Rattle.sql_parts.proofs.search.split_at_first.Goals.{Then-begins_at}

-- the text that is sought is at the place
begins : (c : Then-begins_at) → let bytes = c.as_bytes-bytes.result.now in let sought = c.as_bytes-needle.result.now in
    drop c.in-Some.place bytes ≡ sought ++ drop (length sought) (drop c.in-Some.place bytes)
begins c = (starts_is Decides-eqb (drop c.in-Some.place c.as_bytes-bytes.result.now) c.as_bytes-needle.result.now _ c.begins_at.ensures).0 c.if-begins_at.true

pub range-requires-clause-end_boundary : goal.range-requires-clause-end_boundary
range-requires-clause-end_boundary c =
    subst (λ text. IsCharBoundary text c.in-Some.place) c.as_bytes-bytes.ensures.value
    (cut-before c.as_bytes-needle.result.now c.as_bytes-bytes.result.now c.in-Some.place _ c.as_bytes-needle.ensures.utf8 c.loop-place.invariant.some
    (begins c))

pub range_from-requires : goal.range_from-requires
range_from-requires c = λ _.
    subst (λ text. IsCharBoundary text (c.in-Some.place + length c.as_bytes-needle.result.now)) c.as_bytes-bytes.ensures.value
    (cut-behind c.as_bytes-needle.result.now c.as_bytes-bytes.result.now c.in-Some.place _ c.as_bytes-bytes.ensures.utf8 c.as_bytes-needle.ensures.utf8
    c.loop-place.invariant.some (begins (goal.at.range_from-requires c).Then-begins_at))

lacks-in : {bytes text own sought : List ℕ} (k : ℕ) → bytes ≡ text → own ≡ sought → LacksTextAt own bytes k → LacksTextAt sought text k
lacks-in {text = text} {own = own} k texts soughts lacks = subst (λ l. LacksTextAt l text k) soughts (subst (λ l. LacksTextAt own l k) texts lacks)

-- a place before `to` where the text that is sought lacks
lacks-before : (front : Front) (bytes sought : List ℕ) (at to : ℕ) → front ≡ front_of sought → 0 < length sought
    → ((k : ℕ) → k < at → LacksTextAt sought bytes k) → ((k : ℕ) → at ≤ k → k < to → has_front front bytes k ≡ false) → (k : ℕ) → k < to
    → LacksTextAt sought bytes k
lacks-before front bytes sought at to is_front some before none k below =
    elim (cases_lt k at) [
      | inl early ↦ before k early
      | inr late ↦ lacks-by-front sought bytes k some (ap (λ f. has_front f bytes k) (sym is_front) ∙ none k late below)
    ]

pub returns-then-begins_at : goal.returns-then-begins_at
returns-then-begins_at c =
    let split = split-at c.as_bytes-needle.result.now c.as_bytes-bytes.result.now c.in-Some.place (begins (goal.at.returns-then-begins_at c).Then-begins_at) in
    let lacks = lacks-before c.args.front c.as_bytes-bytes.result.now c.as_bytes-needle.result.now c.loop-place.at c.in-Some.place
    c.loop-place.invariant.front c.loop-place.invariant.some
    c.loop-place.invariant.before c.in-Some.ensures.2 in
    let texts = c.as_bytes-bytes.ensures.value in
    let soughts = c.as_bytes-needle.ensures.value in
    let place : c.in-Some.place - 0 ≡ c.in-Some.place = omega arith in
    let segment = c.range.ensures.value ∙ ap (λ n. take n c.args.text.now) place in (
      sym texts ∙ split ∙ (λ i. take c.in-Some.place (texts i) ++ (soughts i ++ drop (c.in-Some.place + length c.as_bytes-needle.result.now) (texts i)))
          ∙ (λ i. sym segment i ++ (c.args.sought.now ++ sym c.range_from.ensures.value i)),
      λ k below. lacks-in k texts soughts (lacks k (omega (arith, c.range.ensures.len))),
    )

pub loop-place-preserved : goal.loop-place-preserved
loop-place-preserved c =
    let lacks = lacks-before c.args.front c.as_bytes-bytes.result.now c.as_bytes-needle.result.now c.loop-place.at c.in-Some.place
    c.loop-place.invariant.front c.loop-place.invariant.some
    c.loop-place.invariant.before c.in-Some.ensures.2 in
    record {
      some = c.loop-place.invariant.some;
      front = c.loop-place.invariant.front;
      within = omega (arith, c.in-Some.ensures.1);
      before = below_more _ _ lacks (lacks-here c.as_bytes-needle.result.now c.as_bytes-bytes.result.now c.in-Some.place
          (sym c.begins_at.ensures ∙ c.if-begins_at.false));
    }

pub returns : goal.returns
returns c =
    let bytes = c.as_bytes-bytes.result.now in
    let sought = c.as_bytes-needle.result.now in
    let some = c.loop-place.invariant.some in
    let is_front = c.loop-place.invariant.front in
    let step : c.args.front.gap ≡ gap sought = ap (λ (front : Front). front.gap) is_front in
    λ k. lacks-in k c.as_bytes-bytes.ensures.value c.as_bytes-needle.ensures.value (elim (cases_lt (k + gap sought) (length bytes)) [
      | inl room ↦ lacks-before c.args.front bytes sought c.loop-place.at (k + 1) is_front some c.loop-place.invariant.before
          (λ j late below. c.in_default.ensures j late (omega (arith, step, room, below))) k (omega arith)
      | inr short ↦ lacks-by-room sought bytes k some short
    ])
