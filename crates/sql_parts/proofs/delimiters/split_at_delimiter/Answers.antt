use Rattle.sql_parts.proofs.Imports.{◌≡◌, ◌-◌, ◌<◌, ◌≢◌, ℕ, List, arith, get_or, length, rules, subst, IsCharBoundary-after_ascii}
use Rattle.sql_parts.proofs.bytes.{cut-at, doubled-at, doubled-without}
use Rattle.sql_parts.proofs.delimiters.split_at_delimiter.Goals as goal

pub returns-in_err-place-clause-doubled : goal.returns-in_err-place-clause-doubled
returns-in_err-place-clause-doubled c =
    let without = doubled-without c.args.delimiter c.args.text.now
    (subst (λ (text : List ℕ). (k : ℕ) → k < length text → get_or text k 0 ≢ c.args.delimiter) c.as_bytes.ensures.value c.in_err-place.ensures) in
    search (rules, without)

pub range_from-requires : goal.range_from-requires
range_from-requires c = λ _.
    let found = c.in_ok-place.ensures in
    let here = subst (λ (text : List ℕ). get_or text c.in_ok-place.place 0 ≡ c.args.delimiter) c.as_bytes.ensures.value found.1 in
    IsCharBoundary-after_ascii c.args.text.now c.in_ok-place.place c.utf8.text (omega (arith, found.0, c.as_bytes.ensures.len))
    (omega (arith, here, c.requires.one_byte))

abbrev IsFirst : ℕ → ℕ → List ℕ → Type 0
IsFirst delimiter place text = (place < length text) × (get_or text place 0 ≡ delimiter) × ((k : ℕ) → k < place → get_or text k 0 ≢ delimiter)

pub returns-clause-doubled : goal.returns-clause-doubled
returns-clause-doubled c =
    let found = subst (IsFirst c.args.delimiter c.in_ok-place.place) c.as_bytes.ensures.value c.in_ok-place.ensures in
    let start : c.in_ok-place.place - 0 ≡ c.in_ok-place.place = omega arith in
    rw (c.range.ensures.value, c.range_from.ensures.value, start) (doubled-at c.args.delimiter c.args.text.now c.in_ok-place.place found.0 found.1 found.2)

pub returns-clause-cut : goal.returns-clause-cut
returns-clause-cut c =
    let found = subst (IsFirst c.args.delimiter c.in_ok-place.place) c.as_bytes.ensures.value c.in_ok-place.ensures in
    let start : c.in_ok-place.place - 0 ≡ c.in_ok-place.place = omega arith in
    rw (c.range.ensures.value, c.range_from.ensures.value, start) (cut-at c.args.delimiter c.args.text.now c.in_ok-place.place found.0 found.1)
