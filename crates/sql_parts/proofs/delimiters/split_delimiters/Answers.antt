use Rattle.std.proofs.Common.{◌≡◌, ℕ, ◌<◌, ◌≤◌, List, length, get_or, subst}
use Rattle.sql_parts.proofs.bytes.DoublingLemmas.{boundary-behind_delimiters, doubled-delimiters}
use Rattle.sql_parts.proofs.delimiters.split_delimiters.Goals as goal

pub split_at-requires : goal.split_at-requires
split_at-requires c =
    let same = c.as_bytes-bytes.ensures.value in
    boundary-behind_delimiters c.args.delimiter c.args.text.now c.loop-end.end c.requires.one_byte c.utf8.text
    (subst (λ (bytes : List ℕ). c.loop-end.end ≤ length bytes) same c.loop-end.invariant.within)
    (subst (λ (bytes : List ℕ). (i : ℕ) → i < c.loop-end.end → get_or bytes i 0 ≡ c.args.delimiter) same c.loop-end.invariant.delimiters)

pub returns-clause-doubled : goal.returns-clause-doubled
returns-clause-doubled c =
    let same = c.as_bytes-bytes.ensures.value in
    let split = doubled-delimiters c.args.delimiter c.args.text.now c.loop-end.end
    (subst (λ (bytes : List ℕ). c.loop-end.end ≤ length bytes) same c.loop-end.invariant.within)
    (subst (λ (bytes : List ℕ). (i : ℕ) → i < c.loop-end.end → get_or bytes i 0 ≡ c.args.delimiter) same c.loop-end.invariant.delimiters) in
    rw (c.split_at.ensures.front, c.split_at.ensures.back) split
