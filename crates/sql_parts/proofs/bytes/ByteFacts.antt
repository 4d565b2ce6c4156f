-- A search for a byte tells whether a text has it.
use Rattle.sql_parts.proofs.Imports.{◌≡◌, ◌≢◌, ℕ, ◌<◌, List, false, Option, Some, None, get_or, length, inl, inr, sym, ◌==◌, MatchOption, slice_index, is_some}
use Rattle.sql_parts.proofs.Imports.{eqb_tells, All-from_get_or, list_any_at, list_any_none}
use Rattle.sql_parts.specs.{has_byte}

pub found_byte : (text : List ℕ) (byte : ℕ) (found : Option ℕ)
    → MatchOption found ((k : ℕ) → k < length text → slice_index text k ≢ byte)
    (λ place. (place < length text) × (slice_index text place ≡ byte) × ((k : ℕ) → k < place → slice_index text k ≢ byte))
    → is_some found ≡ has_byte byte text
found_byte text byte None lacks =
    let differs : (k : ℕ) → k < length text → (get_or text k 0 == byte) ≡ false = λ k within.
    elim (eqb_tells (get_or text k 0) byte) [
      | inl same ↦ absurd (lacks k within same.1)
      | inr other ↦ other.0
    ] in
    sym (list_any_none (λ it. it == byte) text (All-from_get_or (λ it. (it == byte) ≡ false) text 0 differs))
found_byte text byte (Some place) found =
    elim (eqb_tells (get_or text place 0) byte) [
      | inl same ↦ sym (list_any_at (λ it. it == byte) text place 0 found.0 same.0)
      | inr other ↦ absurd (other.1 found.1)
    ]
