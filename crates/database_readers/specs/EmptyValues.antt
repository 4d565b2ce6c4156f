-- Where a text that is printed with empty values has these, and a reader that is inside of a string at each.
use Prim.Native.Char.{code}
use Rattle.std.specs.Prelude.{◌≡◌, ℕ, ◌==◌, not, List, [], ◌∷◌, Some, find}
use Rattle.sql_parts.specs.Readers.{Reader}

-- a quote follows, behind nothing or the percent signs of a mask
abbrev pub IsBeforeQuote : List ℕ → Type 0
IsBeforeQuote behind = find (λ byte. not (byte == code "%")) behind ≡ Some (code "'")

-- this byte is the first quote of an empty value
abbrev pub EmptyValueBegins : ℕ → List ℕ → Type 0
EmptyValueBegins byte behind = (byte ≡ code "'") × IsBeforeQuote behind

-- behind the first quote of each empty value of a text a reader is in this state
abbrev pub IsInsideAtEmptyValues : Reader → ℕ → ℕ → List ℕ → Type 0
IsInsideAtEmptyValues next inside state [] = Unit {0}
IsInsideAtEmptyValues next inside state (byte ∷ text) =
    (EmptyValueBegins byte text → next state byte ≡ inside) × IsInsideAtEmptyValues next inside (next state byte) text
