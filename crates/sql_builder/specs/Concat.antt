-- Texts that are made of parts, and texts that have room for more.
use Rattle.std.specs.Prelude.{◌≡◌, ◌+◌, ◌-◌, ◌^◌, ◌≤◌, ◌++◌, ℕ, List, String, flat_map, length, min, string_bytes, string_capacity, string_len}
use Rattle.sql_builder.specs.declared.concat.Part.{Part}

-- the bytes of the parts, one after another
abbrev pub concat_bytes : List Part → List ℕ
concat_bytes parts = flat_map (λ part. part.0.now) parts

-- a length, or the greatest `usize` where that is less
abbrev pub at_most_usize : ℕ → ℕ
at_most_usize len = min len (2 ^ 64 - 1)

-- these bytes have room
abbrev pub Fits : ℕ → List ℕ → Type 0
Fits room bytes = length bytes ≤ room

-- these bytes are printed behind what was, and take no more room than they have
abbrev pub Prints : {O : Type 0} → (O → List ℕ) → (O → ℕ) → O → O → List ℕ → Type 0
Prints printed room old new bytes = (printed new ≡ printed old ++ bytes) × (room old ≤ room new + length bytes)

-- a text has room for these bytes behind its own
abbrev pub HasRoom : {Z : Type 0} → String Z → List ℕ → Type 0
HasRoom text bytes = string_len text + length bytes ≤ string_capacity text

-- these bytes are appended, and no room is given back
abbrev pub Writes : {Z : Type 0} → String Z → String Z → List ℕ → Type 0
Writes old new bytes = (string_bytes new ≡ string_bytes old ++ bytes) × (string_capacity old ≤ string_capacity new)
