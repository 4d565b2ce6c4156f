-- A statement with a text that is quoted inside of a fragment, and how it is read.
use Rattle.std.specs.Prelude.{◌≡◌, ◌++◌, ℕ, Bool, IsTrue, List, [], ◌∷◌, codes}
use Rattle.std.specs.List.{list_all}
use Rattle.sql_parts.specs.Readers.{Part, Constant, Reader, IsInsideAtEach, between_parts, marks, outer_states, parts_bytes}
use Rattle.sql_parts.specs.declared.delimiters.Quotes.TheVariants.{Single}

-- the statement that asks for a title, in parts
abbrev pub title_parts : List ℕ → List Part
title_parts title = Constant (codes "SELECT * FROM books WHERE title = ") ∷ between_parts Single title ++ Constant (codes ";") ∷ []

-- Where a reader opens a string at the empty title, it does so at this one of plain bytes, and goes through the same states outside of it.
abbrev pub IsReadAlike : List ℕ → List ℕ → Type 0
IsReadAlike title text = (next : Reader) (plain : ℕ → Bool) (state : ℕ) → IsTrue (list_all plain title)
    → IsInsideAtEach next plain state (title_parts [])
    → IsInsideAtEach next plain state (title_parts title)
    × (outer_states next state (marks (title_parts [])) (parts_bytes (title_parts [])) ≡ outer_states next state (marks (title_parts title)) text)
