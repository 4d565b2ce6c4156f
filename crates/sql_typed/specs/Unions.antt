-- How a query is joined by UNION.
use Rattle.std.specs.Prelude.{ℕ, ◌++◌, Bool, List, codes, if◌then◌else◌}

-- a query behind a UNION: what would be of the whole there makes it a table, which each database takes in place of brackets
abbrev pub united_text : Bool → List ℕ → List ℕ
united_text needs_brackets query = if needs_brackets then codes "SELECT * FROM (" ++ (query ++ codes ") AS u") else query
