-- Worked rows of literals with backslashes: what the definition gives, by computing.
use Rattle.sql_parts.proofs.Imports.{◌≡◌, [], Some, None, true, false, codes, refl}
use Rattle.sql_parts.specs.{has_backslash, literal, quoted}

-- the text of an attack, and the literal that `quote` makes of it
quoted-attack : quoted (codes "\\'; DROP TABLE t; --") ≡ codes "'\\''; DROP TABLE t; --'"
quoted-attack = refl

-- it ends at the third quote
literal-attack : literal (codes "'\\''; DROP TABLE t; --'") ≡ Some (codes "'", 4)
literal-attack = refl

literal-even : literal (codes "'\\\\'; DROP TABLE t; --'") ≡ Some (codes "\\", 4)
literal-even = refl

literal-last : literal (quoted (codes "a\\")) ≡ None
literal-last = refl

literal-letter : literal (codes "'a\\b' c") ≡ Some (codes "ab", 5)
literal-letter = refl

literal-twice : literal (codes "'it''s' c") ≡ Some (codes "it's", 7)
literal-twice = refl

-- what is behind a quote that is written twice may be another literal, so a quote may not follow
literal-side_by_side : literal (codes "'a''b'") ≡ Some (codes "a'b", 6)
literal-side_by_side = refl

literal-empty : literal (codes "''") ≡ Some ([], 2)
literal-empty = refl

literal-open : literal (codes "'a") ≡ None
literal-open = refl

literal-none : literal (codes "a'b'") ≡ None
literal-none = refl

has_backslash-behind : has_backslash (codes "a\\b") ≡ true
has_backslash-behind = refl

has_backslash-slash : has_backslash (codes "a/b") ≡ false
has_backslash-slash = refl
