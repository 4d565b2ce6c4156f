-- Worked rows of names: what the definitions give, by computing.
use Rattle.sql_parts.proofs.Imports.{◌≡◌, codes, refl}
use Rattle.sql_parts.specs.{name_of, name_text, safe_text, with_alias, with_part, baquoted, quoted}
use Rattle.sql_parts.specs.Name.{Name}

abbrev safe_name : Name
safe_name = with_alias (codes "sn") (with_part (codes "sub") (name_of (codes "safe_name")))

abbrev awesome : Name
awesome = with_alias (codes "awesome name") (with_part (codes "sub") (name_of (codes "some 'awesome' name")))

baquoted-sub : name_text baquoted safe_name ≡ codes "`safe_name`.`sub` AS sn"
baquoted-sub = refl

quoted-awesome : name_text quoted awesome ≡ codes "'some ''awesome'' name'.'sub' AS `awesome name`"
quoted-awesome = refl

safe_text-books : safe_text (with_alias (codes "b") (with_part (codes "BOOKS") (name_of (codes "public")))) ≡ codes "`public`.`BOOKS` AS b"
safe_text-books = refl

-- the last alias counts
safe_text-two_aliases : safe_text (with_alias (codes "c") (with_alias (codes "b") (name_of (codes "a")))) ≡ codes "a AS c"
safe_text-two_aliases = refl
