-- Worked rows of bytes in texts: what the definition gives, by computing.
use Rattle.std.specs.Prelude.{◌≡◌, [], ◌∷◌, true, false, codes, refl}
use Rattle.sql_parts.specs.Text.{has_byte}

has_byte-last : has_byte 0 (120 ∷ 0 ∷ []) ≡ true
has_byte-last = refl

has_byte-digit : has_byte 0 (codes "x0") ≡ false
has_byte-digit = refl

has_byte-none : has_byte 0 [] ≡ false
has_byte-none = refl
