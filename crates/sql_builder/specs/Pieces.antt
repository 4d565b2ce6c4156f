-- Texts, and the pieces that a statement is made of.
use Rattle.std.specs.Prelude.{ℕ, List, [], ◌∷◌, flat_map}
use Rattle.sql_parts.specs.Quoting.{quoted}

-- A piece of a statement: a text of the builder's own, a text between single quotes, or a raw fragment, which is printed unchanged.
pub data Piece : Type 0 where
  Fixed : List ℕ → Piece
  Quoted : List ℕ → Piece
  Raw : List ℕ → Piece

-- a text, piece by piece
abbrev pub Pieces : Type 0
Pieces = List Piece

-- the bytes that a piece prints
abbrev pub piece_text : Piece → List ℕ
piece_text (Fixed text) = text
piece_text (Quoted text) = quoted text
piece_text (Raw text) = text

-- the bytes that pieces print, one after another
abbrev pub pieces_text : Pieces → List ℕ
pieces_text pieces = flat_map piece_text pieces

-- a text of the builder's own
abbrev pub fixed_piece : List ℕ → Pieces
fixed_piece text = Fixed text ∷ []

-- a text between single quotes
abbrev pub quoted_piece : List ℕ → Pieces
quoted_piece text = Quoted text ∷ []

-- a raw fragment
abbrev pub raw_piece : List ℕ → Pieces
raw_piece text = Raw text ∷ []
