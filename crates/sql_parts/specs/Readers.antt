-- Readers: what reads a text byte by byte, as a database's lexer does, whatever its rules are.
use Rattle.std.specs.Prelude.{◌≡◌, ◌≢◌, ◌==◌, ℕ, Bool, true, false, IsTrue, List, [], ◌∷◌, flat_map, if◌then◌else◌, map}
use Rattle.std.specs.List.{list_all}
use Rattle.sql_parts.specs.Quoting.{closing, doubled, opening}
use Rattle.sql_parts.specs.declared.delimiters.Quotes.{Quotes}

-- A reader: its state behind a byte, by its state before that. A state is a number that decides how the next byte is read: which quotes,
-- comments, brackets and tags are open. The text of the literal that is read is no part of it. A lexer that looks ahead is a reader with
-- more states.
abbrev pub Reader : Type 0
Reader = ℕ → ℕ → ℕ

-- its state behind a text
abbrev pub after : Reader → ℕ → List ℕ → ℕ
after next state [] = state
after next state (byte ∷ text) = after next (next state byte) text

-- its states behind each byte of a text
abbrev pub states : Reader → ℕ → List ℕ → List ℕ
states next state [] = []
states next state (byte ∷ text) = next state byte ∷ states next (next state byte) text

-- In this state the reader is inside of a literal that a delimiter ends: each plain byte but the delimiter keeps it there, and so does the
-- delimiter twice. Which bytes are plain is up to the reader: a backslash is not where it escapes.
pub record IsInside (next : Reader) (plain : ℕ → Bool) (delimiter state : ℕ) : Type 0 where
  pub stays : (byte : ℕ) → IsTrue (plain byte) → byte ≢ delimiter → next state byte ≡ state
  pub goes_on : next (next state delimiter) delimiter ≡ state

-- in this state the delimiter before a text opens a literal, which the delimiter behind it ends
abbrev pub OpensLiteral : Reader → (ℕ → Bool) → Quotes → ℕ → Type 0
OpensLiteral next plain quotes state = IsInside next plain (closing quotes) (next state (opening quotes))

-- the states behind each byte of a text whose delimiters are doubled: inside, but behind the first of two delimiters
abbrev pub inner_states : ℕ → ℕ → ℕ → List ℕ → List ℕ
inner_states inside ended delimiter text = flat_map (λ byte. if byte == delimiter then ended ∷ inside ∷ [] else inside ∷ []) text

-- ---- texts with other texts in them

-- A part of a text: bytes of the program's own, or an untrusted text with each such delimiter in it doubled.
pub data Part : Type 0 where
  Constant : List ℕ → Part
  Doubled : ℕ → List ℕ → Part

-- the bytes of a part
abbrev pub part_bytes : Part → List ℕ
part_bytes (Constant text) = text
part_bytes (Doubled delimiter text) = doubled delimiter text

-- the bytes of parts, one after another
abbrev pub parts_bytes : List Part → List ℕ
parts_bytes parts = flat_map part_bytes parts

-- a text between quotes
abbrev pub between_parts : Quotes → List ℕ → List Part
between_parts quotes text = Constant (opening quotes ∷ []) ∷ Doubled (closing quotes) text ∷ Constant (closing quotes ∷ []) ∷ []

-- a part with no text in place of an untrusted one
abbrev pub emptied : Part → Part
emptied (Constant text) = Constant text
emptied (Doubled delimiter text) = Doubled delimiter []

-- parts that are equal when emptied: they differ only in texts whose delimiters are doubled
abbrev pub DifferInDoubledTexts : List Part → List Part → Type 0
DifferInDoubledTexts one other = map emptied one ≡ map emptied other

-- the bytes of an untrusted text are plain
abbrev pub has_plain_text : (ℕ → Bool) → Part → Bool
has_plain_text plain (Constant text) = true
has_plain_text plain (Doubled delimiter text) = list_all plain text

-- where an untrusted text begins, the reader is inside of a literal that the delimiter ends
abbrev pub IsInsideAt : Reader → (ℕ → Bool) → ℕ → Part → Type 0
IsInsideAt next plain state (Constant text) = Unit {0}
IsInsideAt next plain state (Doubled delimiter text) = IsInside next plain delimiter state

-- where each of them begins
abbrev pub IsInsideAtEach : Reader → (ℕ → Bool) → ℕ → List Part → Type 0
IsInsideAtEach next plain state [] = Unit {0}
IsInsideAtEach next plain state (part ∷ parts) =
    IsInsideAt next plain state part × IsInsideAtEach next plain (after next state (part_bytes part)) parts

-- for each byte of a part, whether it is of an untrusted text
abbrev pub part_marks : Part → List Bool
part_marks (Constant text) = map (λ byte. false) text
part_marks (Doubled delimiter text) = map (λ byte. true) (doubled delimiter text)

-- for each byte of parts
abbrev pub marks : List Part → List Bool
marks parts = flat_map part_marks parts

-- what isn't marked
abbrev pub unmarked : List Bool → List ℕ → List ℕ
unmarked (true ∷ marks) (element ∷ elements) = unmarked marks elements
unmarked (false ∷ marks) (element ∷ elements) = element ∷ unmarked marks elements
unmarked _ elements = elements

-- the states of a reader behind each byte of a text that isn't marked
abbrev pub outer_states : Reader → ℕ → List Bool → List ℕ → List ℕ
outer_states next state marks text = unmarked marks (states next state text)
