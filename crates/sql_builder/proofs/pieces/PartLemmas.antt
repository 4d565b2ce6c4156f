-- Where the reader of tokens opens a string among pieces.
use Rattle.sql_builder.proofs.Imports.{◌≡◌, ℕ, true, [], ◌∷◌, ◌++◌, refl, sym, ap, ◌∙◌, subst, inl, inr, ◌⊎◌, append_assoc, false≢true, flat_map-append}
use Rattle.sql_builder.proofs.Imports.{doubled, token_reader, begins_with, is_edge, IsShut, edge-alike, Pieces}
use Rattle.sql_parts.specs.Readers.{IsInsideAtEach, after, parts_bytes}
use Rattle.sql_parts.proofs.tokens.ReaderLemmas.{inside-append}
use Rattle.sql_builder.specs.{Fixed, Quoted, pieces_text, every_byte, parts_in, piece_parts}
use Rattle.sql_builder.specs.Pieces.{Raw}

-- the parts of pieces have their bytes
pub parts_in-bytes : (printed : Pieces) → parts_bytes (parts_in printed) ≡ pieces_text printed
parts_in-bytes [] = refl
parts_in-bytes (Fixed words ∷ printed) = ap (λ more. words ++ more) (parts_in-bytes printed)
parts_in-bytes (Quoted quoted ∷ printed) =
    ap (λ more. 39 ∷ (doubled 39 quoted ++ (39 ∷ more))) (parts_in-bytes printed)
    ∙ ap (λ all. 39 ∷ all) (sym (append_assoc (doubled 39 quoted) (39 ∷ []) (pieces_text printed)))
parts_in-bytes (Raw raw ∷ printed) = ap (λ more. raw ++ more) (parts_in-bytes printed)

abbrev pub state_behind : ℕ → Pieces → ℕ
state_behind state ps = after token_reader state (pieces_text ps)

abbrev pub Opens : ℕ → Pieces → Type 0
Opens state ps = IsInsideAtEach token_reader every_byte state (parts_in ps)

pub opens-append : (state : ℕ) (x y : Pieces) → Opens state x → Opens (state_behind state x) y → Opens state (x ++ y)
opens-append state x y one other =
    subst (IsInsideAtEach token_reader every_byte state) (sym (flat_map-append piece_parts x y))
    (inside-append token_reader every_byte state (parts_in x) (parts_in y) one
    (subst (λ bytes. IsInsideAtEach token_reader every_byte (after token_reader state bytes) (parts_in y)) (sym (parts_in-bytes x)) other))

-- behind closed texts, pieces that begin with an edge or have no text
pub opens-shut : (state : ℕ) (ps : Pieces) → IsShut state → (pieces_text ps ≡ []) ⊎ (begins_with is_edge (pieces_text ps) ≡ true) → Opens 0 ps
    → Opens state ps
opens-shut state [] shut follows opens = tt
opens-shut state (Fixed [] ∷ ps) shut follows opens = (tt, opens-shut state ps shut follows opens.1)
opens-shut state (Fixed (byte ∷ words) ∷ ps) shut (inl none) opens = cc none
opens-shut state (Fixed (byte ∷ words) ∷ ps) shut (inr edge) opens =
    (tt, subst (λ s. Opens (after token_reader s words) ps) (sym (edge-alike state byte shut edge)) opens.1)
opens-shut state (Quoted quoted ∷ ps) shut (inl none) opens = cc none
opens-shut state (Quoted quoted ∷ ps) shut (inr edge) opens = absurd (false≢true edge)
opens-shut state (Raw [] ∷ ps) shut follows opens = (tt, opens-shut state ps shut follows opens.1)
opens-shut state (Raw (byte ∷ raw) ∷ ps) shut (inl none) opens = cc none
opens-shut state (Raw (byte ∷ raw) ∷ ps) shut (inr edge) opens =
    (tt, subst (λ s. Opens (after token_reader s raw) ps) (sym (edge-alike state byte shut edge)) opens.1)
