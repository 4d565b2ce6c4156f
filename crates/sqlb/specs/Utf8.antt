-- Inputs that are not all UTF-8.
use Rattle.std.specs.Prelude.{◌≡◌, ℕ, List, ◌∷◌, ◌++◌, IsUtf8}
use Rattle.sqlb.specs.Lines.{lines}

-- These bytes are UTF-8, but for a last character whose end is missing.
abbrev pub BeginsText : List ℕ → Type 0
BeginsText bytes = (end : List ℕ) × IsUtf8 (bytes ++ end)

-- A text has the lines of an input before the first that is not UTF-8.
pub record EndsBeforeInvalidLine (input text : List ℕ) : Type 0 where
  pub line : List ℕ
  pub behind : List (List ℕ)
  pub split : lines input ≡ lines text ++ line ∷ behind
  pub no_text : ¬ (IsUtf8 line)
