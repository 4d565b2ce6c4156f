-- What is left of a text that is read by lines, and so many arguments of a line as are wanted.
use Rattle.std.specs.Prelude.{◌≡◌, ◌<◌, ℕ, ◌==◌, length, IsUtf8, List, [], ◌∷◌, Bool, true, false, ◌||◌, Result, Ok, Err}
use Rattle.std.specs.List.{after_first, before_first}
use Rattle.sqlb.specs.Lines.{lines, parts_of}
use Rattle.sqlb.specs.declared.fault.Reason.{Reason}
use Rattle.sqlb.specs.declared.fault.Reason.TheVariants.{WrongArguments}

-- this byte or a line feed
abbrev pub is_or_feed : ℕ → ℕ → Bool
is_or_feed first byte = byte == first || byte == 10

-- a byte that ends a part: a TAB or a line feed
abbrev pub is_separator : ℕ → Bool
is_separator byte = byte == 9 || byte == 10

-- What is left of a text: the parts of the line that is read, but for those that are taken, and the text behind it.
pub record Remaining : Type 0 where
  pub parts : List (List ℕ)
  pub behind : List ℕ

-- what is left where the rest of a text begins inside of a line, or at the beginning of one that is not read yet
abbrev pub remaining_of : Bool → List ℕ → Remaining
remaining_of true rest = record {
  parts = parts_of (before_first (λ byte. byte == 10) rest);
  behind = after_first (λ byte. byte == 10) rest;
}
remaining_of false rest = record { parts = []; behind = rest }

-- The next line of a text is read: its parts are left, and the lines behind it.
pub record IsNextLine (text : List ℕ) (left : Remaining) : Type 0 where
  pub line : List ℕ
  pub first : lines text ≡ line ∷ lines left.behind
  pub shorter : length left.behind < length text
  pub utf8 : IsUtf8 line
  pub parts : left.parts ≡ parts_of line

-- all parts of the line are taken, and nothing behind it
abbrev pub IsTaken : Remaining → Remaining → Type 0
IsTaken old new = (new.parts ≡ []) × (new.behind ≡ old.behind)

-- nothing, where there is no part
abbrev pub none_of : List (List ℕ) → Result (Unit {0}) Reason
none_of [] = Ok tt
none_of _ = Err WrongArguments

-- the one part, where there are no others
abbrev pub one_of : List (List ℕ) → Result (List ℕ) Reason
one_of (part ∷ []) = Ok part
one_of _ = Err WrongArguments

-- the two parts, where there are no others
abbrev pub two_of : List (List ℕ) → Result (List ℕ × List ℕ) Reason
two_of (first ∷ second ∷ []) = Ok (first, second)
two_of _ = Err WrongArguments

-- the three parts, where there are no others
abbrev pub three_of : List (List ℕ) → Result (List ℕ × List ℕ × List ℕ) Reason
three_of (first ∷ second ∷ third ∷ []) = Ok (first, second, third)
three_of _ = Err WrongArguments

-- the first part and the others, where there is one
abbrev pub first_of : List (List ℕ) → Result (List ℕ × List (List ℕ)) Reason
first_of [] = Err WrongArguments
first_of (part ∷ parts) = Ok (part, parts)
