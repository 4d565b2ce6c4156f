-- Worked rows of templates: what the definitions give, by computing.
use Rattle.sql_parts.proofs.Imports.{◌≡◌, ℕ, List, [], ◌∷◌, codes, true, Option, Some, None, refl, reverse, option_map, pos, find, bytes_eq}
use Rattle.sql_parts.specs.{LiteralValue, truth, whole, words, First, Cycle, Num, Nums, Names, Argument, Replacement, alone, listed, looked_up, bound, resolve}
use Rattle.sql_parts.specs.Templates.{Name}

abbrev number : ℕ → LiteralValue
number n = whole (pos n)

abbrev ten : Replacement → LiteralValue
ten = listed (number 10 ∷ [])

-- the literal of the last pair with the name
abbrev in_pairs : List (List ℕ × LiteralValue) → List ℕ → Option LiteralValue
in_pairs pairs name = option_map (λ pair. pair.1) (find (λ pair. bytes_eq name pair.0) (reverse pairs))

abbrev x_and_y : Replacement → LiteralValue
x_and_y = looked_up (in_pairs ((codes "x", number 1) ∷ (codes "y", number 2) ∷ []))

cycle_texts : bound (codes "? = ?") (Cycle 2) (listed (words (codes "a?b") ∷ number 1 ∷ [])) ≡ Some (codes "'a?b' = 1")
cycle_texts = refl

nums_all : bound (codes "$1f$02o$$o$3$4") (Nums 3) (listed (number 10 ∷ words (codes "AAA") ∷ truth true ∷ []))
    ≡ Some (codes "10f'AAA'o$oTRUE")
nums_all = refl

first_of_two : bound (codes "f?o?o") First (alone (words (codes "fo?o"))) ≡ Some (codes "f'fo?o'o?o")
first_of_two = refl

first_as_received : bound (codes "fo?o") First (alone (words (codes "f?o?o"))) ≡ Some (codes "fo'f?o?o'o")
first_as_received = refl

cycle_fails : bound (codes "?") (Cycle 0) (listed []) ≡ None
cycle_fails = refl

cycle_kinds : bound (codes "?f?o?o?") (Cycle 3) (listed (number 10 ∷ words (codes "AAA") ∷ truth true ∷ [])) ≡ Some (codes "10f'AAA'oTRUEo10")
cycle_kinds = refl

nums_letter : bound (codes "$x") (Nums 1) ten ≡ Some (codes "x")
nums_letter = refl

nums_zeros : bound (codes "$00$$") (Nums 1) ten ≡ Some (codes "$")
nums_zeros = refl

names_both : bound (codes ":x::y:") Names x_and_y ≡ Some (codes "12")
names_both = refl

names_then_unclosed : bound (codes "a:x:c:") Names x_and_y ≡ Some (codes "a1c:")
names_then_unclosed = refl

names_last : bound (codes ":x:") Names (looked_up (in_pairs ((codes "x", number 1) ∷ (codes "x", number 2) ∷ [])))
    ≡ Some (codes "2")
names_last = refl

names_three : bound (codes ":a:, :c:, :e:") Names (looked_up (in_pairs ((codes "a", number 10) ∷ (codes "c", words (codes "tt")) ∷ [])))
    ≡ Some (codes "10, 'tt', NULL")
names_three = refl

num_beside : bound (codes "$1$12$1") (Num 1) (alone (number 7)) ≡ Some (codes "7$127")
num_beside = refl

num_zero_before : bound (codes "$012") (Num 12) (alone (number 8)) ≡ Some (codes "$012")
num_zero_before = refl

name_touching : bound (codes ":a:a:") (Name (codes "a")) (alone (number 1)) ≡ Some (codes "1a:")
name_touching = refl

name_empty : bound (codes "a::b") (Name []) (alone (number 1)) ≡ Some (codes "a1b")
name_empty = refl

joined_pieces : resolve (codes "a$$b$9c$1d") (Nums 1) ≡ Some (codes "a$bc", (Argument 0, codes "d") ∷ [])
joined_pieces = refl
