-- Worked rows of readers, and of definitions and laws that are wrong.
use Rattle.sql_parts.proofs.Imports.{code, ◌≡◌, ◌≢◌, ◌==◌, ◌++◌, ℕ, Bool, true, List, [], ◌∷◌, IsTrue, Some, codes, if◌then◌else◌, option_map, refl, ne_eqb}
use Rattle.sql_parts.proofs.Imports.{eqb-false, Part, marks, Single, Square, Quotes}
use Rattle.sql_parts.specs.{words, brquoted, closing, opening, quoted, bound_parts, Constant, Reader, IsInsideAtEach, OpensLiteral, after, between_parts}
use Rattle.sql_parts.specs.{outer_states, parts_bytes, states, First, alone, bound, backslash_reader, token_reader}
use Rattle.sql_parts.proofs.tokens.{opens-every}

abbrev every : ℕ → Bool
every byte = true

-- ---- a reader of strings: 1 inside of one, 2 behind a quote that may end it, and else 0

abbrev string_reader : Reader
string_reader state byte = if state == 1 then (if byte == code "'" then 2 else 1) else (if byte == code "'" then 1 else 0)

opens : OpensLiteral string_reader every Single 0
opens = record { stays = λ byte plain isnt. rw (ne_eqb byte 39 isnt) refl; goes_on = refl }

states_of : states string_reader 0 (codes "a='it''s'b") ≡ 0 ∷ 0 ∷ 1 ∷ 1 ∷ 1 ∷ 2 ∷ 1 ∷ 1 ∷ 2 ∷ 0 ∷ []
states_of = refl

abbrev assigned : List ℕ → List Part
assigned text = Constant (codes "a=") ∷ between_parts Single text ++ Constant (codes "b") ∷ []

outer_of : outer_states string_reader 0 (marks (assigned (codes "it's"))) (parts_bytes (assigned (codes "it's"))) ≡ 0 ∷ 0 ∷ 1 ∷ 2 ∷ 0 ∷ []
outer_of = refl

-- ---- a reader that leaves the string at the first of two quotes

abbrev early_reader : Reader
early_reader state byte = if state == 2 then 0 else string_reader state byte

no_early : OpensLiteral early_reader every Single 0 → ⊥
no_early reads = eqb-false 0 1 refl reads.goes_on

early_after : after early_reader 0 (quoted (codes "x'y")) ≡ 1
early_after = refl

early_after_none : after early_reader 0 (quoted []) ≡ 2
early_after_none = refl

-- ---- plain bytes with the opening delimiter left out, in place of the closing one

abbrev OpensButOpening : Reader → (ℕ → Bool) → Quotes → ℕ → Type 0
OpensButOpening next plain quotes state =
    ((byte : ℕ) → IsTrue (plain byte) → byte ≢ opening quotes → next (next state (opening quotes)) byte ≡ next state (opening quotes))
    × (next (next (next state (opening quotes)) (closing quotes)) (closing quotes) ≡ next state (opening quotes))

-- 1 inside of brackets, 2 behind another opening bracket there
abbrev nesting_reader : Reader
nesting_reader state byte = if state == 0 then (if byte == code "[" then 1 else 0) else (if state == 1 then (if byte == code "[" then 2 else 1) else 2)

nests : OpensButOpening nesting_reader every Square 0
nests = (λ byte plain isnt. rw (ne_eqb byte 91 isnt) refl, refl)

nests_after : after nesting_reader 0 (brquoted (codes "[")) ≡ 2
nests_after = refl

nests_after_none : after nesting_reader 0 (brquoted []) ≡ 1
nests_after_none = refl

no_nesting : OpensLiteral nesting_reader every Square 0 → ⊥
no_nesting reads = eqb-false 2 1 refl (reads.stays 91 refl (eqb-false 91 93 refl))

-- ---- a placeholder that is inside of quotes

apart : IsInsideAtEach token_reader every 0 (bound_parts (codes "a = ?") First (alone (words [])))
apart = (tt, (tt, (opens-every Single, (tt, (tt, tt)))))

in_quotes : IsInsideAtEach token_reader every 0 (bound_parts (codes "a LIKE '%?%'") First (alone (words []))) → ⊥
in_quotes inside = eqb-false 119 295 refl (inside.1.1.0.stays 120 refl (eqb-false 120 39 refl))

in_quotes_ends : option_map (after token_reader 0) (bound (codes "a LIKE '%?%'") First (alone (words []))) ≡ Some 295
in_quotes_ends = refl

in_quotes_comment : option_map (after token_reader 0) (bound (codes "a LIKE '%?%'") First (alone (words (codes "--")))) ≡ Some (code "\n")
in_quotes_comment = refl

-- ---- a backslash that is plain where it escapes

no_backslash : OpensLiteral backslash_reader every Single 0 → ⊥
no_backslash reads = eqb-false 92 39 refl (reads.stays 92 refl (eqb-false 92 39 refl))

backslash_after : after backslash_reader 0 (quoted (codes "\\")) ≡ code "'"
backslash_after = refl

backslash_after_none : after backslash_reader 0 (quoted []) ≡ 0
backslash_after_none = refl
