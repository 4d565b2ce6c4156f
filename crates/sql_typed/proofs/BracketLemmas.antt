-- Texts between brackets of our own.
use Rattle.sql_typed.proofs.Imports.{◌≡◌, ◌==◌, ◌⊎◌, inl, inr, Option, None, Some, if◌then◌else◌, refl, sym, arith, ◌∙◌, ap, ◌++◌, ℕ, Bool, true, false, List, [], ◌∷◌, codes, append_assoc, nat_eq, starts_with, and_from, cases_Bool}
use Rattle.sql_typed.proofs.Imports.{false≢true, not_from_false, or_from, or_parts, true≢false, balanced, is_clause_word, is_symbol, ServesAsOperand, Token, Name, Str, Word, Symbol, begins_with, first, inside, is_blank, is_one_of}
use Rattle.sql_typed.proofs.Imports.{is_word_byte, tokens, tokens_from, unquoted, has_top_level-is, is_balanced, is_balanced-is, is_even, is_operand, is_operand-is, serves, enclosed-tokens, byte_units, balanced_closed, even_text}
use Rattle.sql_typed.proofs.Imports.{is_balanced-append, is_even-append, is_even-brackets, is_operand-brackets, no_clause-brackets, bracket_fronts, may_begin_bracketed, united_text}
use Rattle.std.proofs.lemmas.Bool.Decides.{nat_tests}
use Rattle.sql_builder.specs.Phrases as phrase
use Rattle.sql_builder.specs.WhereTokens.{in_brackets}
use Rattle.sql_builder.proofs.tokens.WhereTokenFacts.{has_clause}

-- what is balanced is an operand in brackets
pub brackets_serve : (text : List ℕ) → balanced text ≡ true → ServesAsOperand (phrase.in_brackets byte_units text)
unfolding in_brackets
brackets_serve text is =
    let ts : List Token = tokens text in
    let even = even_text text is in
    let written = phrase.in_brackets byte_units text in
    let are : tokens written ≡ in_brackets ts = enclosed-tokens (codes "(") text (codes ")") refl refl (balanced_closed text is) refl in
    serves written (and_from _ _ (is_operand-is (tokens written) ∙ ap is_operand are ∙ is_operand-brackets ts even)
    (not_from_false _ (has_top_level-is is_clause_word (tokens written) ∙ ap has_clause are ∙ no_clause-brackets ts even)))

-- ---- a query behind a UNION

-- before and behind its brackets
abbrev opening : List Token
opening = Word (codes "SELECT") ∷ Symbol 42 ∷ Word (codes "FROM") ∷ []

abbrev naming : List Token
naming = Word (codes "AS") ∷ Word (codes "u") ∷ []

table-balanced : (ts : List Token) → is_even ts ≡ true → is_balanced (opening ++ (in_brackets ts ++ naming)) ≡ true
table-balanced ts even = is_balanced-append opening (in_brackets ts ++ naming) refl (is_even-append (in_brackets ts) naming (is_even-brackets ts even) refl)

pub united_balanced : (needs_brackets : Bool) (query : List ℕ) → balanced query ≡ true → balanced (united_text needs_brackets query) ≡ true
unfolding in_brackets
united_balanced false query is = is
united_balanced true query is = is_balanced-is (tokens (united_text true query))
    ∙ ap is_balanced (enclosed-tokens (codes "SELECT * FROM (") query (codes ") AS u") refl refl (balanced_closed query is) refl
    ∙ ap (λ ts. opening ++ (Symbol 40 ∷ ts)) (sym (append_assoc (tokens query) (Symbol 41 ∷ []) naming)))
    ∙ table-balanced (tokens query) (even_text query is)

-- ---- a text that begins with `(`

module _ (rest : List Token) where
  -- what is read, and what follows it, don't begin with it
  abbrev Other : List Token × ℕ → Type 0
  Other found = begins_with (is_symbol 40) (found.0 ++ rest) ≡ false

  either : (b : Bool) (x y : List Token × ℕ) → Other x → Other y → Other (if b then x else y)
  either true x y is other = is
  either false x y is other = other

  skip : (b : Bool) (x y : List Token × ℕ) → b ≡ false → Other y → Other (if b then x else y)
  skip true x y none other = absurd (true≢false none)
  skip false x y none other = other

  quoted-other : (token : List ℕ → Token) (behind : List ℕ) (found : Option (List ℕ × ℕ)) → ((text : List ℕ) → is_symbol 40 (token text) ≡ false)
      → Other (unquoted token behind found)
  quoted-other token behind None plain = refl
  quoted-other token behind (Some found) plain = plain found.0

  first-other : (byte : ℕ) (behind : List ℕ) → is_one_of bracket_fronts byte ≡ false → starts_with nat_eq (byte ∷ behind) (codes "--") ≡ false
      → Other (first byte behind)
  first-other byte behind none dashes =
      let bracket = or_parts (byte == 40) _ none in
      let space = or_parts (byte == 32) _ bracket.1 in
      let tab = or_parts (byte == 9) _ space.1 in
      let line = or_parts (byte == 10) _ tab.1 in
      let return = or_parts (byte == 13) _ line.1 in
      let slash = or_parts (byte == 47) _ return.1 in
      let block : starts_with nat_eq (byte ∷ behind) (codes "/*") ≡ false = grind (arith, nat_tests, slash.0) in
      skip (is_blank byte) _ _ (or_from _ _ space.0 (or_from _ _ tab.0 (or_from _ _ line.0 (or_from _ _ return.0 refl))))
      (skip (starts_with nat_eq (byte ∷ behind) (codes "--")) _ _ dashes
      (skip (starts_with nat_eq (byte ∷ behind) (codes "/*")) _ _ block
      (either (byte == 39) _ _ (quoted-other Str behind (inside 39 behind) (λ text. refl))
      (either (byte == 34) _ _ (quoted-other Name behind (inside 34 behind) (λ text. refl))
      (either (byte == 96) _ _ (quoted-other Name behind (inside 96 behind) (λ text. refl))
      (either (byte == 91) _ _ (quoted-other Name behind (inside 93 behind) (λ text. refl))
      (either (is_word_byte byte) _ _ refl bracket.0)))))))

-- the test of a bracket at the front misses none
pub bracket_found : (text : List ℕ) → begins_with (is_symbol 40) (tokens text) ≡ true → may_begin_bracketed text ≡ true
bracket_found [] is = absurd (false≢true is)
bracket_found (byte ∷ behind) is = by (cases_Bool (may_begin_bracketed (byte ∷ behind)))
  where
    by : (may_begin_bracketed (byte ∷ behind) ≡ true) ⊎ (may_begin_bracketed (byte ∷ behind) ≡ false) → may_begin_bracketed (byte ∷ behind) ≡ true
    by (inl found) = found
    by (inr none) =
        let both = or_parts (is_one_of bracket_fronts byte) _ none in
        absurd (false≢true (sym (first-other (tokens_from (first byte behind).1 behind) byte behind both.0 both.1) ∙ is))
