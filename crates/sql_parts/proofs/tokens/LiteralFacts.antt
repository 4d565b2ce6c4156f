-- Texts of word bytes alone, and the tokens of literals.
use Rattle.sql_parts.proofs.Imports.{◌≡◌, ℕ, zero, suc, ◌+◌, ◌<◌, ◌/◌, ◌%◌, Bool, true, false, not, List, [], ◌∷◌, ◌++◌, length, take, drop, map, refl, sym, ap}
use Rattle.sql_parts.proofs.Imports.{◌∙◌, subst, arith, ne_eqb, pos, negsuc, codes, if◌then◌else◌, AllBelowBase, digits_of, list_all, list_any, prefix_len}
use Rattle.sql_parts.proofs.Imports.{drop-length, take-length, and_from, and_parts, false≢true, nat_tests, all_below_base_digits_of, digits_of_step, Single}
use Rattle.sql_parts.specs.{literal_tokens, LiteralValue, null, truth, whole, words, literal_text, decimal_text, Token, Word, Symbol, closed, first, is_open}
use Rattle.sql_parts.specs.{is_word_byte, tokens}
use Rattle.sql_parts.proofs.tokens.FirstTokenLemmas.{first-word, tokens-rule}
use Rattle.sql_parts.proofs.tokens.TokenFacts.{between-tokens}

-- all bytes are a word's
abbrev pub is_word : List ℕ → Bool
is_word text = list_all is_word_byte text

word-length : (text : List ℕ) → is_word text ≡ true → prefix_len is_word_byte text ≡ length text
word-length [] is = refl
word-length (byte ∷ text) is =
    let parts = and_parts (is_word_byte byte) (is_word text) is in
    let more = word-length text parts.1 in
    rw parts.0 (omega (arith, more))

-- they are one token
pub word-tokens : (byte : ℕ) (text : List ℕ) → is_word (byte ∷ text) ≡ true → tokens (byte ∷ text) ≡ Word (byte ∷ text) ∷ []
word-tokens byte text is =
    let parts = and_parts (is_word_byte byte) (is_word text) is in
    let bytes = word-length text parts.1 in
    tokens-rule byte text
    ∙ ap (λ (found : List Token × ℕ). found.0 ++ tokens (drop found.1 text)) (first-word byte text parts.0)
    ∙ ap (λ n. Word (byte ∷ take n text) ∷ tokens (drop n text)) bytes
    ∙ (λ i. Word (byte ∷ take-length text i) ∷ tokens (drop-length text i))

digit-word : (digit : ℕ) → digit < 10 → is_word_byte (48 + digit) ≡ true
digit-word digit small = grind (arith, nat_tests, small)

glyphs-word : (digits : List ℕ) → AllBelowBase 10 digits → is_word (map (λ digit. 48 + digit) digits) ≡ true
glyphs-word [] small = refl
glyphs-word (digit ∷ digits) small = and_from _ _ (digit-word digit small.0) (glyphs-word digits small.1)

-- a decimal text is such a text, and has a byte
abbrev Begun : List ℕ → Type 0
Begun text = (byte : ℕ) × (rest : List ℕ) × (text ≡ byte ∷ rest)

map-begun : (front : List ℕ) (last : ℕ) → Begun (map (λ digit. 48 + digit) (front ++ last ∷ []))
map-begun [] last = (_, _, refl)
map-begun (digit ∷ front) last = (_, _, refl)

-- the digits of a number that is not 0, as bytes
abbrev pub glyphs : ℕ → List ℕ
glyphs n = map (λ digit. 48 + digit) (digits_of 10 n)

pub decimal-glyphs : (n : ℕ) → decimal_text (suc n) ≡ glyphs (suc n)
decimal-glyphs n = ap (λ test. if test then codes "0" else glyphs (suc n)) (ne_eqb (suc n) 0 (λ e. omega arith))

decimal-begun : (n : ℕ) → Begun (decimal_text (suc n))
decimal-begun n =
    let chain_start = map-begun (digits_of 10 (suc n / 10)) (suc n % 10) in
    (chain_start.0, chain_start.1, decimal-glyphs n ∙ ap (map (λ digit. 48 + digit)) (digits_of_step 10 (suc n) (omega arith) (omega arith)) ∙ chain_start.2)

decimal-word : (n : ℕ) → is_word (decimal_text (suc n)) ≡ true
decimal-word n = ap is_word (decimal-glyphs n) ∙ glyphs-word (digits_of 10 (suc n)) (all_below_base_digits_of 10 (suc n) (omega arith))

begun-tokens : (text : List ℕ) → Begun text → is_word text ≡ true → tokens text ≡ Word text ∷ []
begun-tokens text chain_start is =
    subst (λ t. tokens t ≡ Word t ∷ []) (sym chain_start.2) (word-tokens chain_start.0 chain_start.1 (ap is_word (sym chain_start.2) ∙ is))

-- a minus before a word
minus-first : (byte : ℕ) (text : List ℕ) → is_word_byte byte ≡ true → first 45 (byte ∷ text) ≡ (Symbol 45 ∷ [], 0)
minus-first byte text is = rw (ne_eqb 45 byte (λ same. false≢true (ap is_word_byte same ∙ is)))

minus-tokens : (text : List ℕ) → Begun text → is_word text ≡ true → tokens (45 ∷ text) ≡ Symbol 45 ∷ tokens text
minus-tokens text chain_start is =
    let word : is_word (chain_start.0 ∷ chain_start.1) ≡ true = ap is_word (sym chain_start.2) ∙ is in
    subst (λ t. tokens (45 ∷ t) ≡ Symbol 45 ∷ tokens t) (sym chain_start.2)
    (tokens-rule 45 (chain_start.0 ∷ chain_start.1)
    ∙ ap (λ (found : List Token × ℕ). found.0 ++ tokens (drop found.1 (chain_start.0 ∷ chain_start.1)))
    (minus-first chain_start.0 chain_start.1 (and_parts (is_word_byte chain_start.0) (is_word chain_start.1) word).0))

number-tokens : (n : ℕ) → tokens (decimal_text n) ≡ Word (decimal_text n) ∷ []
number-tokens zero = refl
number-tokens (suc n) = begun-tokens (decimal_text (suc n)) (decimal-begun n) (decimal-word n)

-- the tokens of a literal
pub literal-is : (literal : LiteralValue) → tokens (literal_text literal) ≡ literal_tokens literal
literal-is null = refl
literal-is (truth true) = refl
literal-is (truth false) = refl
literal-is (whole (pos n)) = number-tokens n
literal-is (whole (negsuc n)) = minus-tokens (decimal_text (suc n)) (decimal-begun n) (decimal-word n)
    ∙ ap (λ tokens. Symbol 45 ∷ tokens) (number-tokens (suc n))
literal-is (words text) = between-tokens Single text

-- none of them is open
literal-shut : (literal : LiteralValue) → list_any is_open (literal_tokens literal) ≡ false
literal-shut null = refl
literal-shut (truth value) = refl
literal-shut (whole (pos n)) = refl
literal-shut (whole (negsuc n)) = refl
literal-shut (words text) = refl

pub literal-closed : (literal : LiteralValue) → closed (literal_text literal) ≡ true
literal-closed literal = ap (λ tokens. not (list_any is_open tokens)) (literal-is literal) ∙ ap not (literal-shut literal)
