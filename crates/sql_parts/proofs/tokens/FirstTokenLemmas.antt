-- What the methods of a text say of the tokens at its front.
use Rattle.sql_parts.proofs.Imports.{◌≡◌, ◌≢◌, ℕ, zero, suc, ◌+◌, ◌<◌, ◌≤◌, true, false, List, [], ◌∷◌, ◌++◌, length, get_or, take, drop, Option, Some, None}
use Rattle.sql_parts.proofs.Imports.{refl, sym, ap, ◌∙◌, arith, ne_eqb, eq-eqb, length-append, length-drop, subst, Bor, ◌==◌, option_map, prefix_len}
use Rattle.sql_parts.proofs.Imports.{LacksTextAt, IsCharBoundary, IsUtf8, drop-append_seam, drop-length, nat_tests, IsCharBoundary-after_ascii, false≢true}
use Rattle.sql_parts.proofs.Imports.{MatchOption, inside}
use Rattle.sql_parts.specs.{IsRead, Represents, behind_bytes, optional_bytes, Token, Word, Open, first, is_word_byte, reach, tokens, tokens_from, unquoted}
use Rattle.sql_parts.specs.{word}
use Rattle.sql_parts.specs.declared.tokenizer.Token as declared
use Rattle.sql_parts.specs.declared.tokenizer.Token.TheVariants as seen
use Rattle.sql_parts.proofs.templates.ResolveLemmas.{starts_with-yes, starts_with-no}

behind-suc : (byte : ℕ) (text : List ℕ) (bytes : Option ℕ) → behind_bytes (byte ∷ text) (option_map suc bytes) ≡ behind_bytes text bytes
behind-suc byte text None = refl
behind-suc byte text (Some n) = refl

nothing-begins : (front behind : List ℕ) → 0 < length front → [] ≢ front ++ behind
nothing-begins front behind some is =
    let none : 0 ≡ length front + length behind = ap length is ∙ length-append front behind in
    absurd (omega (arith, some, none))

-- the first ending
pub reach-found : (ending text : List ℕ) (i : ℕ) (behind : List ℕ) → 0 < length ending → ((n : ℕ) → n < i → LacksTextAt ending text n)
    → drop i text ≡ ending ++ behind → behind_bytes text (reach ending text) ≡ Some behind
reach-found ending [] zero behind some lacks is = absurd (nothing-begins ending behind some is)
reach-found ending [] (suc i) behind some lacks is = absurd (nothing-begins ending behind some is)
reach-found ending (byte ∷ text) zero behind some lacks is =
    rw (starts_with-yes (byte ∷ text) ending behind is) (ap Some (ap (drop (length ending)) is ∙ drop-append_seam ending behind))
reach-found ending (byte ∷ text) (suc i) behind some lacks is =
    rw (starts_with-no (byte ∷ text) ending (lacks 0 (omega arith)))
    (behind-suc byte text (reach ending text) ∙ reach-found ending text i behind some (λ n h. lacks (suc n) (omega arith)) is)

pub reach-none : (ending text : List ℕ) → ((i : ℕ) → i ≤ length text → LacksTextAt ending text i) → reach ending text ≡ None
reach-none ending [] lacks = refl
reach-none ending (byte ∷ text) lacks =
    rw (starts_with-no (byte ∷ text) ending (lacks 0 (omega arith)))
    (ap (option_map suc) (reach-none ending text (λ i h. lacks (suc i) (omega arith))))

-- how many bytes a quote takes
abbrev pub taken : Option (List ℕ × ℕ) → Option ℕ
taken found = option_map (λ f. f.1) found

-- the text behind a quote
abbrev pub behind_inside : ℕ → List ℕ → Option (List ℕ)
behind_inside delimiter text = behind_bytes text (taken (inside delimiter text))

inside-byte : (delimiter byte : ℕ) (text : List ℕ) → byte ≢ delimiter
    → inside delimiter (byte ∷ text) ≡ option_map (λ found. (byte ∷ found.0, suc found.1)) (inside delimiter text)
inside-byte delimiter byte [] other = rw (ne_eqb byte delimiter other)
inside-byte delimiter byte (next ∷ text) other = rw (ne_eqb byte delimiter other)

behind_more : (byte : ℕ) (text : List ℕ) (found : Option (List ℕ × ℕ))
    → behind_bytes (byte ∷ text) (taken (option_map (λ f. (byte ∷ f.0, suc f.1)) found)) ≡ behind_bytes text (taken found)
behind_more byte text None = refl
behind_more byte text (Some found) = refl

behind_twice : (delimiter : ℕ) (text : List ℕ) (found : Option (List ℕ × ℕ))
    → behind_bytes (delimiter ∷ delimiter ∷ text) (taken (option_map (λ f. (delimiter ∷ f.0, suc (suc f.1))) found)) ≡ behind_bytes text (taken found)
behind_twice delimiter text None = refl
behind_twice delimiter text (Some found) = refl

-- bytes that are no delimiter are passed over
inside-before : (delimiter : ℕ) (before text : List ℕ) → ((i : ℕ) → i < length before → get_or before i 0 ≢ delimiter)
    → behind_inside delimiter (before ++ text) ≡ behind_inside delimiter text
inside-before delimiter [] text without = refl
inside-before delimiter (byte ∷ before) text without =
    ap (λ found. behind_bytes (byte ∷ (before ++ text)) (taken found)) (inside-byte delimiter byte (before ++ text) (without 0 (omega arith)))
    ∙ behind_more byte (before ++ text) (inside delimiter (before ++ text))
    ∙ inside-before delimiter before text (λ i h. without (suc i) (omega arith))

pub inside-none : (delimiter : ℕ) (text : List ℕ) → ((i : ℕ) → i < length text → get_or text i 0 ≢ delimiter) → inside delimiter text ≡ None
inside-none delimiter [] without = refl
inside-none delimiter (byte ∷ text) without =
    inside-byte delimiter byte text (without 0 (omega arith))
    ∙ ap (option_map (λ found. (byte ∷ found.0, suc found.1))) (inside-none delimiter text (λ i h. without (suc i) (omega arith)))

-- a delimiter twice is passed over
pub inside-twice : (delimiter : ℕ) (text before behind more : List ℕ) → text ≡ before ++ (delimiter ∷ behind) → behind ≡ delimiter ∷ more
    → ((i : ℕ) → i < length before → get_or before i 0 ≢ delimiter) → behind_inside delimiter text ≡ behind_inside delimiter more
inside-twice delimiter text before behind more cut twice without =
    ap (behind_inside delimiter) (cut ∙ ap (λ b. before ++ (delimiter ∷ b)) twice)
    ∙ inside-before delimiter before (delimiter ∷ delimiter ∷ more) without
    ∙ rw (eq-eqb delimiter delimiter refl) (behind_twice delimiter more (inside delimiter more))

inside-one : (delimiter : ℕ) (behind : List ℕ) → ((more : List ℕ) → behind ≢ delimiter ∷ more) → behind_inside delimiter (delimiter ∷ behind) ≡ Some behind
inside-one delimiter [] single = rw (eq-eqb delimiter delimiter refl)
inside-one delimiter (next ∷ behind) single = rw (eq-eqb delimiter delimiter refl, ne_eqb next delimiter (λ same. single behind (ap (λ n. n ∷ behind) same)))

-- and a delimiter alone closes
pub inside-closed : (delimiter : ℕ) (text before behind : List ℕ) → text ≡ before ++ (delimiter ∷ behind) → ((more : List ℕ) → behind ≢ delimiter ∷ more)
    → ((i : ℕ) → i < length before → get_or before i 0 ≢ delimiter) → behind_inside delimiter text ≡ Some behind
inside-closed delimiter text before behind cut single without =
    ap (behind_inside delimiter) cut ∙ inside-before delimiter before (delimiter ∷ behind) without ∙ inside-one delimiter behind single

pub tokens_from-drop : (skipped : ℕ) (text : List ℕ) → tokens_from skipped text ≡ tokens (drop skipped text)
tokens_from-drop zero text = refl
tokens_from-drop (suc skipped) [] = refl
tokens_from-drop (suc skipped) (byte ∷ text) = tokens_from-drop skipped text

-- the tokens by the first rule, and then those of the rest
pub tokens-rule : (byte : ℕ) (behind : List ℕ) → tokens (byte ∷ behind) ≡ (first byte behind).0 ++ tokens (drop (first byte behind).1 behind)
tokens-rule byte behind = ap (λ rest. (first byte behind).0 ++ rest) (tokens_from-drop (first byte behind).1 behind)

abbrev pub Finds : List ℕ → Option declared.Token × Bor (List ℕ) → Type 0
Finds text read = MatchOption read.0 (tokens read.1.now ≡ tokens text) (λ found. (token : Token) × Represents found token
    × (tokens text ≡ token ∷ tokens read.1.now))

by-rule : (text behind : List ℕ) (read : Option declared.Token × Bor (List ℕ)) (given : List Token × ℕ) → tokens text ≡ given.0 ++ tokens (drop given.1 behind)
    → IsRead behind read given → Finds text read × (length read.1.now ≤ length behind)
by-rule text behind (None, rest) ([], skipped) is here = (ap tokens here ∙ sym is, rw (here, length-drop) (omega arith))
by-rule text behind (Some found, rest) (token ∷ [], skipped) is here =
    ((token, here.0, is ∙ ap (λ r. token ∷ tokens r) (sym here.1)), rw (here.1, length-drop) (omega arith))
by-rule text behind (None, rest) (token ∷ more, skipped) is here = absurd here
by-rule text behind (Some found, rest) ([], skipped) is here = absurd here
by-rule text behind (Some found, rest) (token ∷ next ∷ more, skipped) is here = absurd here

-- where a token is found, and where none is
pub found-token : (text : List ℕ) (read : Option declared.Token × Bor (List ℕ)) (found : declared.Token) → Finds text read → read.0 ≡ Some found
    → (token : Token) × Represents found token × (tokens text ≡ token ∷ tokens read.1.now)
found-token text read found finds is = subst
    (λ r. MatchOption r (tokens read.1.now ≡ tokens text) (λ f. (token : Token) × Represents f token × (tokens text ≡ token ∷ tokens read.1.now))) is finds

pub found-none : (text : List ℕ) (read : Option declared.Token × Bor (List ℕ)) → Finds text read → read.0 ≡ None → tokens read.1.now ≡ tokens text
found-none text read finds is = subst (λ r.
    MatchOption r (tokens read.1.now ≡ tokens text) (λ f. (token : Token) × Represents f token × (tokens text ≡ token ∷ tokens read.1.now))) is finds

-- what is read at the front of a text, and what it leaves
pub read-finds : (byte : ℕ) (text : List ℕ) (read : Option declared.Token × Bor (List ℕ)) → text ≡ byte ∷ drop 1 text
    → IsRead (drop 1 text) read (first byte (drop 1 text)) → Finds text read × (length read.1.now < length text)
read-finds byte text read front here =
    let behind = drop 1 text in
    let finds = by-rule text behind read (first byte behind) (ap tokens front ∙ tokens-rule byte behind) here in
    let longer : length text ≡ suc (length behind) = ap length front in
    (finds.0, omega (arith, finds.1, longer))

-- a byte of a word is none that another rule begins with
word-apart : (byte other : ℕ) → is_word_byte byte ≡ true → is_word_byte other ≡ false → byte ≢ other
word-apart byte other is isnt same = false≢true (sym isnt ∙ ap is_word_byte (sym same) ∙ is)

pub first-word : (byte : ℕ) (behind : List ℕ) → is_word_byte byte ≡ true → first byte behind ≡ word byte behind
first-word byte behind is =
    let isnt : (other : ℕ) → is_word_byte other ≡ false → (byte == other) ≡ false = λ other o. ne_eqb byte other (word-apart byte other is o) in
    let begins : (other : ℕ) → is_word_byte other ≡ false → (other == byte)
    ≡ false = λ other o. ne_eqb other byte (λ same. word-apart byte other is o (sym same)) in
    rw (isnt 32 refl, isnt 9 refl, isnt 10 refl, isnt 13 refl, begins 45 refl, begins 47 refl, isnt 39 refl, isnt 34 refl, isnt 96 refl, isnt 91 refl, is)

word-more : (byte : ℕ) (behind : List ℕ) → is_word_byte byte ≡ true → prefix_len is_word_byte (byte ∷ behind) ≡ suc (prefix_len is_word_byte behind)
word-more byte behind is = rw is (omega arith)

pub word-read : (byte : ℕ) (text : List ℕ) (found rest : Bor (List ℕ)) → text ≡ byte ∷ drop 1 text → is_word_byte byte ≡ true
    → found.now ≡ take (prefix_len is_word_byte text) text → rest.now ≡ drop (prefix_len is_word_byte text) text
    → IsRead (drop 1 text) (Some (seen.Word found), rest) (first byte (drop 1 text))
word-read byte text found rest front is here left =
    let behind = drop 1 text in
    let bytes : prefix_len is_word_byte text ≡ suc (prefix_len is_word_byte behind) = ap (prefix_len is_word_byte) front ∙ word-more byte behind is in
    rw (first-word byte behind is)
    (ap Word (sym (here ∙ (λ i. take (bytes i) (front i)))), left ∙ (λ i. drop (bytes i) (front i)))

is-open : (behind : List ℕ) (read : Option declared.Token × Bor (List ℕ)) → read.0 ≡ Some seen.Open → read.1.now ≡ []
    → IsRead behind read (Open ∷ [], length behind)
is-open behind (None, rest) is none = absurd (cc is)
is-open behind (Some token, rest) is none =
    let same : token ≡ seen.Open = cc is in
    (subst (λ t. Represents t Open) (sym same) refl, none ∙ sym (drop-length behind))

-- a comment or a quote that is read up to its end, or up to the end of the text
abbrev pub IsEnded : Option declared.Token → Option (Bor (List ℕ)) → Option declared.Token × Bor (List ℕ) → Type 0
IsEnded token found read = MatchOption found ((read.0 ≡ Some seen.Open) × (read.1.now ≡ [])) (λ rest. read ≡ (token, rest))

pub by-inside : (token : List ℕ → Token) → ((text : List ℕ) → Represents seen.Quoted (token text))
    → (behind : List ℕ) (whole : Option (List ℕ × ℕ)) (found : Option (Bor (List ℕ))) (read : Option declared.Token × Bor (List ℕ))
    → optional_bytes found ≡ behind_bytes behind (taken whole) → IsEnded (Some seen.Quoted) found read → IsRead behind read (unquoted token behind whole)
by-inside token quoted behind None None read is ended = is-open behind read ended.0 ended.1
by-inside token quoted behind None (Some rest) read is ended = absurd (cc is)
by-inside token quoted behind (Some whole) None read is ended = absurd (cc is)
by-inside token quoted behind (Some whole) (Some rest) read is ended =
    let left : rest.now ≡ drop whole.1 behind = cc is in
    subst (λ r. IsRead behind r (token whole.0 ∷ [], whole.1)) (sym ended) (quoted whole.0, left)

-- a byte that is no word's is a character
pub cut-first : (byte : ℕ) (text : List ℕ) → IsUtf8 text → text ≡ byte ∷ drop 1 text → is_word_byte byte ≡ false → IsCharBoundary text 1
cut-first byte text utf8 front no_word =
    let ascii : byte < 128 = grind (arith, nat_tests, no_word) in
    let here : get_or text 0 0 ≡ byte = ap (λ t. get_or t 0 0) front in
    let some : length text ≡ suc (length (drop 1 text)) = ap length front in
    IsCharBoundary-after_ascii text 0 utf8 (omega (arith, some)) (omega (arith, ascii, here))
