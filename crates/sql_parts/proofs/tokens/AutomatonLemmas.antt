-- The tokens by the first rule that fits are those that are read byte by byte.
use Rattle.sql_parts.proofs.Imports.{code, ◌≡◌, ℕ, suc, Bool, true, false, cond, List, [], ◌∷◌, ◌++◌, take, drop, Option, Some, None, sym, refl, ap, ◌∙◌, subst}
use Rattle.sql_parts.proofs.Imports.{inl, inr, append_assoc, append-nil, arith, zero, ne_eqb, ◌==◌, codes, nat_eq, option_map, prefix_len, starts_with}
use Rattle.sql_parts.proofs.Imports.{cases_Bool, cond-false, cond-true, eqb-false, eqb-true, drop-length, inside, Quotes, Single, Back, Square, Double}
use Rattle.sql_parts.specs.{closing, Token, Word, Symbol, Open, comment, first, is_blank, is_word_byte, reach, tokens, tokens_from, unquoted, quoted_token}
use Rattle.sql_parts.proofs.tokens.AutomatonFacts.{Mode, Between, InWord, InQuotes, InLine, InBlock, AtStar, behind_token, read, start}

-- a byte that doesn't go on with a token ends it, and begins anew
ended : (more : Bool) (further : List Token × Mode) (token : Token) (byte : ℕ) (text : List ℕ) → more ≡ false
    → (cond more further (behind_token token (start byte))).0 ++ read (cond more further (behind_token token (start byte))).1 text
    ≡ token ∷ read Between (byte ∷ text)
ended more further token byte text ends =
    ap (λ (given : List Token × Mode). given.0 ++ read given.1 text) (cond-false more further (behind_token token (start byte)) ends)

-- a byte that goes on with a token
goes_on : (more : Bool) (further other : List Token × Mode) (text : List ℕ) → more ≡ true → (cond more further other).0
    ++ read (cond more further other).1 text ≡ further.0 ++ read further.1 text
goes_on more further other text is = ap (λ (given : List Token × Mode). given.0 ++ read given.1 text) (cond-true more further other is)

pub read-word : (word text : List ℕ) → read (InWord word) text
    ≡ Word (word ++ take (prefix_len is_word_byte text) text) ∷ read Between (drop (prefix_len is_word_byte text) text)
read-word word [] = ap (λ w. Word w ∷ []) (sym (append-nil word))
read-word word (byte ∷ text) =
    let bytes = prefix_len is_word_byte text in
    let cut : ℕ → List Token = λ n. Word (word ++ take n (byte ∷ text)) ∷ read Between (drop n (byte ∷ text)) in
    elim (cases_Bool (is_word_byte byte)) [
      | inl is ↦
          let more : prefix_len is_word_byte (byte ∷ text) ≡ suc bytes = rw is (omega arith) in
          goes_on (is_word_byte byte) _ _ text is ∙ read-word (word ++ byte ∷ []) text
          ∙ ap (λ w. Word w ∷ read Between (drop bytes text)) (append_assoc word (byte ∷ []) (take bytes text)) ∙ ap cut (sym more)
      | inr isnt ↦
          let none : prefix_len is_word_byte (byte ∷ text) ≡ 0 = rw isnt in
          ended (is_word_byte byte) _ _ byte text isnt ∙ ap (λ w. Word w ∷ read Between (byte ∷ text)) (sym (append-nil word)) ∙ ap cut (sym none)
    ]

-- what follows a comment
abbrev behind : List ℕ → Option ℕ → List Token
behind text (Some bytes) = read Between (drop bytes text)
behind text None = Open ∷ []

behind-more : (byte : ℕ) (text : List ℕ) (bytes : Option ℕ) → behind text bytes ≡ behind (byte ∷ text) (option_map suc bytes)
behind-more byte text (Some bytes) = refl
behind-more byte text None = refl

read-line : (text : List ℕ) → read InLine text ≡ behind text (reach (codes "\n") text)
read-line [] = refl
read-line (byte ∷ text) =
    elim (cases_Bool (code "\n" == byte)) [
      | inl is ↦ rw is
      | inr isnt ↦ rw isnt (read-line text ∙ behind-more byte text (reach (codes "\n") text))
    ]

-- behind a star in a comment
read-star : (text : List ℕ) → read AtStar text ≡ cond (starts_with nat_eq text (codes "/")) (read Between (drop 1 text)) (read InBlock text)
read-star [] = refl
read-star (byte ∷ text) = elim (cases_Bool (code "/" == byte)) [ inl is ↦ rw is | inr isnt ↦ rw isnt ]

read-block : (text : List ℕ) → read InBlock text ≡ behind text (reach (codes "*/") text)
read-block [] = refl
read-block (byte ∷ text) =
    elim (cases_Bool (code "*" == byte)) [
      | inl is ↦ elim (cases_Bool (starts_with nat_eq text (codes "/"))) [
        | inl ends ↦ rw (is, ends) (read-star text ∙ rw ends)
        | inr goes ↦ rw (is, goes) (read-star text ∙ rw goes (read-block text ∙ behind-more byte text (reach (codes "*/") text)))
      ]
      | inr isnt ↦ rw isnt (read-block text ∙ behind-more byte text (reach (codes "*/") text))
    ]

-- what follows a quote
abbrev behind_quotes : Quotes → List ℕ → List ℕ → Option (List ℕ × ℕ) → List Token
behind_quotes quotes kept text (Some found) = quoted_token quotes (kept ++ found.0) ∷ read Between (drop found.1 text)
behind_quotes quotes kept text None = Open ∷ []

quotes-more : (quotes : Quotes) (kept : List ℕ) (byte : ℕ) (text : List ℕ) (found : Option (List ℕ × ℕ))
    → behind_quotes quotes (kept ++ byte ∷ []) text found ≡ behind_quotes quotes kept (byte ∷ text) (option_map (λ f. (byte ∷ f.0, suc f.1)) found)
quotes-more quotes kept byte text (Some found) = ap (λ t. quoted_token quotes t ∷ read Between (drop found.1 text)) (append_assoc kept (byte ∷ []) found.0)
quotes-more quotes kept byte text None = refl

quotes-twice : (quotes : Quotes) (kept : List ℕ) (byte next : ℕ) (text : List ℕ) (found : Option (List ℕ × ℕ))
    → behind_quotes quotes (kept ++ closing quotes ∷ []) text found
    ≡ behind_quotes quotes kept (byte ∷ next ∷ text) (option_map (λ f. (closing quotes ∷ f.0, suc (suc f.1))) found)
quotes-twice quotes kept byte next text (Some found) =
    ap (λ t. quoted_token quotes t ∷ read Between (drop found.1 text)) (append_assoc kept (closing quotes ∷ []) found.0)
quotes-twice quotes kept byte next text None = refl

read-quotes : (quotes : Quotes) (kept text : List ℕ) → read (InQuotes quotes kept) text ≡ behind_quotes quotes kept text (inside (closing quotes) text)
read-quotes quotes kept [] = refl
read-quotes quotes kept (byte ∷ []) =
    elim (cases_Bool (byte == closing quotes)) [ inl is ↦ rw is (ap (λ t. quoted_token quotes t ∷ []) (sym (append-nil kept))) | inr isnt ↦ rw isnt ]
read-quotes quotes kept (byte ∷ next ∷ text) =
    elim (cases_Bool (byte == closing quotes)) [
      | inl is ↦ elim (cases_Bool (next == closing quotes)) [
        | inl twice ↦ rw (is, twice) (read-quotes quotes (kept ++ closing quotes ∷ []) text
            ∙ quotes-twice quotes kept byte next text (inside (closing quotes) text))
        | inr once ↦ rw (is, once, append-nil)
      ]
      | inr isnt ↦ rw isnt (read-quotes quotes (kept ++ byte ∷ []) (next ∷ text)
          ∙ quotes-more quotes kept byte (next ∷ text) (inside (closing quotes) (next ∷ text)))
    ]

-- what a rule gives at a byte is what the reader gives from there on
abbrev Fits : ℕ → List ℕ → List Token × ℕ → Type 0
Fits byte text given = read Between (byte ∷ text) ≡ given.0 ++ read Between (drop given.1 text)

by-comment : (text : List ℕ) (bytes : Option ℕ) → behind text bytes ≡ (comment text bytes).0 ++ read Between (drop (comment text bytes).1 text)
by-comment text (Some bytes) = refl
by-comment text None = ap (λ rest. Open ∷ read Between rest) (sym (drop-length text))

by-quotes : (quotes : Quotes) (text : List ℕ) (found : Option (List ℕ × ℕ))
    → behind_quotes quotes [] text found ≡ (unquoted (quoted_token quotes) text found).0
    ++ read Between (drop (unquoted (quoted_token quotes) text found).1 text)
by-quotes quotes text (Some found) = refl
by-quotes quotes text None = ap (λ rest. Open ∷ read Between rest) (sym (drop-length text))

at-quotes : (quotes : Quotes) (text : List ℕ) → read (InQuotes quotes []) text ≡ (unquoted (quoted_token quotes) text (inside (closing quotes) text)).0
    ++ read Between (drop (unquoted (quoted_token quotes) text (inside (closing quotes) text)).1 text)
at-quotes quotes text = read-quotes quotes [] text ∙ by-quotes quotes text (inside (closing quotes) text)

alone : (byte : ℕ) (text : List ℕ) → first byte text ≡ (Symbol byte ∷ [], 0) → Symbol byte ∷ read Between text ≡ (first byte text).0
    ++ read Between (drop (first byte text).1 text)
alone byte text is = ap (λ (given : List Token × ℕ). given.0 ++ read Between (drop given.1 text)) (sym is)

at-dash : (text : List ℕ) → Fits 45 text (first 45 text)
at-dash [] = refl
at-dash (next ∷ text) =
    elim (cases_Bool (code "-" == next)) [
      | inl is ↦
          subst (λ n. Fits 45 (n ∷ text) (first 45 (n ∷ text))) (eqb-true 45 next is)
          (read-line text ∙ behind-more 45 text (reach (codes "\n") text) ∙ by-comment (45 ∷ text) (reach (codes "\n") (45 ∷ text)))
      | inr isnt ↦ ended (code "-" == next) _ _ next text isnt ∙ alone 45 (next ∷ text) (rw isnt)
    ]

at-slash : (text : List ℕ) → Fits 47 text (first 47 text)
at-slash [] = refl
at-slash (next ∷ text) =
    elim (cases_Bool (code "*" == next)) [
      | inl is ↦
          subst (λ n. Fits 47 (n ∷ text) (first 47 (n ∷ text))) (eqb-true 42 next is)
          (read-block text ∙ behind-more 42 text (reach (codes "*/") text) ∙ by-comment (42 ∷ text) (option_map suc (reach (codes "*/") text)))
      | inr isnt ↦ ended (code "*" == next) _ _ next text isnt ∙ alone 47 (next ∷ text) (rw isnt)
    ]

pub flipped : (byte other : ℕ) → (byte == other) ≡ false → (other == byte) ≡ false
flipped byte other isnt = ne_eqb other byte (λ same. eqb-false byte other isnt (sym same))

-- a byte that begins no comment and no quote
at-other : (byte : ℕ) (text : List ℕ) → is_blank byte ≡ false → (byte == 45) ≡ false → (byte == 47) ≡ false → (byte == 39) ≡ false → (byte == 34) ≡ false
    → (byte == 96) ≡ false → (byte == 91) ≡ false
    → Fits byte text (first byte text)
at-other byte text no_blank no_dash no_slash no_single no_double no_back no_square =
    elim (cases_Bool (is_word_byte byte)) [
      | inl is ↦ rw (no_blank, no_dash, no_slash, flipped byte 45 no_dash, flipped byte 47 no_slash, no_single, no_double, no_back, no_square, is)
          (read-word (byte ∷ []) text)
      | inr isnt ↦ rw (no_blank, no_dash, no_slash, flipped byte 45 no_dash, flipped byte 47 no_slash, no_single, no_double, no_back, no_square, isnt)
    ]

pub first-fits : (byte : ℕ) (text : List ℕ) → Fits byte text (first byte text)
first-fits byte text =
    let at : (other : ℕ) → (byte == other) ≡ true → Fits other text (first other text) → Fits byte text (first byte text) =
    λ other is fits. subst (λ b. Fits b text (first b text)) (sym (eqb-true byte other is)) fits in
    elim (cases_Bool (is_blank byte)) [
      | inl is ↦ rw is
      | inr no_blank ↦ elim (cases_Bool (byte == 45)) [
        | inl is ↦ at 45 is (at-dash text)
        | inr no_dash ↦ elim (cases_Bool (byte == 47)) [
          | inl is ↦ at 47 is (at-slash text)
          | inr no_slash ↦ elim (cases_Bool (byte == 39)) [
            | inl is ↦ at 39 is (at-quotes Single text)
            | inr no_single ↦ elim (cases_Bool (byte == 34)) [
              | inl is ↦ at 34 is (at-quotes Double text)
              | inr no_double ↦ elim (cases_Bool (byte == 96)) [
                | inl is ↦ at 96 is (at-quotes Back text)
                | inr no_back ↦ elim (cases_Bool (byte == 91)) [
                  | inl is ↦ at 91 is (at-quotes Square text)
                  | inr no_square ↦ at-other byte text no_blank no_dash no_slash no_single no_double no_back no_square
                ]
              ]
            ]
          ]
        ]
      ]
    ]

tokens_from-read : (skipped : ℕ) (text : List ℕ) → tokens_from skipped text ≡ read Between (drop skipped text)
tokens_from-read zero [] = refl
tokens_from-read (suc skipped) [] = refl
tokens_from-read zero (byte ∷ text) = ap (λ rest. (first byte text).0 ++ rest) (tokens_from-read (first byte text).1 text) ∙ sym (first-fits byte text)
tokens_from-read (suc skipped) (byte ∷ text) = tokens_from-read skipped text

pub tokens-read : (text : List ℕ) → tokens text ≡ read Between text
tokens-read text = tokens_from-read 0 text
