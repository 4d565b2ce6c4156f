-- The reader of tokens goes where the rules of tokens go.
use Rattle.sql_parts.proofs.Imports.{code, ◌≡◌, ℕ, true, false, not, List, [], ◌∷◌, refl, sym, ap, subst, ◌∙◌, ◌||◌, inl, inr, ne_eqb, ◌==◌, ◌+◌, codes}
use Rattle.sql_parts.proofs.Imports.{cases_Bool, eqb-true, not-true, or_from, or_parts, list_any-append, Single, Back, Square, Double, Quotes}
use Rattle.sql_parts.specs.{closing, OpensLiteral, after, HasNoBackslash, OpensEveryLiteral, OpensWithoutBackslashes, ReadsClosed, in_block, is_open_state}
use Rattle.sql_parts.specs.{token_reader, closed, ends_with, is_edge, is_one_of, is_open, is_word_byte}
use Rattle.sql_parts.proofs.tokens.AutomatonFacts as mode
use Rattle.sql_parts.proofs.tokens.AutomatonFacts.{Mode, Between, InWord, InQuotes, AtDelimiter, AtDash, AtSlash, InLine, InBlock, AtStar, finish, step, whole}
use Rattle.sql_parts.proofs.tokens.AutomatonLemmas.{flipped, tokens-read}
use Rattle.sql_parts.proofs.tokens.SeamLemmas.{after-edge, has_open, one_of, read-finish, shut-end, step-edge}
use Rattle.sql_parts.proofs.tokens.TokenFacts.{closed-shut}

-- the state of a mode
abbrev pub number : Mode → ℕ
number Between = 0
number (InWord word) = code "w"
number (InQuotes quotes text) = closing quotes
number (AtDelimiter quotes text) = 256 + closing quotes
number AtDash = code "-"
number AtSlash = code "/"
number InLine = code "\n"
number InBlock = in_block
number AtStar = code "*"

-- what a mode ends in is open where its state is
number-open : (m : Mode) → has_open (finish m) ≡ is_open_state (number m)
number-open Between = refl
number-open (InWord word) = refl
number-open (InQuotes Single text) = refl
number-open (InQuotes Back text) = refl
number-open (InQuotes Square text) = refl
number-open (InQuotes Double text) = refl
number-open (AtDelimiter Single text) = refl
number-open (AtDelimiter Back text) = refl
number-open (AtDelimiter Square text) = refl
number-open (AtDelimiter Double text) = refl
number-open AtDash = refl
number-open AtSlash = refl
number-open InLine = refl
number-open InBlock = refl
number-open AtStar = refl

-- a byte behind a mode: the state, and that no token which is whole with it is open
abbrev Steps : Mode → ℕ → Type 0
Steps m byte = (token_reader (number m) byte ≡ number (step m byte).1) × (has_open (step m byte).0 ≡ false)

starts : (byte : ℕ) → Steps Between byte
starts byte =
    elim (cases_Bool (is_one_of (codes " \t\n\r-/'\"`[") byte)) [
      | inl is ↦
          one_of (Steps Between) (codes " \t\n\r-/'\"`[") (
            (refl, refl),
            (
              (refl, refl),
              (
                (refl, refl),
                (
                  (refl, refl),
                  (
                    (refl, refl),
                    (
                      (refl, refl),
                      ((refl, refl), ((refl, refl), ((refl, refl), ((refl, refl), tt)))),
                    ),
                  ),
                ),
              ),
            ),
          ) byte is
      | inr none ↦
          let blank = or_parts (byte == 32) _ none in
          let tab = or_parts (byte == 9) _ blank.1 in
          let line = or_parts (byte == 10) _ tab.1 in
          let back = or_parts (byte == 13) _ line.1 in
          let dash = or_parts (byte == 45) _ back.1 in
          let slash = or_parts (byte == 47) _ dash.1 in
          let single = or_parts (byte == 39) _ slash.1 in
          let double = or_parts (byte == 34) _ single.1 in
          let backquote = or_parts (byte == 96) _ double.1 in
          let square = or_parts (byte == 91) _ backquote.1 in
          elim (cases_Bool (is_word_byte byte)) [
            | inl is ↦ rw (blank.0, tab.0, line.0, back.0, dash.0, slash.0, single.0, double.0, backquote.0, square.0, is) (refl, refl)
            | inr isnt ↦ rw (blank.0, tab.0, line.0, back.0, dash.0, slash.0, single.0, double.0, backquote.0, square.0, isnt) (refl, refl)
          ]
    ]

-- a step at one byte, and at every other
at : (m : Mode) (other byte : ℕ) → (byte == other) ≡ true → Steps m other → Steps m byte
at m other byte is steps = subst (Steps m) (sym (eqb-true byte other is)) steps

steps : (m : Mode) (byte : ℕ) → Steps m byte
steps Between byte = starts byte
steps (InWord word) byte = elim (cases_Bool (is_word_byte byte)) [ inl is ↦ rw is (refl, refl) | inr isnt ↦ rw isnt (rw isnt at (starts byte)) ]
steps (InQuotes Single text) byte = elim (cases_Bool (byte == 39)) [ inl is ↦ rw is (refl, refl) | inr isnt ↦ rw isnt (refl, refl) ]
steps (InQuotes Back text) byte = elim (cases_Bool (byte == 96)) [ inl is ↦ rw is (refl, refl) | inr isnt ↦ rw isnt (refl, refl) ]
steps (InQuotes Square text) byte = elim (cases_Bool (byte == 93)) [ inl is ↦ rw is (refl, refl) | inr isnt ↦ rw isnt (refl, refl) ]
steps (InQuotes Double text) byte = elim (cases_Bool (byte == 34)) [ inl is ↦ rw is (refl, refl) | inr isnt ↦ rw isnt (refl, refl) ]
steps (AtDelimiter Single text) byte =
    elim (cases_Bool (byte == 39)) [ inl is ↦ at (AtDelimiter Single text) 39 byte is (refl, refl) | inr isnt ↦ rw isnt (rw isnt at (starts byte)) ]
steps (AtDelimiter Back text) byte =
    elim (cases_Bool (byte == 96)) [ inl is ↦ at (AtDelimiter Back text) 96 byte is (refl, refl) | inr isnt ↦ rw isnt (rw isnt at (starts byte)) ]
steps (AtDelimiter Square text) byte =
    elim (cases_Bool (byte == 93)) [ inl is ↦ at (AtDelimiter Square text) 93 byte is (refl, refl) | inr isnt ↦ rw isnt (starts byte) ]
steps (AtDelimiter Double text) byte =
    elim (cases_Bool (byte == 34)) [ inl is ↦ at (AtDelimiter Double text) 34 byte is (refl, refl) | inr isnt ↦ rw isnt (rw isnt at (starts byte)) ]
steps AtDash byte =
    elim (cases_Bool (byte == 45)) [ inl is ↦ at AtDash 45 byte is (refl, refl) | inr isnt ↦ rw (isnt, flipped byte 45 isnt) (rw isnt at (starts byte)) ]
steps AtSlash byte =
    elim (cases_Bool (byte == 42)) [ inl is ↦ at AtSlash 42 byte is (refl, refl) | inr isnt ↦ rw (isnt, flipped byte 42 isnt) (starts byte) ]
steps InLine byte =
    elim (cases_Bool (byte == 10)) [ inl is ↦ at InLine 10 byte is (refl, refl) | inr isnt ↦ rw (isnt, flipped byte 10 isnt) (refl, refl) ]
steps InBlock byte =
    elim (cases_Bool (byte == 42)) [ inl is ↦ at InBlock 42 byte is (refl, refl) | inr isnt ↦ rw (isnt, flipped byte 42 isnt) (refl, refl) ]
steps AtStar byte =
    elim (cases_Bool (byte == 47)) [
      | inl is ↦ at AtStar 47 byte is (refl, refl)
      | inr no_slash ↦ elim (cases_Bool (byte == 42)) [
        | inl is ↦ at AtStar 42 byte is (refl, refl)
        | inr no_star ↦ rw (no_slash, no_star, flipped byte 47 no_slash, flipped byte 42 no_star) (refl, refl)
      ]
    ]

-- behind a text
number-after : (m : Mode) (text : List ℕ) → after token_reader (number m) text ≡ number (mode.after m text)
number-after m [] = refl
number-after m (byte ∷ text) = ap (λ s. after token_reader s text) (steps m byte).0 ∙ number-after (step m byte).1 text

whole-shut : (m : Mode) (text : List ℕ) → has_open (whole m text) ≡ false
whole-shut m [] = refl
whole-shut m (byte ∷ text) =
    list_any-append is_open (step m byte).0 (whole (step m byte).1 text) ∙ or_from _ _ (steps m byte).1 (whole-shut (step m byte).1 text)

pub reads-closed : ReadsClosed
reads-closed text =
    let last = mode.after Between text in
    ap (λ ts. not (has_open ts)) (tokens-read text ∙ read-finish Between text)
    ∙ ap not (list_any-append is_open (whole Between text) (finish last) ∙ ap (λ b. b || has_open (finish last)) (whole-shut Between text)
    ∙ number-open last ∙ ap is_open_state (sym (number-after Between text)))

-- ---- edges

-- a state behind closed texts
pub record IsShut (state : ℕ) : Type 0 where
  pub mode : Mode
  pub number_is : number mode ≡ state
  pub shut : has_open (finish mode) ≡ false

ends-shut : (text : List ℕ) → closed text ≡ true → has_open (finish (mode.after Between text)) ≡ false
ends-shut text is = shut-end Between text (sym (ap has_open (tokens-read text)) ∙ closed-shut text is)

pub shut-behind : (text : List ℕ) → closed text ≡ true → IsShut (after token_reader 0 text)
shut-behind text is = record {
  mode = mode.after Between text;
  number_is = sym (number-after Between text);
  shut = ends-shut text is;
}

-- at an edge they are all alike
pub edge-alike : (state byte : ℕ) → IsShut state → is_edge byte ≡ true → token_reader state byte ≡ token_reader 0 byte
edge-alike state byte behind edge =
    ap (λ s. token_reader s byte) (sym behind.number_is) ∙ (steps behind.mode byte).0 ∙ ap number (step-edge behind.mode byte edge (inl behind.shut))
    ∙ sym ((steps Between byte).0 ∙ ap number (step-edge Between byte edge (inl refl)))

-- and behind one the reader is between two tokens
pub edge-ends : (text : List ℕ) → closed text ≡ true → ends_with is_edge text ≡ true → after token_reader 0 text ≡ 0
edge-ends text is edge = number-after Between text ∙ ap number (after-edge Between text edge (ends-shut text is))

-- ---- literals

pub opens-every : OpensEveryLiteral
opens-every quotes = by quotes
  where
    by : (quotes : Quotes) → OpensLiteral token_reader (λ byte. true) quotes 0
    by Single = record { stays = λ byte plain isnt. rw (ne_eqb byte 39 isnt) refl; goes_on = refl }
    by Back = record { stays = λ byte plain isnt. rw (ne_eqb byte 96 isnt) refl; goes_on = refl }
    by Square = record { stays = λ byte plain isnt. rw (ne_eqb byte 93 isnt) refl; goes_on = refl }
    by Double = record { stays = λ byte plain isnt. rw (ne_eqb byte 34 isnt) refl; goes_on = refl }

pub no_backslash-plain : HasNoBackslash
no_backslash-plain [] = refl
no_backslash-plain (byte ∷ text) =
    elim (cases_Bool (byte == 92)) [ inl is ↦ rw is | inr isnt ↦ rw isnt (no_backslash-plain text) ]

pub opens-without_backslashes : OpensWithoutBackslashes
opens-without_backslashes = record {
  stays = λ byte plain isnt. rw (not-true (byte == 92) plain, ne_eqb byte 39 isnt) refl;
  goes_on = refl;
}
