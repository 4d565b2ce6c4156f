-- Where an edge is beside a seam, the tokens on both sides stay what they are.
use Rattle.sql_parts.proofs.Imports.{◌≡◌, ℕ, Bool, true, false, cond, ◌||◌, List, [], ◌∷◌, ◌++◌, sym, refl, ap, ◌∙◌, subst, inl, inr, append_assoc, append-nil}
use Rattle.sql_parts.proofs.Imports.{◌⊎◌, ne_eqb, eq-eqb, ◌==◌, codes, list_any, AllByRecursion, cases_Bool, cond-false, eqb-true, false≢true, or_cases}
use Rattle.sql_parts.proofs.Imports.{or_parts, list_any-append, Quotes, Single, Back, Square, Double}
use Rattle.sql_parts.specs.{closing, doubled, Token, begins_with, clean, ends_with, is_edge, is_empty, is_one_of, is_open, is_word_byte, quoted_token}
use Rattle.sql_parts.proofs.tokens.AutomatonFacts.{Mode, Between, InWord, InQuotes, AtDelimiter, AtDash, AtSlash, InLine, InBlock, AtStar, after, behind_token}
use Rattle.sql_parts.proofs.tokens.AutomatonFacts.{finish, read, start, step, whole}

-- a text is read up to its end, and then what follows it
read-append : (mode : Mode) (one other : List ℕ) → read mode (one ++ other) ≡ whole mode one ++ read (after mode one) other
read-append mode [] other = refl
read-append mode (byte ∷ one) other = ap (λ rest. (step mode byte).0 ++ rest) (read-append (step mode byte).1 one other)
    ∙ sym (append_assoc (step mode byte).0 (whole (step mode byte).1 one) _)

pub read-finish : (mode : Mode) (text : List ℕ) → read mode text ≡ whole mode text ++ finish (after mode text)
read-finish mode [] = refl
read-finish mode (byte ∷ text) = ap (λ rest. (step mode byte).0 ++ rest) (read-finish (step mode byte).1 text)
    ∙ sym (append_assoc (step mode byte).0 (whole (step mode byte).1 text) _)

abbrev pub has_open : List Token → Bool
has_open tokens = list_any is_open tokens

-- what holds of each byte of a list holds of a byte that is one of them
pub one_of : (P : ℕ → Type 0) (bytes : List ℕ) → AllByRecursion P bytes → (byte : ℕ) → is_one_of bytes byte ≡ true → P byte
one_of P [] holds byte is = absurd (false≢true is)
one_of P (other ∷ bytes) holds byte is =
    elim (or_cases (byte == other) (is_one_of bytes byte) is) [
      | inl here ↦ subst P (sym (eqb-true byte other here)) holds.0
      | inr later ↦ one_of P bytes holds.1 byte later
    ]

abbrev edges : List ℕ
edges = codes " \t\n\r(),;=<>."

-- an edge goes on with no word, and is no other byte that a token goes on with
edge-no_word : (byte : ℕ) → is_edge byte ≡ true → is_word_byte byte ≡ false
edge-no_word byte is = one_of (λ b. is_word_byte b ≡ false) edges
    (refl, (refl, (refl, (refl, (refl, (refl, (refl, (refl, (refl, (refl, (refl, (refl, tt)))))))))))) byte is

edge-other : (other byte : ℕ) → is_edge other ≡ false → is_edge byte ≡ true → (byte == other) ≡ false
edge-other other byte isnt is = ne_eqb byte other (λ same. false≢true (sym isnt ∙ ap is_edge (sym same) ∙ is))

other-edge : (other byte : ℕ) → is_edge other ≡ false → is_edge byte ≡ true → (other == byte) ≡ false
other-edge other byte isnt is = ne_eqb other byte (λ same. false≢true (sym isnt ∙ ap is_edge same ∙ is))

delimiter-no_edge : (quotes : Quotes) → is_edge (closing quotes) ≡ false
delimiter-no_edge Single = refl
delimiter-no_edge Back = refl
delimiter-no_edge Square = refl
delimiter-no_edge Double = refl

-- where no token is open, an edge ends what there is
read-edge : (mode : Mode) → has_open (finish mode) ≡ false → (text : List ℕ) → (text ≡ []) ⊎ (begins_with is_edge text ≡ true) → read mode text ≡ finish mode
    ++ read Between text
read-edge mode shut text (inl none) = subst (λ t. read mode t ≡ finish mode ++ read Between t) (sym none) (sym (append-nil (finish mode)))
read-edge mode shut [] (inr edge) = absurd (false≢true edge)
read-edge Between shut (byte ∷ text) (inr edge) = refl
read-edge (InWord word) shut (byte ∷ text) (inr edge) = rw (edge-no_word byte edge)
read-edge (InQuotes quotes kept) shut (byte ∷ text) (inr edge) = absurd (false≢true (sym shut))
read-edge (AtDelimiter quotes kept) shut (byte ∷ text) (inr edge) = rw (edge-other (closing quotes) byte (delimiter-no_edge quotes) edge)
read-edge AtDash shut (byte ∷ text) (inr edge) = rw (other-edge 45 byte refl edge)
read-edge AtSlash shut (byte ∷ text) (inr edge) = rw (other-edge 42 byte refl edge)
read-edge InLine shut (byte ∷ text) (inr edge) = absurd (false≢true (sym shut))
read-edge InBlock shut (byte ∷ text) (inr edge) = absurd (false≢true (sym shut))
read-edge AtStar shut (byte ∷ text) (inr edge) = absurd (false≢true (sym shut))

-- behind an edge, the reader is between two tokens, or in an open one that it was in before
start-edge : (byte : ℕ) → is_edge byte ≡ true → (start byte).1 ≡ Between
start-edge byte is = one_of (λ b. (start b).1 ≡ Between) edges
    (refl, (refl, (refl, (refl, (refl, (refl, (refl, (refl, (refl, (refl, (refl, (refl, tt)))))))))))) byte is

begins-anew : (more : Bool) (further : List Token × Mode) (token : Token) (byte : ℕ) → more ≡ false → is_edge byte ≡ true
    → (cond more further (behind_token token (start byte))).1 ≡ Between
begins-anew more further token byte ends edge = ap (λ (given : List Token × Mode). given.1) (cond-false more further (behind_token token (start byte)) ends)
    ∙ start-edge byte edge

pub step-edge : (mode : Mode) (byte : ℕ) → is_edge byte ≡ true
    → (has_open (finish mode) ≡ false) ⊎ (has_open (finish (step mode byte).1) ≡ false) → (step mode byte).1 ≡ Between
step-edge Between byte edge shut = start-edge byte edge
step-edge (InWord word) byte edge shut = begins-anew (is_word_byte byte) _ _ byte (edge-no_word byte edge) edge
step-edge (InQuotes quotes kept) byte edge (inl shut) = absurd (false≢true (sym shut))
step-edge (InQuotes quotes kept) byte edge (inr shut) =
    absurd (false≢true (sym (rw (edge-other (closing quotes) byte (delimiter-no_edge quotes) edge) at shut)))
step-edge (AtDelimiter quotes kept) byte edge shut =
    begins-anew (byte == closing quotes) _ _ byte (edge-other (closing quotes) byte (delimiter-no_edge quotes) edge) edge
step-edge AtDash byte edge shut = begins-anew (45 == byte) _ _ byte (other-edge 45 byte refl edge) edge
step-edge AtSlash byte edge shut = begins-anew (42 == byte) _ _ byte (other-edge 42 byte refl edge) edge
step-edge InLine byte edge (inl shut) = absurd (false≢true (sym shut))
step-edge InLine byte edge (inr shut) =
    elim (cases_Bool (10 == byte)) [ inl is ↦ rw is refl | inr isnt ↦ absurd (false≢true (sym (rw isnt at shut))) ]
step-edge InBlock byte edge (inl shut) = absurd (false≢true (sym shut))
step-edge InBlock byte edge (inr shut) = absurd (false≢true (sym (rw (other-edge 42 byte refl edge) at shut)))
step-edge AtStar byte edge (inl shut) = absurd (false≢true (sym shut))
step-edge AtStar byte edge (inr shut) = absurd (false≢true (sym (rw (other-edge 47 byte refl edge, other-edge 42 byte refl edge) at shut)))

pub after-edge : (mode : Mode) (text : List ℕ) → ends_with is_edge text ≡ true → has_open (finish (after mode text)) ≡ false → after mode text ≡ Between
after-edge mode [] edge shut = absurd (false≢true edge)
after-edge mode (byte ∷ []) edge shut = step-edge mode byte edge (inr shut)
after-edge mode (byte ∷ next ∷ text) edge shut = after-edge (step mode byte).1 (next ∷ text) edge shut

-- what has no open token ends in none
pub shut-end : (mode : Mode) (text : List ℕ) → has_open (read mode text) ≡ false → has_open (finish (after mode text)) ≡ false
shut-end mode text shut =
    (or_parts (has_open (whole mode text)) _ (sym (list_any-append is_open (whole mode text) (finish (after mode text)))
    ∙ sym (ap has_open (read-finish mode text)) ∙ shut)).1

-- from how the first text ends, or the second begins
joined : (one other : List ℕ) → read (after Between one) other ≡ finish (after Between one) ++ read Between other
    → read Between (one ++ other) ≡ read Between one ++ read Between other
joined one other seam =
    read-append Between one other ∙ ap (λ rest. whole Between one ++ rest) seam
    ∙ sym (append_assoc (whole Between one) (finish (after Between one)) (read Between other))
    ∙ ap (λ front. front ++ read Between other) (sym (read-finish Between one))

empty-is : (text : List ℕ) → is_empty text ≡ true → text ≡ []
empty-is [] empty = refl
empty-is (byte ∷ text) empty = absurd (false≢true empty)

pub read-seam : (one other : List ℕ) → has_open (read Between one) ≡ false → clean one other ≡ true → read Between (one ++ other) ≡ read Between one
    ++ read Between other
read-seam one other shut seam =
    let ends = shut-end Between one shut in
    elim (or_cases (is_empty one || is_empty other || ends_with is_edge one) (begins_with is_edge other) seam) [
      | inr begins ↦ joined one other (read-edge _ ends other (inr begins))
      | inl seam ↦ elim (or_cases (is_empty one || is_empty other) (ends_with is_edge one) seam) [
        | inr edge ↦ joined one other (subst (λ mode. read mode other ≡ finish mode ++ read Between other) (sym (after-edge Between one edge ends)) refl)
        | inl seam ↦ elim (or_cases (is_empty one) (is_empty other) seam) [
          | inl none ↦ subst (λ t. read Between (t ++ other) ≡ read Between t ++ read Between other) (sym (empty-is one none)) refl
          | inr none ↦ joined one other (read-edge _ ends other (inl (empty-is other none)))
        ]
      ]
    ]

-- a doubled text, up to its closing delimiter, parses back as the text
pub read-doubled : (quotes : Quotes) (kept text : List ℕ)
    → read (InQuotes quotes kept) (doubled (closing quotes) text ++ closing quotes ∷ []) ≡ quoted_token quotes (kept ++ text) ∷ []
read-doubled quotes kept [] = rw (eq-eqb (closing quotes) (closing quotes) refl) (ap (λ t. quoted_token quotes t ∷ []) (sym (append-nil kept)))
read-doubled quotes kept (byte ∷ text) =
    let same : (closing quotes == closing quotes) ≡ true = eq-eqb (closing quotes) (closing quotes) refl in
    let more : (next : ℕ) → read (InQuotes quotes (kept ++ next ∷ [])) (doubled (closing quotes) text ++ closing quotes ∷ [])
    ≡ quoted_token quotes (kept ++ next ∷ text) ∷ [] =
    λ next. read-doubled quotes (kept ++ next ∷ []) text ∙ ap (λ t. quoted_token quotes t ∷ []) (append_assoc kept (next ∷ []) text) in
    elim (cases_Bool (byte == closing quotes)) [
      | inl is ↦
          subst (λ b. read (InQuotes quotes kept) (doubled (closing quotes) (b ∷ text) ++ closing quotes ∷ []) ≡ quoted_token quotes (kept ++ b ∷ text) ∷ [])
          (sym (eqb-true byte (closing quotes) is))
          (rw (same, same, same) (more (closing quotes)))
      | inr isnt ↦ rw (isnt, isnt) (more byte)
    ]
