-- The marks of a statement's text, and the text before the first of them.
use Rattle.sql_parts.proofs.Imports.{◌≡◌, ◌≢◌, ℕ, zero, suc, ◌+◌, ◌-◌, ◌<◌, ◌≤◌, Bool, true, false, List, [], ◌∷◌, ◌++◌, length, take, drop, Option, Some, None}
use Rattle.sql_parts.proofs.Imports.{refl, sym, ap, ◌∙◌, arith, ne_eqb, subst, Bor, inl, inr, append_assoc, append-nil, length-drop, length-append}
use Rattle.sql_parts.proofs.Imports.{take-append_seam, take-append-drop, ◌==◌, ◌&&◌, ◌⊎◌, if◌then◌else◌, prefix_len, IsCharBoundary, IsUtf8, cut, Style}
use Rattle.sql_parts.specs.{IsMark, prefix, Mark, Bare, Cut, cut_from, followed_by, is_name_byte, mark_at, Token, first, is_word_byte}
use Rattle.sql_parts.specs.Marks.{IsRead}
use Rattle.sql_parts.specs.Tokenizer as tokenizer
use Rattle.sql_parts.specs.declared.marks.Mark as declared
use Rattle.sql_parts.specs.declared.parameter.Style.TheVariants as style
use Rattle.sql_parts.specs.declared.tokenizer.Token as tokens
use Rattle.sql_parts.proofs.tokens.{cut-first}

no_prefix : (style : Style) (byte : ℕ) → byte ≢ 63 → byte ≢ 36 → (byte == prefix style) ≡ false
no_prefix style.Question byte no_question no_dollar = ne_eqb byte 63 no_question
no_prefix style.Dollar byte no_question no_dollar = ne_eqb byte 36 no_dollar

-- the text behind what is read at the front, which is no mark
abbrev pub Stays : Style → ℕ → List ℕ → List ℕ → Type 0
Stays style byte behind rest = ((mark_at style byte behind).0 ≡ None) × (rest ≡ drop (mark_at style byte behind).1 behind)

name-more : (byte : ℕ) (behind : List ℕ) → is_word_byte byte ≡ true → prefix_len is_name_byte (byte ∷ behind) ≡ suc (prefix_len is_name_byte behind)
name-more byte behind is = rw is (omega arith)

pub stays-name : (style : Style) (byte : ℕ) (text rest : List ℕ) → text ≡ byte ∷ drop 1 text → byte ≢ 63 → byte ≢ 36 → is_word_byte byte ≡ true
    → rest ≡ drop (prefix_len is_name_byte text) text → Stays style byte (drop 1 text) rest
stays-name style byte text rest front no_question no_dollar is left =
    let behind = drop 1 text in
    let bytes : prefix_len is_name_byte text ≡ suc (prefix_len is_name_byte behind) = ap (prefix_len is_name_byte) front ∙ name-more byte behind is in
    rw (no_prefix style byte no_question no_dollar, ne_eqb byte 63 no_question, is) (refl, left ∙ (λ i. drop (bytes i) (front i)))

token-left : (behind : List ℕ) (read : Option tokens.Token × Bor (List ℕ)) (given : List Token × ℕ) → tokenizer.IsRead behind read given
    → read.1.now ≡ drop given.1 behind
token-left behind (None, rest) ([], skipped) here = here
token-left behind (Some found, rest) (token ∷ [], skipped) here = here.1
token-left behind (None, rest) (token ∷ more, skipped) here = absurd here
token-left behind (Some found, rest) ([], skipped) here = absurd here
token-left behind (Some found, rest) (token ∷ next ∷ more, skipped) here = absurd here

-- where no test passes
no-test : (digits : Bool) (numbered : Option Mark × ℕ) (name more : ℕ) (style : Style) (byte : ℕ) → byte ≢ 63 → byte ≢ 36 → is_word_byte byte ≡ false
    → (if byte == prefix style && digits then numbered
    else (if byte == 63 then (Some Bare, 0) else (if is_name_byte byte then (None, name) else (None, more)))) ≡ (None, more)
no-test digits numbered name more style byte no_question no_dollar isnt =
    rw (no_prefix style byte no_question no_dollar, ne_eqb byte 63 no_question, isnt, ne_eqb byte 36 no_dollar)

pub stays-token : (style : Style) (byte : ℕ) (behind : List ℕ) (read : Option tokens.Token × Bor (List ℕ)) → byte ≢ 63 → byte ≢ 36
    → is_word_byte byte ≡ false → tokenizer.IsRead behind read (first byte behind) → Stays style byte behind read.1.now
stays-token style byte behind read no_question no_dollar isnt here =
    let is : mark_at style byte behind ≡ (None, (first byte behind).1) = no-test _ _ _ _ style byte no_question no_dollar isnt in (
      ap (λ (found : Option Mark × ℕ). found.0) is,
      token-left behind read (first byte behind) here ∙ ap (λ (found : Option Mark × ℕ). drop found.1 behind) (sym is),
    )

-- a text may be cut behind a sign
pub cut-sign : (byte : ℕ) (text : List ℕ) → IsUtf8 text → text ≡ byte ∷ drop 1 text → (byte ≡ 36) ⊎ (byte ≡ 63) → IsCharBoundary text 1
cut-sign byte text utf8 front (inl dollar) = cut-first byte text utf8 front (ap is_word_byte dollar)
cut-sign byte text utf8 front (inr question) = cut-first byte text utf8 front (ap is_word_byte question)

-- ---- the first mark

pub cut_from-drop : (style : Style) (skipped : ℕ) (text : List ℕ) → cut_from style skipped text ≡ cut style (drop skipped text)
cut_from-drop style zero text = refl
cut_from-drop style (suc skipped) [] = refl
cut_from-drop style (suc skipped) (byte ∷ text) = cut_from-drop style skipped text

-- what is at the front of a text, and then the rest
pub cut-rule : (style : Style) (byte : ℕ) (behind : List ℕ) → let found = mark_at style byte behind in
    cut style (byte ∷ behind) ≡ followed_by found.0 (byte ∷ take found.1 behind) (cut style (drop found.1 behind))
cut-rule style byte behind =
    let found = mark_at style byte behind in ap (followed_by found.0 (byte ∷ take found.1 behind)) (cut_from-drop style found.1 behind)

-- a text that stays, and then the rest
abbrev pub IsBefore : Style → List ℕ → List ℕ → Type 0
IsBefore style text rest = (front : List ℕ) × (text ≡ front ++ rest) × (cut style text ≡ (front ++ (cut style rest).0, (cut style rest).1))

pub before-further : (style : Style) (text rest further : List ℕ) → IsBefore style text rest → IsBefore style rest further → IsBefore style text further
before-further style text rest further before more = (
  before.0 ++ more.0,
  before.1 ∙ ap (λ r. before.0 ++ r) more.1 ∙ sym (append_assoc before.0 more.0 further),
  before.2 ∙ ap (λ (c : Cut). (before.0 ++ c.0, c.1)) more.2
      ∙ ap (λ t. (t, (cut style further).1)) (sym (append_assoc before.0 more.0 (cut style further).0)),
)

-- the text that stays is the text without the rest
pub is-segment : (style : Style) (text rest segment : List ℕ) (before : IsBefore style text rest) → segment ≡ take (length text - length rest) text
    → segment ≡ before.0
is-segment style text rest segment before is =
    let longer : length text ≡ length before.0 + length rest = ap length before.1 ∙ length-append before.0 rest in
    let n : length text - length rest ≡ length before.0 = omega (arith, longer) in
    is ∙ (λ i. take (n i) (before.1 i)) ∙ take-append_seam before.0 rest

by-none : (behind : List ℕ) (rest : Bor (List ℕ)) (given : Option Mark × ℕ) → IsRead behind (None, rest) given
    → (given.0 ≡ None) × (rest.now ≡ drop given.1 behind)
by-none behind rest (None, more) here = (refl, here)
by-none behind rest (Some mark, more) here = absurd here

by-some : (behind : List ℕ) (found : declared.Mark) (rest : Bor (List ℕ)) (given : Option Mark × ℕ)
    → IsRead behind (Some found, rest) given → (mark : Mark) × IsMark found mark × (given.0 ≡ Some mark) × (rest.now ≡ drop given.1 behind)
by-some behind found rest (None, more) here = absurd here
by-some behind found rest (Some mark, more) here = (mark, here.0, refl, here.1)

pub reads-none : (style : Style) (byte : ℕ) (text : List ℕ) (found : Option declared.Mark) (rest : Bor (List ℕ)) → text ≡ byte ∷ drop 1 text
    → IsRead (drop 1 text) (found, rest) (mark_at style byte (drop 1 text)) → found ≡ None → IsBefore style text rest.now
reads-none style byte text found rest front here none =
    let behind = drop 1 text in
    let given = mark_at style byte behind in
    let read = by-none behind rest given (subst (λ f. IsRead behind (f, rest) given) none here) in (
      byte ∷ take given.1 behind,
      front ∙ ap (λ t. byte ∷ t) (sym (take-append-drop given.1 behind) ∙ ap (λ t. take given.1 behind ++ t) (sym read.1)),
      ap (cut style) front ∙ cut-rule style byte behind
          ∙ (λ i. followed_by (read.0 i) (byte ∷ take given.1 behind) (cut style (sym read.1 i))),
    )

-- a mark that is read at the front of a text
abbrev pub IsMarked : Style → List ℕ → declared.Mark → List ℕ → List ℕ → Type 0
IsMarked style text found segment rest =
    (mark : Mark) × IsMark found mark × (cut style text ≡ (segment, (mark, (cut style rest).0) ∷ (cut style rest).1))

pub reads-some : (style : Style) (byte : ℕ) (text : List ℕ) (found : Option declared.Mark) (mark : declared.Mark) (rest : Bor (List ℕ))
    → text ≡ byte ∷ drop 1 text → IsRead (drop 1 text) (found, rest) (mark_at style byte (drop 1 text)) → found ≡ Some mark
    → IsMarked style text mark [] rest.now
reads-some style byte text found mark rest front here some =
    let behind = drop 1 text in
    let given = mark_at style byte behind in
    let read = by-some behind mark rest given (subst (λ f. IsRead behind (f, rest) given) some here) in (
      read.0,
      read.1,
      ap (cut style) front ∙ cut-rule style byte behind
          ∙ (λ i. followed_by (read.2 i) (byte ∷ take given.1 behind) (cut style (sym read.3 i))),
    )

pub marked-behind : (style : Style) (text rest segment further : List ℕ) (mark : declared.Mark) → IsBefore style text rest
    → segment ≡ take (length text - length rest) text → IsMarked style rest mark [] further → IsMarked style text mark segment further
marked-behind style text rest segment further mark before is marked = (
  marked.0,
  marked.1,
  before.2 ∙ ap (λ (c : Cut). (before.0 ++ c.0, c.1)) marked.2
      ∙ ap (λ t. (t, (marked.0, (cut style further).0) ∷ (cut style further).1)) (append-nil before.0 ∙ sym (is-segment style text rest segment before is)),
)

-- what is read leaves less
pub reads-less : (style : Style) (byte : ℕ) (text : List ℕ) (read : Option declared.Mark × Bor (List ℕ)) → text ≡ byte ∷ drop 1 text
    → IsRead (drop 1 text) read (mark_at style byte (drop 1 text)) → length read.1.now < length text
reads-less style byte text read front here =
    let behind = drop 1 text in
    let longer : length text ≡ suc (length behind) = ap length front in
    let left = less behind read (mark_at style byte behind) here in omega (arith, longer, left)
  where
    less : (behind : List ℕ) (read : Option declared.Mark × Bor (List ℕ)) (given : Option Mark × ℕ) → IsRead behind read given
        → length read.1.now ≤ length behind
    less behind (None, rest) (None, more) here = rw (here, length-drop) (omega arith)
    less behind (Some found, rest) (Some mark, more) here = rw (here.1, length-drop) (omega arith)
    less behind (None, rest) (Some mark, more) here = absurd here
    less behind (Some found, rest) (None, more) here = absurd here
