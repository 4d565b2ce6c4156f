-- What masks match that are made of escaped texts.
use Rattle.sql_parts.proofs.Imports.{code, ◌≡◌, ◌≢◌, ℕ, suc, ◌-◌, ◌<◌, ◌≤◌, true, false, List, [], ◌∷◌, ◌++◌, map, length, get_or, take, drop, Option, Some}
use Rattle.sql_parts.proofs.Imports.{None, refl, sym, ap, ◌∙◌, subst, inl, inr, arith, append-nil, ◌==◌, ◌||◌, ◌↔◌, codes, option_map, nat_eq, encode_utf8}
use Rattle.sql_parts.proofs.Imports.{encode_utf8_all, if◌then◌else◌, IsUtf8, IsCharBoundary, option_map_or, starts_with, ends_with, flat_map-append}
use Rattle.sql_parts.proofs.Imports.{Decides-eqb, nat_tests, ends_is, starts_is, drop-append_seam, take-append_seam, and_from, and_parts, cases_Bool, cases_lt}
use Rattle.sql_parts.proofs.Imports.{eq-eqb, eqb-true, ne_eqb, or_cases, or_left, or_parts, or_right, IsUtf8-take, IsCharBoundary-at_seam, chars-append}
use Rattle.sql_parts.proofs.Imports.{chars-nil, chars-encodes, encode_ascii, encodes-append, encodes-chars, scalars-chars, inside_one}
use Rattle.std.specs.Str.{chars}
use Rattle.std.specs.Str.Iter.{HasSubslice}
use Rattle.std.proofs.Math.Utf8.{low_scalar, scalar, scalars}
use Rattle.sql_parts.proofs.bytes.SplitLemmas.{cut-before}
use Rattle.sql_parts.specs.{escape_character, Part, AnyRun, Exactly, fits, is_special, like_escaped, matches, parts, unescaped_part}
use Rattle.sql_parts.specs.declared.like.LikeEscape.{LikeEscape}
use Rattle.sql_parts.specs.declared.like.LikeEscape.TheVariants.{Exclamation, Hash, Slash, Caret, Bar, Tilde}

-- this part, and those that may be behind it
abbrev then_part : Part → Option (List Part) → Option (List Part)
then_part part behind = option_map (λ further. part ∷ further) behind

-- a part for each character, and those that may be behind them
abbrev then_parts : List ℕ → Option (List Part) → Option (List Part)
then_parts text behind = option_map (λ further. map Exactly text ++ further) behind

-- a character that isn't the escape character is itself or a wildcard
parts-unescaped : (escape character : ℕ) (mask : List ℕ) → (character == escape) ≡ false
    → parts escape (character ∷ mask) ≡ then_part (unescaped_part character) (parts escape mask)
parts-unescaped escape character [] isnt = rw isnt
parts-unescaped escape character (next ∷ mask) isnt = rw isnt

parts-escape : (escape next : ℕ) (mask : List ℕ) → parts escape (escape ∷ next ∷ mask) ≡ then_part (Exactly next) (parts escape mask)
parts-escape escape next mask = rw (eq-eqb escape escape refl) refl

then_parts-cons : (character : ℕ) (text : List ℕ) (behind : Option (List Part))
    → then_part (Exactly character) (then_parts text behind) ≡ then_parts (character ∷ text) behind
then_parts-cons character text None = refl
then_parts-cons character text (Some further) = refl

then_parts-nil : (behind : Option (List Part)) → behind ≡ then_parts [] behind
then_parts-nil None = refl
then_parts-nil (Some further) = refl

-- the parts of an escaped text are its characters
parts-escaped : (escape : ℕ) (text mask : List ℕ) → parts escape (like_escaped escape text ++ mask) ≡ then_parts text (parts escape mask)
parts-escaped escape [] mask = then_parts-nil (parts escape mask)
parts-escaped escape (character ∷ text) mask =
    let rest : List ℕ = like_escaped escape text ++ mask in
    let later = ap (then_part (Exactly character)) (parts-escaped escape text mask) ∙ then_parts-cons character text (parts escape mask) in
    elim (cases_Bool (is_special escape character)) [
      | inl is ↦ rw is (parts-escape escape character rest ∙ later)
      | inr isnt ↦
          let other = or_parts (character == code "%" || character == code "_") (character == escape) isnt in
          let wild = or_parts (character == code "%") (character == code "_") other.0 in
          rw isnt (parts-unescaped escape character rest other.1 ∙ rw (wild.0, wild.1) later)
    ]

-- the text begins with these characters, and the further parts fit what is behind them
abbrev Follows : List ℕ → List Part → List ℕ → Type 0
Follows wanted further text = (rest : List ℕ) × (text ≡ wanted ++ rest) × (fits further rest ≡ true)

follows : (wanted : List ℕ) (further : List Part) (text : List ℕ) → fits (map Exactly wanted ++ further) text ≡ true → Follows wanted further text
follows [] further text fit = (text, refl, fit)
follows (character ∷ wanted) further [] fit = absurd cc
follows (character ∷ wanted) further (other ∷ text) fit =
    let both = and_parts (character == other) (fits (map Exactly wanted ++ further) text) fit in
    let later = follows wanted further text both.1 in
    (later.0, (λ i. sym (eqb-true character other both.0) i ∷ later.1 i), later.2)

fits-behind : (wanted : List ℕ) (further : List Part) (rest : List ℕ) → fits further rest ≡ true
    → fits (map Exactly wanted ++ further) (wanted ++ rest) ≡ true
fits-behind [] further rest fit = fit
fits-behind (character ∷ wanted) further rest fit =
    and_from (character == character) _ (eq-eqb character character refl) (fits-behind wanted further rest fit)

-- the further parts fit an end of the text
abbrev FitsEnd : List Part → List ℕ → Type 0
FitsEnd further text = (run : List ℕ) × (rest : List ℕ) × (text ≡ run ++ rest) × (fits further rest ≡ true)

fits-end : (further : List Part) (text : List ℕ) → fits (AnyRun ∷ further) text ≡ true → FitsEnd further text
fits-end further [] fit = ([], [], refl, elim (or_cases (fits further []) false fit) [ inl here ↦ here | inr none ↦ absurd cc ])
fits-end further (character ∷ text) fit =
    elim (or_cases (fits further (character ∷ text)) (fits (AnyRun ∷ further) text) fit) [
      | inl here ↦ ([], character ∷ text, refl, here)
      | inr later ↦ let given = fits-end further text later in (character ∷ given.0, given.1, ap (λ t. character ∷ t) given.2, given.3)
    ]

fits-run : (further : List Part) (run rest : List ℕ) → fits further rest ≡ true → fits (AnyRun ∷ further) (run ++ rest) ≡ true
fits-run further [] [] fit = or_left (fits further []) false fit
fits-run further [] (character ∷ rest) fit = or_left (fits further (character ∷ rest)) _ fit
fits-run further (character ∷ run) rest fit = or_right (fits further (character ∷ run ++ rest)) _ (fits-run further run rest fit)

fits-nothing : (text : List ℕ) → fits [] text ≡ true → text ≡ []
fits-nothing [] fit = refl
fits-nothing (character ∷ text) fit = absurd cc

fits-anything : (text : List ℕ) → fits (AnyRun ∷ []) text ≡ true
fits-anything text = subst (λ (t : List ℕ). fits (AnyRun ∷ []) t ≡ true) (append-nil text) (fits-run [] text [] refl)

-- what a character is escaped to
abbrev pub each : ℕ → ℕ → List ℕ
each escape character = if is_special escape character then escape ∷ character ∷ [] else character ∷ []

-- no byte of a character that isn't ASCII is escaped
high-plain : (escape byte : ℕ) → escape < 128 → 128 ≤ byte → is_special escape byte ≡ false
high-plain escape byte low high = grind (arith, nat_tests)

high-unescaped : (escape : ℕ) (bytes : List ℕ) → escape < 128 → ((k : ℕ) → k < length bytes → 128 ≤ get_or bytes k 0) → like_escaped escape bytes ≡ bytes
high-unescaped escape [] low high = refl
high-unescaped escape (byte ∷ bytes) low high =
    let here = high-plain escape byte low (high 0 (omega arith)) in
    let later = high-unescaped escape bytes low (λ k inside. high (suc k) (omega (arith, inside))) in
    rw here (ap (λ t. byte ∷ t) later)

high-bytes : (character : ℕ) → 128 ≤ character → (k : ℕ) → k < length (encode_utf8 character) → 128 ≤ get_or (encode_utf8 character) k 0
high-bytes character high k inside =
    let bytes = encode_utf8 character in
    elim (cases_lt (get_or bytes k 0) 128) [
      | inl small ↦ let same = inside_one character [] bytes k (sym (append-nil bytes)) inside small in absurd (omega arith)
      | inr large ↦ large
    ]

-- bytes are escaped as characters are
one-encodes : (escape character : ℕ) → escape < 128 → like_escaped escape (encode_utf8 character) ≡ encode_utf8_all (each escape character)
one-encodes escape character low =
    let bytes = encode_utf8 character in
    elim (cases_lt character 128) [
      | inl small ↦ elim (cases_Bool (is_special escape character)) [
        | inl is ↦ rw (encode_ascii character small, is, encode_ascii escape low, encode_ascii character small) refl
        | inr isnt ↦ rw (encode_ascii character small, isnt, encode_ascii character small) refl
      ]
      | inr large ↦ rw (high-plain escape character low large) (high-unescaped escape bytes low (high-bytes character large) ∙ sym (append-nil bytes))
    ]

escaped-encodes : (escape : ℕ) (text : List ℕ) → escape < 128 → like_escaped escape (encode_utf8_all text) ≡ encode_utf8_all (like_escaped escape text)
escaped-encodes escape [] low = refl
escaped-encodes escape (character ∷ text) low =
    flat_map-append (each escape) (encode_utf8 character) (encode_utf8_all text)
    ∙ (λ i. one-encodes escape character low i ++ escaped-encodes escape text low i)
    ∙ sym (encodes-append (each escape character) (like_escaped escape text))

escaped-scalars : (escape : ℕ) (text : List ℕ) → escape < 128 → scalars text ≡ true → scalars (like_escaped escape text) ≡ true
escaped-scalars escape [] low are = refl
escaped-scalars escape (character ∷ text) low are =
    let both = and_parts (scalar character) (scalars text) are in
    let later = and_from (scalar character) _ both.0 (escaped-scalars escape text low both.1) in
    elim (cases_Bool (is_special escape character)) [
      | inl is ↦ rw is (and_from (scalar escape) _ (low_scalar escape (omega arith)) later)
      | inr isnt ↦ rw isnt later
    ]

-- What masks are, at characters, where the text is UTF-8 and the escape character is ASCII.
module _ (escape : ℕ) (text : List ℕ) (low : escape < 128) (utf8 : IsUtf8 text) where
  -- the characters of the text, and its bytes once they are escaped
  abbrev own : List ℕ
  own = chars text

  abbrev masked : List ℕ
  masked = like_escaped escape text

  escaped-chars : (rest : List ℕ) → chars (masked ++ rest) ≡ like_escaped escape own ++ chars rest
  escaped-chars rest =
      let are = escaped-scalars escape own low (scalars-chars text utf8) in
      let spelled : encode_utf8_all (like_escaped escape own) ≡ masked =
      sym (escaped-encodes escape own low) ∙ ap (like_escaped escape) (encodes-chars text utf8) in
      chars-append masked rest (like_escaped escape own, (are, spelled))
      ∙ ap (λ t. t ++ chars rest) (ap chars (sym spelled) ∙ chars-encodes (like_escaped escape own) are)

  parts-text : (rest : List ℕ) → parts escape (chars (masked ++ rest)) ≡ then_parts own (parts escape (chars rest))
  parts-text rest = ap (parts escape) (escaped-chars rest) ∙ parts-escaped escape own (chars rest)

  parts-end : parts escape (chars masked) ≡ Some (map Exactly own ++ [])
  parts-end = ap (λ t. parts escape (chars t)) (sym (append-nil masked)) ∙ parts-text [] ∙ ap (λ t. then_parts own (parts escape t)) chars-nil

  -- a text with these characters in the midst of others is one with these bytes there
  spelled : (other before rest : List ℕ) → IsUtf8 other → chars other ≡ before ++ (own ++ rest)
      → other ≡ encode_utf8_all before ++ (text ++ encode_utf8_all rest)
  spelled other before rest utf8_too is =
      sym (encodes-chars other utf8_too) ∙ ap encode_utf8_all is ∙ encodes-append before (own ++ rest)
      ∙ ap (λ t. encode_utf8_all before ++ t) (encodes-append own rest ∙ ap (λ t. t ++ encode_utf8_all rest) (encodes-chars text utf8))

chars-percent : chars (codes "%") ≡ codes "%"
unfolding chars
chars-percent = refl

utf8-percent : IsUtf8 (codes "%")
utf8-percent = (codes "%", (refl, ap (λ t. t ++ []) (encode_ascii (code "%") (omega arith))))

parts-run : (escape : ℕ) (mask : List ℕ) → code "%" ≢ escape → parts escape (chars (code "%" ∷ mask)) ≡ then_part AnyRun (parts escape (chars mask))
parts-run escape mask isnt =
    ap (parts escape) (chars-append (codes "%") mask utf8-percent ∙ ap (λ t. t ++ chars mask) chars-percent)
    ∙ parts-unescaped escape (code "%") (chars mask) (ne_eqb (code "%") escape isnt)

parts-percent : (escape : ℕ) → code "%" ≢ escape → parts escape (chars (codes "%")) ≡ Some (AnyRun ∷ [])
parts-percent escape isnt = parts-run escape [] isnt ∙ ap (λ t. then_part AnyRun (parts escape t)) chars-nil

-- a mask with these parts matches what they fit
by-parts : (escape : ℕ) (mask other : List ℕ) (given : List Part) → parts escape (chars mask) ≡ Some given
    → matches escape mask other ≡ fits given (chars other)
by-parts escape mask other given is = ap (λ found. option_map_or (λ ps. fits ps (chars other)) found false) is

-- what is before a place where a text may be cut is UTF-8
cut-at : (front back other : List ℕ) → IsUtf8 other → other ≡ front ++ back → IsCharBoundary other (length front) → IsUtf8 front
cut-at front back other utf8 is cut =
    subst (λ (t : List ℕ). IsUtf8 t) (ap (take (length front)) is ∙ take-append_seam front back) (IsUtf8-take other (length front) utf8 cut)

-- A mask that is an escaped text matches that text.
pub matches-text : (escape : ℕ) (text other : List ℕ) → escape < 128 → IsUtf8 text → IsUtf8 other
    → matches escape (like_escaped escape text) other ≡ true ↔ other ≡ text
matches-text escape text other low utf8 utf8_too =
    let own = chars text in
    let given = map Exactly own ++ [] in
    let same = by-parts escape (like_escaped escape text) other given (parts-end escape text low utf8) in (
      λ matched.
          let found = follows own [] (chars other) (sym same ∙ matched) in
          spelled escape text low utf8 other [] [] utf8_too (found.1 ∙ ap (λ t. own ++ t) (fits-nothing found.0 found.2)) ∙ append-nil text,
      λ is. same ∙ ap (fits given) (ap chars is ∙ sym (append-nil own)) ∙ fits-behind own [] [] refl,
    )

-- With `%` behind it matches what begins with the text.
pub matches-start : (escape : ℕ) (text other : List ℕ) → escape < 128 → code "%" ≢ escape → IsUtf8 text → IsUtf8 other
    → matches escape (like_escaped escape text ++ codes "%") other ≡ true ↔ starts_with nat_eq other text ≡ true
matches-start escape text other low isnt utf8 utf8_too =
    let own = chars text in
    let given = map Exactly own ++ AnyRun ∷ [] in
    let are = parts-text escape text low utf8 (codes "%") ∙ ap (then_parts own) (parts-percent escape isnt) in
    let same = by-parts escape (like_escaped escape text ++ codes "%") other given are in
    let starts = starts_is Decides-eqb other text _ refl in (
      λ matched.
          let found = follows own (AnyRun ∷ []) (chars other) (sym same ∙ matched) in
          starts.1 (encode_utf8_all found.0) (spelled escape text low utf8 other [] found.0 utf8_too found.1),
      λ begins.
          let rest = drop (length text) other in
          let fit = fits-behind own (AnyRun ∷ []) (chars rest) (fits-anything (chars rest)) in
          same ∙ ap (fits given) (ap chars (starts.0 begins) ∙ chars-append text rest utf8) ∙ fit,
    )

-- With `%` in front it matches what ends with the text.
pub matches-end : (escape : ℕ) (text other : List ℕ) → escape < 128 → code "%" ≢ escape → IsUtf8 text → IsUtf8 other
    → matches escape (codes "%" ++ like_escaped escape text) other ≡ true ↔ ends_with nat_eq other text ≡ true
matches-end escape text other low isnt utf8 utf8_too =
    let own = chars text in
    let behind = map Exactly own ++ [] in
    let are = parts-run escape (like_escaped escape text) isnt ∙ ap (then_part AnyRun) (parts-end escape text low utf8) in
    let same = by-parts escape (codes "%" ++ like_escaped escape text) other (AnyRun ∷ behind) are in
    let ending = ends_is Decides-eqb other text _ refl in (
      λ matched.
          let run = fits-end behind (chars other) (sym same ∙ matched) in
          let found = follows own [] run.1 run.3 in
          let are = run.2 ∙ ap (λ t. run.0 ++ t) (found.1 ∙ ap (λ t. own ++ t) (fits-nothing found.0 found.2)) in
          ending.1 (encode_utf8_all run.0) (spelled escape text low utf8 other run.0 [] utf8_too are ∙ ap (λ t. encode_utf8_all run.0 ++ t) (append-nil text)),
      λ ended.
          let front = take (length other - length text) other in
          let is : other ≡ front ++ text = ending.0 ended in
          let before = cut-at front text other utf8_too is (IsCharBoundary-at_seam other front text is utf8) in
          same ∙ ap (fits (AnyRun ∷ behind)) (ap chars is ∙ chars-append front text before ∙ ap (λ t. chars front ++ t) (sym (append-nil own)))
          ∙ fits-run behind (chars front) (own ++ []) (fits-behind own [] [] refl),
    )

-- a text that contains another one has its characters in the midst of its own
fits-inside : (text front back other : List ℕ) → IsUtf8 text → IsUtf8 other → other ≡ front ++ (text ++ back)
    → fits (AnyRun ∷ map Exactly (chars text) ++ AnyRun ∷ []) (chars other) ≡ true
fits-inside [] front back other utf8 utf8_too is =
    ap (λ t. fits (AnyRun ∷ map Exactly t ++ AnyRun ∷ []) (chars other)) chars-nil
    ∙ fits-run (AnyRun ∷ []) [] (chars other) (fits-anything (chars other))
fits-inside (byte ∷ text) front back other utf8 utf8_too is =
    let own = chars (byte ∷ text) in
    let found = ap (drop (length front)) is ∙ drop-append_seam front (byte ∷ (text ++ back)) in
    let before = cut-at front (byte ∷ (text ++ back)) other utf8_too is (cut-before (byte ∷ text) other (length front) back utf8 (omega arith) found) in
    let are = ap chars is ∙ chars-append front (byte ∷ (text ++ back)) before ∙ ap (λ t. chars front ++ t) (chars-append (byte ∷ text) back utf8) in
    let behind = fits-behind own (AnyRun ∷ []) (chars back) (fits-anything (chars back)) in
    ap (fits (AnyRun ∷ map Exactly own ++ AnyRun ∷ [])) are ∙ fits-run (map Exactly own ++ AnyRun ∷ []) (chars front) (own ++ chars back) behind

-- With `%` on both sides it matches what contains the text.
pub matches-inside : (escape : ℕ) (text other : List ℕ) → escape < 128 → code "%" ≢ escape → IsUtf8 text → IsUtf8 other
    → matches escape (codes "%" ++ like_escaped escape text ++ codes "%") other ≡ true ↔ HasSubslice other text
matches-inside escape text other low isnt utf8 utf8_too =
    let own = chars text in
    let behind = map Exactly own ++ AnyRun ∷ [] in
    let mask = like_escaped escape text ++ codes "%" in
    let found = parts-text escape text low utf8 (codes "%") ∙ ap (then_parts own) (parts-percent escape isnt) in
    let are = parts-run escape mask isnt ∙ ap (then_part AnyRun) found in
    let same = by-parts escape (codes "%" ++ mask) other (AnyRun ∷ behind) are in (
      λ matched.
          let run = fits-end behind (chars other) (sym same ∙ matched) in
          let found = follows own (AnyRun ∷ []) run.1 run.3 in
          let are = run.2 ∙ ap (λ t. run.0 ++ t) found.1 in
          (encode_utf8_all run.0, encode_utf8_all found.0, spelled escape text low utf8 other run.0 found.0 utf8_too are),
      λ has. same ∙ fits-inside text has.0 has.1 other utf8 utf8_too has.2,
    )

-- each escape character is ASCII, and none is `%`
pub escape-low : (escape : LikeEscape) → escape_character escape < 128
escape-low Exclamation = omega arith
escape-low Hash = omega arith
escape-low Slash = omega arith
escape-low Caret = omega arith
escape-low Bar = omega arith
escape-low Tilde = omega arith

pub escape-plain : (escape : LikeEscape) → code "%" ≢ escape_character escape
escape-plain Exclamation same = omega arith
escape-plain Hash same = omega arith
escape-plain Slash same = omega arith
escape-plain Caret same = omega arith
escape-plain Bar same = omega arith
escape-plain Tilde same = omega arith
