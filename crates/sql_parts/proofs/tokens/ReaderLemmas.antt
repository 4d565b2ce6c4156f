-- Readers go through the same states outside of untrusted texts.
use Rattle.sql_parts.proofs.Imports.{◌≡◌, ℕ, Bool, true, false, List, [], ◌∷◌, ◌++◌, refl, sym, ap, subst, ◌∙◌, ◌+◌, inl, inr, append_assoc, length, map, take}
use Rattle.sql_parts.proofs.Imports.{◌==◌, ◌↔◌, AllByRecursion, list_all, take-append_seam, All-from_recursion, recursion_from_All, and_parts, cases_Bool}
use Rattle.sql_parts.proofs.Imports.{eqb-false, length-append, length-map, Part, marks, Quotes}
use Rattle.sql_parts.specs.{between, closing, doubled, opening, IsInsideUntilItsEnd, LeadsAsNoText, PartsAreAtPlaces, ReadersIgnoreDoubledTexts, StaysInside}
use Rattle.sql_parts.specs.{places_from, Constant, Doubled, Reader, DifferInDoubledTexts, IsInside, IsInsideAtEach, OpensLiteral, after, emptied}
use Rattle.sql_parts.specs.{has_plain_text, inner_states, outer_states, part_bytes, part_marks, parts_bytes, states}

module _ (next : Reader) where
  pub after-append : (state : ℕ) (one other : List ℕ) → after next state (one ++ other) ≡ after next (after next state one) other
  after-append state [] other = refl
  after-append state (byte ∷ one) other = after-append (next state byte) one other

  states-append : (state : ℕ) (one other : List ℕ) → states next state (one ++ other) ≡ states next state one ++ states next (after next state one) other
  states-append state [] other = refl
  states-append state (byte ∷ one) other = ap (λ more. next state byte ∷ more) (states-append (next state byte) one other)

  -- bytes that aren't marked, and bytes that are
  unmarked-first : (state : ℕ) (text : List ℕ) (places : List Bool) (more : List ℕ)
      → outer_states next state (map (λ byte. false) text ++ places) (text ++ more)
      ≡ states next state text ++ outer_states next (after next state text) places more
  unmarked-first state [] places more = refl
  unmarked-first state (byte ∷ text) places more = ap (λ all. next state byte ∷ all) (unmarked-first (next state byte) text places more)

  marked-first : (state : ℕ) (text : List ℕ) (places : List Bool) (more : List ℕ)
      → outer_states next state (map (λ byte. true) text ++ places) (text ++ more) ≡ outer_states next (after next state text) places more
  marked-first state [] places more = refl
  marked-first state (byte ∷ text) places more = marked-first (next state byte) text places more

  module _ (plain : ℕ → Bool) where
    -- ---- a text inside of a literal

    module _ (delimiter state : ℕ) (inside : IsInside next plain delimiter state) where
      pub inner-after : (text : List ℕ) → list_all plain text ≡ true → after next state (doubled delimiter text) ≡ state
      inner-after [] all = refl
      inner-after (byte ∷ text) all =
          let both = and_parts (plain byte) (list_all plain text) all in
          let rest = doubled delimiter text in
          elim (cases_Bool (byte == delimiter)) [
            | inl is ↦ rw is (ap (λ s. after next s rest) inside.goes_on ∙ inner-after text both.1)
            | inr isnt ↦ rw isnt (ap (λ s. after next s rest) (inside.stays byte both.0 (eqb-false byte delimiter isnt)) ∙ inner-after text both.1)
          ]

      inner-states : (text : List ℕ) → list_all plain text ≡ true
          → states next state (doubled delimiter text) ≡ inner_states state (next state delimiter) delimiter text
      inner-states [] all = refl
      inner-states (byte ∷ text) all =
          let both = and_parts (plain byte) (list_all plain text) all in
          let later = inner-states text both.1 in
          let ended = next state delimiter in
          elim (cases_Bool (byte == delimiter)) [
            | inl is ↦ rw is (ap (λ s. ended ∷ s ∷ states next s (doubled delimiter text)) inside.goes_on ∙ ap (λ more. ended ∷ state ∷ more) later)
            | inr isnt ↦ rw isnt (ap (λ s. s ∷ states next s (doubled delimiter text)) (inside.stays byte both.0 (eqb-false byte delimiter isnt))
                ∙ ap (λ more. state ∷ more) later)
          ]

    -- ---- a text between quotes

    module _ (quotes : Quotes) (state : ℕ) (opens : OpensLiteral next plain quotes state) (text : List ℕ) (all : list_all plain text ≡ true) where
      pub between-after : after next state (between quotes text) ≡ after next state (between quotes [])
      between-after =
          after-append (next state (opening quotes)) (doubled (closing quotes) text) (closing quotes ∷ [])
          ∙ ap (λ s. next s (closing quotes)) (inner-after (closing quotes) (next state (opening quotes)) opens text all)

      pub between-states : states next state (between quotes text)
          ≡ next state (opening quotes) ∷ inner_states (next state (opening quotes)) (next (next state (opening quotes)) (closing quotes)) (closing quotes) text
          ++ next (next state (opening quotes)) (closing quotes) ∷ []
      between-states =
          let inside = next state (opening quotes) in
          ap (λ more. inside ∷ more) (states-append inside (doubled (closing quotes) text) (closing quotes ∷ [])
          ∙ (λ i. inner-states (closing quotes) inside opens text all i ++ next (inner-after (closing quotes) inside opens text all i) (closing quotes) ∷ []))

    -- ---- parts

    pub inside-append : (state : ℕ) (one other : List Part) → IsInsideAtEach next plain state one
        → IsInsideAtEach next plain (after next state (parts_bytes one)) other → IsInsideAtEach next plain state (one ++ other)
    inside-append state [] other here later = later
    inside-append state (part ∷ one) other here later = (
      here.0,
      inside-append (after next state (part_bytes part)) one other here.1
          (subst (λ s. IsInsideAtEach next plain s other) (after-append state (part_bytes part) (parts_bytes one)) later),
    )

    abbrev Outer : ℕ → List Part → List ℕ
    Outer state parts = outer_states next state (marks parts) (parts_bytes parts)

    abbrev Alike : ℕ → List Part → List Part → Type 0
    Alike state one other = IsInsideAtEach next plain state other × (Outer state one ≡ Outer state other)

    constant : (state : ℕ) (text : List ℕ) (one other : List Part) → Alike (after next state text) one other
        → Alike state (Constant text ∷ one) (Constant text ∷ other)
    constant state text one other alike = (
      (tt, alike.0),
      unmarked-first state text (marks one) (parts_bytes one) ∙ ap (λ more. states next state text ++ more) alike.1
          ∙ sym (unmarked-first state text (marks other) (parts_bytes other)),
    )

    pub parts-alike : (state : ℕ) (one other : List Part) → DifferInDoubledTexts one other → list_all (has_plain_text plain) one ≡ true
        → list_all (has_plain_text plain) other ≡ true → IsInsideAtEach next plain state one → Alike state one other
    parts-alike state [] [] same one_plain other_plain inside = (tt, refl)
    parts-alike state [] (part ∷ other) same one_plain other_plain inside = cc same
    parts-alike state (part ∷ one) [] same one_plain other_plain inside = cc same
    parts-alike state (Constant text ∷ one) (Constant other_text ∷ other) same one_plain other_plain inside =
        let here : text ≡ other_text = cc same in
        let rest : map emptied one ≡ map emptied other = cc same in
        subst (λ (t : List ℕ). Alike state (Constant text ∷ one) (Constant t ∷ other)) here
        (constant state text one other (parts-alike (after next state text) one other rest one_plain other_plain inside.1))
    parts-alike state (Constant text ∷ one) (Doubled delimiter other_text ∷ other) same one_plain other_plain inside = cc same
    parts-alike state (Doubled delimiter text ∷ one) (Constant other_text ∷ other) same one_plain other_plain inside = cc same
    parts-alike state (Doubled delimiter text ∷ one) (Doubled further other_text ∷ other) same one_plain other_plain inside =
        let here : delimiter ≡ further = cc same in
        let rest : map emptied one ≡ map emptied other = cc same in
        let first = and_parts (list_all plain text) (list_all (has_plain_text plain) one) one_plain in
        let second = and_parts (list_all plain other_text) (list_all (has_plain_text plain) other) other_plain in
        let one_stays = inner-after delimiter state inside.0 text first.0 in
        let other_stays = inner-after delimiter state inside.0 other_text second.0 in
        let later = parts-alike state one other rest first.1 second.1 (subst (λ s. IsInsideAtEach next plain s one) one_stays inside.1) in
        subst (λ (d : ℕ). Alike state (Doubled delimiter text ∷ one) (Doubled d other_text ∷ other)) here (
          (inside.0, subst (λ s. IsInsideAtEach next plain s other) (sym other_stays) later.0),
          marked-first state (doubled delimiter text) (marks one) (parts_bytes one) ∙ ap (λ s. Outer s one) one_stays ∙ later.1
              ∙ ap (λ s. Outer s other) (sym other_stays) ∙ sym (marked-first state (doubled delimiter other_text) (marks other) (parts_bytes other)),
        )

-- a mark for each byte
part-length : (part : Part) → length (part_marks part) ≡ length (part_bytes part)
part-length (Constant text) = length-map text (λ byte. false)
part-length (Doubled delimiter text) = length-map (doubled delimiter text) (λ byte. true)

pub marks-length : (parts : List Part) → length (marks parts) ≡ length (parts_bytes parts)
marks-length [] = refl
marks-length (part ∷ parts) = simp (length-append, part-length, marks-length parts)

pub readers-alike : ReadersIgnoreDoubledTexts
readers-alike next plain state one other differ one_plain other_plain inside = parts-alike next plain state one other differ one_plain other_plain inside

pub leads-as_none : (quotes : Quotes) → LeadsAsNoText quotes (between quotes)
leads-as_none quotes next plain state text opens all = between-after next plain quotes state opens text all

pub inside-until_end : (quotes : Quotes) → IsInsideUntilItsEnd quotes (between quotes)
inside-until_end quotes next plain state text opens all = between-states next plain quotes state opens text all

pub stays-inside : (quotes : Quotes) → StaysInside quotes (doubled (closing quotes))
stays-inside quotes next plain state text inside all = inner-after next plain (closing quotes) state inside text all

-- ---- places

module _ (next : Reader) (plain : ℕ → Bool) (state : ℕ) where
  abbrev At : List ℕ → ℕ × ℕ → Type 0
  At text place = IsInside next plain place.1 (after next state (take place.0 text))

  -- behind some bytes
  abbrev Ties : List ℕ → ℕ → List Part → Type 0
  Ties front before parts =
      IsInsideAtEach next plain (after next state front) parts ↔ AllByRecursion (At (front ++ parts_bytes parts)) (places_from before parts)

  -- and behind further ones
  later : (front text : List ℕ) (before : ℕ) (parts : List Part) → Ties (front ++ text) before parts
      → IsInsideAtEach next plain (after next (after next state front) text) parts
      ↔ AllByRecursion (At (front ++ (text ++ parts_bytes parts))) (places_from before parts)
  later front text before parts tied =
      subst (λ s. IsInsideAtEach next plain s parts ↔ AllByRecursion (At (front ++ (text ++ parts_bytes parts))) (places_from before parts))
      (after-append next state front text)
      (subst (λ all. IsInsideAtEach next plain (after next state (front ++ text)) parts ↔ AllByRecursion (At all) (places_from before parts))
      (append_assoc front text (parts_bytes parts)) tied)

  further : (front text : List ℕ) (before : ℕ) → before ≡ length front → before + length text ≡ length (front ++ text)
  further front text before is = ap (λ n. n + length text) is ∙ sym (length-append front text)

  ties : (front : List ℕ) (before : ℕ) → before ≡ length front → (parts : List Part) → Ties front before parts
  ties front before is [] = (λ inside. tt, λ places. tt)
  ties front before is (Constant text ∷ parts) =
      let rest = later front text (before + length text) parts (ties (front ++ text) (before + length text) (further front text before is) parts) in
      (λ inside. rest.0 inside.1, λ places. (tt, rest.1 places))
  ties front before is (Doubled delimiter text ∷ parts) =
      let written = doubled delimiter text in
      let rest = later front written (before + length written) parts
      (ties (front ++ written) (before + length written) (further front written before is) parts) in
      let cut : take before (front ++ (written ++ parts_bytes parts)) ≡ front =
      ap (λ n. take n (front ++ (written ++ parts_bytes parts))) is ∙ take-append_seam front (written ++ parts_bytes parts) in (
        λ inside. (subst (λ bytes. IsInside next plain delimiter (after next state bytes)) (sym cut) inside.0, rest.0 inside.1),
        λ places. (subst (λ bytes. IsInside next plain delimiter (after next state bytes)) cut places.0, rest.1 places.1),
      )

pub parts-at_places : PartsAreAtPlaces
parts-at_places next plain state parts =
    let tied = ties next plain state [] 0 refl parts in
    let P = At next plain state (parts_bytes parts) in (
      λ inside. All-from_recursion P (places_from 0 parts) (tied.0 inside),
      λ places. tied.1 (recursion_from_All P (places_from 0 parts) places),
    )
