-- Readers go through the same states outside of texts that are bound.
use Rattle.sql_parts.proofs.Imports.{◌≡◌, refl, sym, ◌∙◌, ap, ℕ, Bool, List, [], ◌∷◌, ◌++◌, map, Option, Some, None, append-nil, true, flat_map, option_map}
use Rattle.sql_parts.proofs.Imports.{unwrap_or, list_all, flat_map-append, map-append, Part, marks}
use Rattle.sql_parts.specs.{LiteralValue, literal_text, null, truth, whole, words, ReadersIgnoreBoundTexts, literal_parts, resolved_parts, Constant, Reader}
use Rattle.sql_parts.specs.{IsInsideAtEach, emptied, has_plain_text, outer_states, part_bytes, parts_bytes, blank_literal, Resolved, Replacement, resolve, written}
use Rattle.sql_parts.specs.{DifferInTexts}
use Rattle.sql_parts.proofs.templates.BoundTextFacts.{blanked, same_blanks}
use Rattle.sql_parts.proofs.tokens.{readers-alike}

-- ---- literals

literal-emptied : (literal : LiteralValue) → map emptied (literal_parts literal) ≡ literal_parts (blank_literal literal)
literal-emptied null = refl
literal-emptied (truth value) = refl
literal-emptied (whole number) = refl
literal-emptied (words text) = refl

literal-bytes : (literal : LiteralValue) → parts_bytes (literal_parts literal) ≡ literal_text literal
literal-bytes null = refl
literal-bytes (truth value) = append-nil (literal_text (truth value))
literal-bytes (whole number) = append-nil (literal_text (whole number))
literal-bytes (words text) = refl

-- ---- templates

abbrev later_parts : (Replacement → LiteralValue) → List (Replacement × List ℕ) → List Part
later_parts literals values = flat_map (λ (value : Replacement × List ℕ). literal_parts (literals value.0) ++ Constant value.1 ∷ []) values

abbrev later_text : (Replacement → LiteralValue) → List (Replacement × List ℕ) → List ℕ
later_text literals values = flat_map (λ (value : Replacement × List ℕ). literal_text (literals value.0) ++ value.1) values

later-emptied : (literals : Replacement → LiteralValue) (values : List (Replacement × List ℕ))
    → map emptied (later_parts literals values) ≡ later_parts (blanked literals) values
later-emptied literals [] = refl
later-emptied literals (value ∷ values) =
    let here = literal_parts (literals value.0) in
    map-append emptied (here ++ Constant value.1 ∷ []) (later_parts literals values)
    ∙ (λ i. map-append emptied here (Constant value.1 ∷ []) i ++ later-emptied literals values i)
    ∙ ap (λ first. (first ++ Constant value.1 ∷ []) ++ later_parts (blanked literals) values) (literal-emptied (literals value.0))

later-bytes : (literals : Replacement → LiteralValue) (values : List (Replacement × List ℕ)) → parts_bytes (later_parts literals values) ≡ later_text literals values
later-bytes literals [] = refl
later-bytes literals (value ∷ values) =
    let here = literal_parts (literals value.0) in
    flat_map-append part_bytes (here ++ Constant value.1 ∷ []) (later_parts literals values)
    ∙ (λ i. flat_map-append part_bytes here (Constant value.1 ∷ []) i ++ later-bytes literals values i)
    ∙ (λ i. (literal-bytes (literals value.0) i ++ append-nil value.1 i) ++ later_text literals values)

module _ (next : Reader) (plain : ℕ → Bool) (state : ℕ) (one other : Replacement → LiteralValue) (differ : DifferInTexts one other) where
  abbrev parts_of : (Replacement → LiteralValue) → Option Resolved → List Part
  parts_of literals resolved = unwrap_or (option_map (resolved_parts literals) resolved) []

  abbrev outside : (Replacement → LiteralValue) → Option Resolved → Option (List ℕ)
  outside literals resolved = option_map (outer_states next state (marks (parts_of literals resolved))) (option_map (written literals) resolved)

  resolved-alike : (resolved : Option Resolved) → list_all (has_plain_text plain) (parts_of one resolved) ≡ true
      → list_all (has_plain_text plain) (parts_of other resolved) ≡ true → IsInsideAtEach next plain state (parts_of one resolved)
      → IsInsideAtEach next plain state (parts_of other resolved) × (outside one resolved ≡ outside other resolved)
  resolved-alike None one_plain other_plain inside = (tt, refl)
  resolved-alike (Some resolved) one_plain other_plain inside =
      let same : map emptied (resolved_parts one resolved) ≡ map emptied (resolved_parts other resolved) =
      ap (λ more. Constant resolved.0 ∷ more)
      (later-emptied one resolved.1 ∙ ap (λ literals. later_parts literals resolved.1) (same_blanks one other differ) ∙ sym (later-emptied other resolved.1)) in
      let alike = readers-alike next plain state (resolved_parts one resolved) (resolved_parts other resolved) same one_plain other_plain inside in
      let read : (Replacement → LiteralValue) → List ℕ → List ℕ =
      λ literals text. outer_states next state (marks (resolved_parts literals resolved)) (resolved.0 ++ text) in
      (alike.0, ap Some (ap (read one) (sym (later-bytes one resolved.1)) ∙ alike.1 ∙ ap (read other) (later-bytes other resolved.1)))

pub bound-alike : ReadersIgnoreBoundTexts
bound-alike next plain state template placeholders one other differ one_plain other_plain inside =
    resolved-alike next plain state one other differ (resolve template placeholders) one_plain other_plain inside
