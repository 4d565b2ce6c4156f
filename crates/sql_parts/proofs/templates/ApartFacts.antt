-- Values that stand apart are tokens of their own.
use Rattle.sql_parts.proofs.Imports.{◌≡◌, ℕ, Bool, true, false, not, ◌||◌, ◌⊎◌, List, [], ◌∷◌, ◌++◌, Option, Some, None, option_map, refl, sym, ap, ◌∙◌, subst}
use Rattle.sql_parts.proofs.Imports.{inl, inr, append_assoc, append-nil, ◌&&◌, ◌==◌, codes, flat_map, AllByRecursion, list_any, and_parts, false≢true}
use Rattle.sql_parts.proofs.Imports.{not_from_false, or_cases, or_from, or_left, or_right, list_any-append, Marks}
use Rattle.sql_parts.specs.{HasBoundTokens, IsClosedIfApart, IsSupplied, apart, bound_tokens, segment_apart, segments_apart, LiteralValue, literal_text}
use Rattle.sql_parts.specs.{Resolved, Replacement, bound, resolve, resolved_from, written, resolved_apart, Token, begins_with, clean, closed, ends_with, is_edge}
use Rattle.sql_parts.specs.{is_empty, is_open, is_separator, tokens}
use Rattle.sql_parts.proofs.tokens.{closed-shut, seam, literal-closed, literal-is}

-- separators are edges
separator-edge : (byte : ℕ) → is_separator byte ≡ true → is_edge byte ≡ true
separator-edge byte is = list_any-append (λ other. byte == other) (codes " \t\n\r(),;=<>") (46 ∷ []) ∙ or_left _ _ is

ends-edge : (text : List ℕ) → ends_with is_separator text ≡ true → ends_with is_edge text ≡ true
ends-edge [] is = is
ends-edge (byte ∷ []) is = separator-edge byte is
ends-edge (byte ∷ next ∷ text) is = ends-edge (next ∷ text) is

-- what holds of a segment that is apart
record Fits (first last : Bool) (segment : List ℕ) : Type 0 where
  is_closed : closed segment ≡ true
  behind : last ≡ false → (is_empty segment ≡ true) ⊎ (ends_with is_separator segment ≡ true)
  before : first ≡ false → ((last ≡ true) × (is_empty segment ≡ true)) ⊎ (begins_with is_separator segment ≡ true)

one_of : (free one other : Bool) → (free || one || other) ≡ true → free ≡ false → (one ≡ true) ⊎ (other ≡ true)
one_of true one other is isnt = absurd (false≢true (sym isnt))
one_of false one other is isnt = or_cases one other is

fits : (first last : Bool) (segment : List ℕ) → segment_apart first last segment ≡ true → Fits first last segment
fits first last segment is =
    let outer = and_parts (closed segment && (last || first && is_empty segment || ends_with is_separator segment)) _ is in
    let inner = and_parts (closed segment) _ outer.0 in
    record {
      is_closed = inner.0;
      behind = λ some. elim (one_of last (first && is_empty segment) (ends_with is_separator segment) inner.1 some)
          [ inl empty ↦ inl (and_parts first _ empty).1 | inr ends ↦ inr ends ];
      before = λ some. elim (one_of first (last && is_empty segment) (begins_with is_separator segment) outer.1 some)
          [ inl empty ↦ inl (and_parts last _ empty) | inr begins ↦ inr begins ];
    }

-- what follows a value is nothing, or begins at an edge
value-clean : (before segment rest : List ℕ) → (is_empty segment ≡ true → rest ≡ []) → (is_empty segment ≡ true) ⊎ (begins_with is_separator segment ≡ true)
    → clean before (segment ++ rest) ≡ true
value-clean before [] rest none (inl empty) = rw (none refl) (or_left _ _ (or_left _ _ (or_right (is_empty before) true refl)))
value-clean before [] rest none (inr begins) = absurd (false≢true begins)
value-clean before (byte ∷ segment) rest none (inl empty) = absurd (false≢true empty)
value-clean before (byte ∷ segment) rest none (inr begins) = or_right _ _ (separator-edge byte begins)

-- a segment that a value is behind ends the tokens before it
segment-clean : (segment rest : List ℕ) → (is_empty segment ≡ true) ⊎ (ends_with is_separator segment ≡ true) → clean segment rest ≡ true
segment-clean segment rest (inl empty) = or_left _ _ (or_left _ _ (or_left _ _ empty))
segment-clean segment rest (inr ends) = or_left _ _ (or_right (is_empty segment || is_empty rest) _ (ends-edge segment ends))

-- values that have closed texts, and the segments behind them
module _ {V : Type 0} (text : V → List ℕ) where
  abbrev part_texts : List (V × List ℕ) → List ℕ
  part_texts parts = flat_map (λ part. text part.0 ++ part.1) parts

  abbrev pub part_tokens : List (V × List ℕ) → List Token
  part_tokens parts = flat_map (λ part. tokens (text part.0) ++ tokens part.1) parts

  abbrev AllClosed : List (V × List ℕ) → Type 0
  AllClosed parts = AllByRecursion (λ part. closed (text part.0) ≡ true) parts

  -- what follows a value
  behind-value : (before segment : List ℕ) (parts : List (V × List ℕ)) → segments_apart false segment parts ≡ true
      → clean before (segment ++ part_texts parts) ≡ true
  behind-value before segment [] is =
      value-clean before segment [] (λ empty. refl) (elim ((fits false true segment is).before refl) [ inl last ↦ inl last.1 | inr begins ↦ inr begins ])
  behind-value before segment (part ∷ parts) is =
      let begins : begins_with is_separator segment ≡ true =
      elim ((fits false false segment (and_parts (segment_apart false false segment) _ is).0).before refl)
      [ inl last ↦ absurd (false≢true last.0) | inr begins ↦ begins ] in
      value-clean before segment (part_texts (part ∷ parts)) (λ empty. absurd (some segment empty begins)) (inr begins)
    where
      some : (text : List ℕ) → is_empty text ≡ true → begins_with is_separator text ≡ true → ⊥
      some [] empty begins = false≢true begins
      some (byte ∷ text) empty begins = false≢true empty

  pub segments-tokens : (first : Bool) (segment : List ℕ) (parts : List (V × List ℕ)) → AllClosed parts → segments_apart first segment parts ≡ true
      → tokens (segment ++ part_texts parts) ≡ tokens segment ++ part_tokens parts
  segments-tokens first segment [] shut is = ap tokens (append-nil segment) ∙ sym (append-nil (tokens segment))
  segments-tokens first segment (part ∷ parts) shut is =
      let both = and_parts (segment_apart first false segment) _ is in
      let here = fits first false segment both.0 in
      let value = text part.0 in
      let rest = part.1 ++ part_texts parts in
      ap (λ more. tokens (segment ++ more)) (append_assoc value part.1 (part_texts parts))
      ∙ seam segment (value ++ rest) here.is_closed (segment-clean segment (value ++ rest) (here.behind refl))
      ∙ ap (λ more. tokens segment ++ more)
      (seam value rest shut.0 (behind-value value part.1 parts both.1)
      ∙ ap (λ more. tokens value ++ more) (segments-tokens false part.1 parts shut.1 both.1)
      ∙ sym (append_assoc (tokens value) (tokens part.1) (part_tokens parts)))

  -- none of them is open
  pub segments-shut : (first : Bool) (segment : List ℕ) (parts : List (V × List ℕ)) → AllClosed parts → segments_apart first segment parts ≡ true
      → closed (segment ++ part_texts parts) ≡ true
  segments-shut first segment parts shut is =
      ap (λ ts. not (list_any is_open ts)) (segments-tokens first segment parts shut is) ∙ not_from_false _ (none-open first segment parts shut is)
    where
      none-open : (first : Bool) (segment : List ℕ) (parts : List (V × List ℕ)) → AllClosed parts → segments_apart first segment parts ≡ true
          → list_any is_open (tokens segment ++ part_tokens parts) ≡ false
      none-open first segment [] shut is =
          ap (list_any is_open) (append-nil (tokens segment)) ∙ closed-shut segment (fits first true segment is).is_closed
      none-open first segment (part ∷ parts) shut is =
          let both = and_parts (segment_apart first false segment) _ is in
          let value = tokens (text part.0) in
          let more = part_tokens parts in
          list_any-append is_open (tokens segment) ((value ++ tokens part.1) ++ more)
          ∙ or_from _ _ (closed-shut segment (fits first false segment both.0).is_closed)
          (ap (list_any is_open) (append_assoc value (tokens part.1) more) ∙ list_any-append is_open value (tokens part.1 ++ more)
          ∙ or_from _ _ (closed-shut (text part.0) shut.0) (none-open false part.1 parts shut.1 both.1))

-- ---- literals

literals-closed : (literals : Replacement → LiteralValue) (parts : List (Replacement × List ℕ))
    → AllByRecursion (λ (part : Replacement × List ℕ). closed (literal_text (literals part.0)) ≡ true) parts
literals-closed literals [] = tt
literals-closed literals (part ∷ parts) = (literal-closed (literals part.0), literals-closed literals parts)

resolved-tokens : (literals : Replacement → LiteralValue) (resolved : Option Resolved) → resolved_apart resolved ≡ true
    → option_map tokens (option_map (written literals) resolved) ≡ option_map (bound_tokens literals) resolved
resolved-tokens literals None is = refl
resolved-tokens literals (Some resolved) is =
    ap Some (segments-tokens (λ value. literal_text (literals value)) true resolved.0 resolved.1 (literals-closed literals resolved.1) is
    ∙ (λ i. tokens resolved.0 ++ flat_map (λ part. literal-is (literals part.0) i ++ tokens part.1) resolved.1))

-- the tokens of a bound text
pub bound-is : (template : List ℕ) (marks : Marks) (literals : Replacement → LiteralValue) → apart template marks ≡ true
    → option_map tokens (bound template marks literals) ≡ option_map (bound_tokens literals) (resolve template marks)
bound-is template marks literals is = resolved-tokens literals (resolve template marks) is

resolved-closed : (literals : Replacement → LiteralValue) (text : List ℕ) (resolved : Option Resolved) → resolved_apart resolved ≡ true
    → option_map (written literals) resolved ≡ Some text → closed text ≡ true
resolved-closed literals text None is written_is = absurd (false≢true is)
resolved-closed literals text (Some resolved) is written_is =
    let same : written literals resolved ≡ text = cc written_is in
    subst (λ t. closed t ≡ true) same
    (segments-shut (λ value. literal_text (literals value)) true resolved.0 resolved.1 (literals-closed literals resolved.1) is)

-- a bound text is closed
pub bound-closed : (template text : List ℕ) (marks : Marks) (literals : Replacement → LiteralValue) → apart template marks ≡ true
    → bound template marks literals ≡ Some text → closed text ≡ true
bound-closed template text marks literals is bound_is = resolved-closed literals text (resolve template marks) is bound_is

-- what is known of a text that is a resolved template with literals in it
is-bound : (template text : List ℕ) (marks : Marks) (literals : Replacement → LiteralValue) → text ≡ written literals (resolved_from marks 0 0 template)
    → IsSupplied template marks
    → bound template marks literals ≡ Some text
is-bound template text marks literals is supplied = ap (option_map (written literals)) supplied ∙ ap Some (sym is)

pub has_bound_tokens : (template text : List ℕ) (marks : Marks) (literals : Replacement → LiteralValue) → text ≡ written literals (resolved_from marks 0 0 template)
    → IsSupplied template marks → HasBoundTokens template marks literals text
has_bound_tokens template text marks literals is supplied = λ is_apart. ap (option_map tokens) (sym (is-bound template text marks literals is supplied))
    ∙ bound-is template marks literals is_apart

pub is_closed_if_apart : (template text : List ℕ) (marks : Marks) (literals : Replacement → LiteralValue) → text ≡ written literals (resolved_from marks 0 0 template)
    → IsSupplied template marks → IsClosedIfApart template marks text
is_closed_if_apart template text marks literals is supplied =
    λ is_apart. bound-closed template text marks literals is_apart (is-bound template text marks literals is supplied)
