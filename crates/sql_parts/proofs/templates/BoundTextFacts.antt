-- Texts that are bound in place of other texts leave all other tokens as they are.
use Rattle.sql_parts.proofs.Imports.{◌≡◌, refl, sym, ◌∙◌, ap, ℕ, zero, suc, Bool, true, List, [], ◌∷◌, ◌++◌, map, Option, Some, None, option_map, append_assoc}
use Rattle.sql_parts.proofs.Imports.{IfSome, IsTrue, flat_map, unwrap_or, Marks}
use Rattle.std.specs.Prelude.{slice_get}
use Rattle.sql_parts.specs.{ArgumentsDifferInTexts, BoundTextsAreStrings, BoundTextsDoNotInterfere, BoundTextsKeepTheirPlaces, IgnoresBoundTexts}
use Rattle.sql_parts.specs.{IgnoresStrings, NamesDifferInTexts, are_strings, blank_at, blank_literal, bound_places, literal_places, nowhere, resolved_places}
use Rattle.sql_parts.specs.{tokens_but, DifferInText, DifferInTexts, LiteralValue, null, truth, whole, words, Argument, Named, Resolved, Replacement, bound, resolve}
use Rattle.sql_parts.specs.{apart, bound_tokens, literal_tokens, Token, tokens}
use Rattle.sql_parts.proofs.fragments.{nowhere-first, somewhere, strings-first}
use Rattle.sql_parts.proofs.templates.ApartFacts.{bound-is}

-- ---- literals

-- literals that differ in text are equal when blanked, and the other way round
blank_is : (one other : LiteralValue) → DifferInText one other → blank_literal one ≡ blank_literal other
blank_is null other same = ap blank_literal same
blank_is (truth value) other same = ap blank_literal same
blank_is (whole number) other same = ap blank_literal same
blank_is (words text) null same = ap blank_literal same
blank_is (words text) (truth value) same = ap blank_literal same
blank_is (words text) (whole number) same = ap blank_literal same
blank_is (words text) (words other) same = refl

differ : (one other : LiteralValue) → blank_literal one ≡ blank_literal other → DifferInText one other
differ null null same = same
differ null (truth value) same = same
differ null (whole number) same = same
differ null (words text) same = cc same
differ (truth value) null same = same
differ (truth value) (truth other) same = same
differ (truth value) (whole number) same = same
differ (truth value) (words text) same = cc same
differ (whole number) null same = same
differ (whole number) (truth value) same = same
differ (whole number) (whole other) same = same
differ (whole number) (words text) same = cc same
differ (words text) null same = cc same
differ (words text) (truth value) same = cc same
differ (words text) (whole number) same = cc same
differ (words text) (words other) same = tt

places-blank : (literal : LiteralValue) → literal_places (blank_literal literal) ≡ literal_places literal
places-blank null = refl
places-blank (truth value) = refl
places-blank (whole number) = refl
places-blank (words text) = refl

tokens-blank : (literal : LiteralValue) (places : List Bool) (more : List Token)
    → blank_at (literal_places literal ++ places) (literal_tokens literal ++ more) ≡ literal_tokens (blank_literal literal) ++ blank_at places more
tokens-blank null places more = refl
tokens-blank (truth value) places more = refl
tokens-blank (whole number) places more = nowhere-first (literal_tokens (whole number)) places more
tokens-blank (words text) places more = refl

-- ---- templates

abbrev Parts : Type 0
Parts = List (Replacement × List ℕ)

abbrev pub blanked : (Replacement → LiteralValue) → Replacement → LiteralValue
blanked literals value = blank_literal (literals value)

pub same_blanks : (one other : Replacement → LiteralValue) → DifferInTexts one other → blanked one ≡ blanked other
same_blanks one other differ = λ i value. blank_is (one value) (other value) (differ value) i

resolved_places-blank : (literals : Replacement → LiteralValue) (resolved : Resolved)
    → resolved_places (blanked literals) resolved ≡ resolved_places literals resolved
resolved_places-blank literals resolved =
    λ i. nowhere (tokens resolved.0) ++ flat_map (λ (part : Replacement × List ℕ). places-blank (literals part.0) i ++ nowhere (tokens part.1)) resolved.1

abbrev part_places : (Replacement → LiteralValue) → Parts → List Bool
part_places literals parts = flat_map (λ (part : Replacement × List ℕ). literal_places (literals part.0) ++ nowhere (tokens part.1)) parts

abbrev part_tokens : (Replacement → LiteralValue) → Parts → List Token
part_tokens literals parts = flat_map (λ (part : Replacement × List ℕ). literal_tokens (literals part.0) ++ tokens part.1) parts

parts-blank : (literals : Replacement → LiteralValue) (parts : Parts)
    → blank_at (part_places literals parts) (part_tokens literals parts) ≡ part_tokens (blanked literals) parts
parts-blank literals [] = refl
parts-blank literals (part ∷ parts) =
    let literal = literals part.0 in
    let segment = tokens part.1 in
    (λ i. blank_at (append_assoc (literal_places literal) (nowhere segment) (part_places literals parts) i)
    (append_assoc (literal_tokens literal) segment (part_tokens literals parts) i))
    ∙ tokens-blank literal (nowhere segment ++ part_places literals parts) (segment ++ part_tokens literals parts)
    ∙ ap (λ more. literal_tokens (blank_literal literal) ++ more)
    (nowhere-first segment (part_places literals parts) (part_tokens literals parts) ∙ ap (λ more. segment ++ more) (parts-blank literals parts))
    ∙ sym (append_assoc (literal_tokens (blank_literal literal)) segment (part_tokens (blanked literals) parts))

resolved-blank : (literals : Replacement → LiteralValue) (resolved : Resolved)
    → blank_at (resolved_places literals resolved) (bound_tokens literals resolved) ≡ bound_tokens (blanked literals) resolved
resolved-blank literals resolved =
    nowhere-first (tokens resolved.0) (part_places literals resolved.1) (part_tokens literals resolved.1)
    ∙ ap (λ more. tokens resolved.0 ++ more) (parts-blank literals resolved.1)

abbrev places_in : (Replacement → LiteralValue) → Option Resolved → List Bool
places_in literals resolved = unwrap_or (option_map (resolved_places literals) resolved) []

places-kept : (one other : Replacement → LiteralValue) → DifferInTexts one other → (resolved : Option Resolved) → places_in one resolved ≡ places_in other resolved
places-kept one other differ None = refl
places-kept one other differ (Some resolved) =
    sym (resolved_places-blank one resolved) ∙ ap (λ literals. resolved_places literals resolved) (same_blanks one other differ)
    ∙ resolved_places-blank other resolved

found-blank : (literals : Replacement → LiteralValue) (resolved : Option Resolved)
    → option_map (blank_at (places_in literals resolved)) (option_map (bound_tokens literals) resolved) ≡ option_map (bound_tokens (blanked literals)) resolved
found-blank literals None = refl
found-blank literals (Some resolved) = ap Some (resolved-blank literals resolved)

-- ---- bound texts

maps : {X Y Z : Type 0} (g : Y → Z) (f : X → Y) (o : Option X) → option_map (λ x. g (f x)) o ≡ option_map g (option_map f o)
maps g f None = refl
maps g f (Some x) = refl

bound-blank : (template : List ℕ) (marks : Marks) (literals : Replacement → LiteralValue) → apart template marks ≡ true
    → option_map (tokens_but (bound_places template marks literals)) (bound template marks literals)
    ≡ option_map (bound_tokens (blanked literals)) (resolve template marks)
bound-blank template marks literals is =
    let places = bound_places template marks literals in
    maps (blank_at places) tokens (bound template marks literals)
    ∙ ap (option_map (blank_at places)) (bound-is template marks literals is)
    ∙ found-blank literals (resolve template marks)

pub bound_places-kept : BoundTextsKeepTheirPlaces
bound_places-kept template marks one other differ = places-kept one other differ (resolve template marks)

pub bound_texts-apart : BoundTextsDoNotInterfere
bound_texts-apart template marks one other is differ =
    bound-blank template marks one is
    ∙ ap (λ literals. option_map (bound_tokens literals) (resolve template marks)) (same_blanks one other differ)
    ∙ sym (bound-blank template marks other is)
    ∙ ap (λ places. option_map (tokens_but places) (bound template marks other)) (sym (bound_places-kept template marks one other differ))

-- ---- at each of the places is a string token

literal-strings : (literal : LiteralValue) (places : List Bool) (more : List Token)
    → are_strings (literal_places literal ++ places) (literal_tokens literal ++ more) ≡ are_strings places more
literal-strings null places more = refl
literal-strings (truth value) places more = refl
literal-strings (whole number) places more = strings-first (literal_tokens (whole number)) places more
literal-strings (words text) places more = refl

part-strings : (literals : Replacement → LiteralValue) (parts : Parts) → are_strings (part_places literals parts) (part_tokens literals parts) ≡ true
part-strings literals [] = refl
part-strings literals (part ∷ parts) =
    let literal = literals part.0 in
    let segment = tokens part.1 in
    (λ i. are_strings (append_assoc (literal_places literal) (nowhere segment) (part_places literals parts) i)
    (append_assoc (literal_tokens literal) segment (part_tokens literals parts) i))
    ∙ literal-strings literal (nowhere segment ++ part_places literals parts) (segment ++ part_tokens literals parts)
    ∙ strings-first segment (part_places literals parts) (part_tokens literals parts)
    ∙ part-strings literals parts

found-strings : (literals : Replacement → LiteralValue) (text : Option (List ℕ)) (resolved : Option Resolved)
    → option_map tokens text ≡ option_map (bound_tokens literals) resolved
    → IfSome text (λ bytes. IsTrue (are_strings (places_in literals resolved) (tokens bytes)))
found-strings literals None resolved same = tt
found-strings literals (Some text) None same = cc same
found-strings literals (Some text) (Some resolved) same =
    let tokens_are : tokens text ≡ bound_tokens literals resolved = cc same in
    ap (are_strings (resolved_places literals resolved)) tokens_are
    ∙ strings-first (tokens resolved.0) (part_places literals resolved.1) (part_tokens literals resolved.1) ∙ part-strings literals resolved.1

pub bound_texts-strings : BoundTextsAreStrings
bound_texts-strings template marks literals is =
    found-strings literals (bound template marks literals) (resolve template marks) (bound-is template marks literals is)

-- what string tokens don't change, bound texts don't change
unchanged : {X : Type 0} (answer : List Token → X) → IgnoresStrings answer → (places : List Bool) (one other : Option (List ℕ))
    → option_map (tokens_but places) one ≡ option_map (tokens_but places) other
    → option_map (λ text. answer (tokens text)) one ≡ option_map (λ text. answer (tokens text)) other
unchanged answer kept places None None same = refl
unchanged answer kept places None (Some other) same = cc same
unchanged answer kept places (Some one) None same = cc same
unchanged answer kept places (Some one) (Some other) same =
    let blanks : blank_at places (tokens one) ≡ blank_at places (tokens other) = cc same in
    ap Some (kept (tokens one) (tokens other) (somewhere places (tokens one) (tokens other) blanks))

pub bound_texts-ignored : {X : Type 0} (answer : List Token → X) → IgnoresStrings answer → IgnoresBoundTexts (λ text. answer (tokens text))
bound_texts-ignored answer kept template marks one other is differ =
    unchanged answer kept (bound_places template marks one) (bound template marks one) (bound template marks other)
    (bound_texts-apart template marks one other is differ)

-- ---- lists of literals

listed-differ : (one other : List LiteralValue) → map blank_literal one ≡ map blank_literal other → (at : ℕ)
    → blank_literal (unwrap_or (slice_get one at) null) ≡ blank_literal (unwrap_or (slice_get other at) null)
listed-differ [] [] same at = refl
listed-differ [] (literal ∷ other) same at = cc same
listed-differ (literal ∷ one) [] same at = cc same
listed-differ (literal ∷ one) (next ∷ other) same zero = let heads : blank_literal literal ≡ blank_literal next = cc same in heads
listed-differ (literal ∷ one) (next ∷ other) same (suc at) =
    let tails : map blank_literal one ≡ map blank_literal other = cc same in listed-differ one other tails at

pub arguments-differ : ArgumentsDifferInTexts
arguments-differ one other same (Argument at) = differ _ _ (listed-differ one other same at)
arguments-differ one other same (Named name) = refl

named-differ : (one other : Option LiteralValue) → option_map blank_literal one ≡ option_map blank_literal other
    → DifferInText (unwrap_or one null) (unwrap_or other null)
named-differ None None same = refl
named-differ None (Some other) same = cc same
named-differ (Some one) None same = cc same
named-differ (Some one) (Some other) same = let inner : blank_literal one ≡ blank_literal other = cc same in differ one other inner

pub names-differ : NamesDifferInTexts
names-differ one other same (Argument at) = refl
names-differ one other same (Named name) = named-differ (one name) (other name) (same name)
