-- Texts of an INSERT of a query that are fit make its fragments fit, whatever the query is.
use Rattle.sql_builder.proofs.Imports.{◌≡◌, refl, sym, ◌∙◌, ap, Bool, true, false, ◌||◌, List, [], ◌∷◌, ◌++◌, Option, None, Some, map, codes, IfSome}
use Rattle.sql_builder.proofs.Imports.{filter_map, flat_map, if◌then◌else◌, cons_option, last_or, list_all, list_any, and_from, and_parts, Pieces, list_all-map}
use Rattle.sql_builder.specs.Calls as call
use Rattle.sql_builder.specs.{CallText, clauses, drops_fields, fields_in, fields_of, is_select, returning_in, table_in, call_raw_texts, last_given, since}
use Rattle.sql_builder.specs.{are_fit, is_fit, Bare, FitTextsMakeFitTargets, is_fit_returning, insert_target, comma_list, fixed_piece}
use Rattle.sql_builder.proofs.fragments.FitLemmas.{Fit, fit-layout, insert_fit-preserved, fields-fit}
use Rattle.sql_builder.proofs.fragments.PropertyLemmas.{calls-whatever}
use Rattle.sql_builder.proofs.fragments.PreservationLemmas.{clauses-preserved}
use Rattle.sql_builder.proofs.reading.{are_fit-is}
use Rattle.sql_builder.proofs.pieces.{target-kept}
use Rattle.sql_builder.proofs.lists.{all-weaker}

-- a call without its query
abbrev blank : CallText → CallText
blank (call.Select query) = call.Distinct
blank c = c

raw_texts-blank : (c : CallText) → (is_select c || list_all is_fit (call_raw_texts true c)) ≡ true → list_all is_fit (call_raw_texts true (blank c)) ≡ true
raw_texts-blank (call.Select query) h = refl
raw_texts-blank _ h = h

all-blank : (calls : List CallText) → list_all (λ c. is_select c || list_all is_fit (call_raw_texts true c)) calls ≡ true
    → list_all (λ c. list_all is_fit (call_raw_texts true c)) (map blank calls) ≡ true
all-blank calls all =
    list_all-map (λ c. list_all is_fit (call_raw_texts true c)) blank calls
    ∙ all-weaker (λ c. is_select c || list_all is_fit (call_raw_texts true c)) (λ c. list_all is_fit (call_raw_texts true (blank c))) raw_texts-blank calls all

-- it says the same of the table, of the fields and of what is returned
blank-says : (c : CallText) → (table_in (blank c) ≡ table_in c) × (fields_in (blank c) ≡ fields_in c) × (drops_fields (blank c) ≡ drops_fields c)
    × (returning_in (blank c) ≡ returning_in c)
blank-says (call.Select query) = (refl, refl, refl, refl)
blank-says _ = (refl, refl, refl, refl)

-- and so do the calls
flat-blank : {A : Type 0} (f : CallText → List A) → ((c : CallText) → f (blank c) ≡ f c) → (calls : List CallText)
    → flat_map f (map blank calls) ≡ flat_map f calls
flat-blank f same [] = refl
flat-blank f same (c ∷ calls) = let rest = flat-blank f same calls in λ i. same c i ++ rest i

last_given-blank : {A : Type 0} (f : CallText → Option A) → ((c : CallText) → f (blank c) ≡ f c) → (calls : List CallText)
    → filter_map f (map blank calls) ≡ filter_map f calls
last_given-blank f same [] = refl
last_given-blank f same (c ∷ calls) = let rest = last_given-blank f same calls in λ i. cons_option (same c i) (rest i)

any-blank : (p : CallText → Bool) → ((c : CallText) → p (blank c) ≡ p c) → (calls : List CallText) → list_any p (map blank calls) ≡ list_any p calls
any-blank p same [] = refl
any-blank p same (c ∷ calls) = let rest = any-blank p same calls in λ i. same c i || rest i

since-blank : (p : CallText → Bool) → ((c : CallText) → p (blank c) ≡ p c) → (calls : List CallText) → since p (map blank calls) ≡ map blank (since p calls)
since-blank p same [] = refl
since-blank p same (c ∷ calls) =
    ap (λ (some : Bool). if some then since p (map blank calls) else (blank c ∷ map blank calls)) (any-blank p same calls)
    ∙ by (list_any p calls) (since-blank p same calls)
  where
    by : (some : Bool) → since p (map blank calls) ≡ map blank (since p calls)
        → (if some then since p (map blank calls) else (blank c ∷ map blank calls)) ≡ map blank (if some then since p calls else (c ∷ calls))
    by true rest = rest
    by false rest = refl

-- what is returned
returning-fits : (given : Option Pieces) → IfSome given Fit → is_fit_returning given ≡ true
returning-fits None fit = refl
returning-fits (Some body) fit = are_fit-is body ∙ fit.fits 0

pub fit_targets : FitTextsMakeFitTargets
fit_targets table calls all =
    let both = and_parts (is_fit (Bare table)) _ all in
    let start = call.InsertInto table in
    let from_start = call.SetFields [] ∷ calls in
    let parts = clauses-preserved insert_fit-preserved start (map blank calls) (calls-whatever (map blank calls))
    (and_from _ _ both.0 refl) refl
    (all-blank calls both.1) in
    let fits = target-kept fit-layout (clauses start (map blank calls)) parts fields-fit in
    let fields : fields_of start (map blank calls) ≡ fields_of start calls =
    ap (flat_map fields_in) (since-blank drops_fields (λ c. (blank-says c).2) from_start) ∙ flat-blank fields_in (λ c. (blank-says c).1) (since drops_fields from_start) in
    let target_is : insert_target fixed_piece (clauses start (map blank calls)) ≡ insert_target fixed_piece (clauses start calls) =
    λ i. (call.start_table start ++ flat-blank table_in (λ c. (blank-says c).0) calls i)
    ++ (fixed_piece (codes " (") ++ (comma_list fixed_piece (fields i) ++ fixed_piece (codes ")"))) in
    let returned : last_given returning_in (map blank calls) ≡ last_given returning_in calls =
    ap (last_or None) (last_given-blank returning_in (λ c. (blank-says c).3) calls) in
    and_from _ _
    (ap are_fit (sym target_is) ∙ are_fit-is (insert_target fixed_piece (clauses start (map blank calls))) ∙ fits.fits 0)
    (ap is_fit_returning (sym returned) ∙ returning-fits (last_given returning_in (map blank calls)) parts.returning)
