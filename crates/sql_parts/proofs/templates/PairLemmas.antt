-- The last pair with a name, as a loop keeps the places of the pairs.
use Rattle.sql_parts.proofs.Imports.{◌≡◌, ℕ, ◌+◌, ◌<◌, List, [], ◌∷◌, ◌++◌, length, get_or, take, Bool, true, false, Option, Some, option_map, refl, ap, sym}
use Rattle.sql_parts.proofs.Imports.{◌∙◌, inl, inr, if◌then◌else◌, slice_cmp, lookup, nat_cmp, bytes_eq, cases_Bool, false≢true, reverse-append, take_more}
use Rattle.sql_parts.proofs.Imports.{is_eq-slice_cmp, bytes_eq-Decides}
use Rattle.std.specs.Borrow.{Bor}
use Rattle.std.specs.BTreeMap.{is_at}
use Rattle.std.proofs.lemmas.Option.{slice_get_read}
use Rattle.sql_parts.specs.{ArePlaces, last_value, value_at}

value-chosen : {K V : Type 0} (test : Bool) (pair : K × V) (rest : Option (K × V))
    → option_map (λ p. p.1) (if test then Some pair else rest) ≡ (if test then Some pair.1 else option_map (λ p. p.1) rest)
value-chosen test pair rest =
    elim test as (λ t. option_map (λ p. p.1) (if t then Some pair else rest) ≡ (if t then Some pair.1 else option_map (λ p. p.1) rest))
    [ true ↦ refl | false ↦ refl ]

-- one more pair at the end comes before all others
last_value-push : {V : Type 0} (name : List ℕ) (pairs : List (Bor (List ℕ) × V)) (pair : Bor (List ℕ) × V)
    → last_value name (pairs ++ pair ∷ []) ≡ (if bytes_eq name pair.0.now then Some pair.1 else last_value name pairs)
last_value-push name pairs pair = rw (reverse-append pairs (pair ∷ [])) (value-chosen (bytes_eq name pair.0.now) pair _)

same-bytes : (a b : List ℕ) → bytes_eq a b ≡ true → bytes_eq b a ≡ true
same-bytes a b is = (bytes_eq-Decides b a).1 (sym ((bytes_eq-Decides a b).0 is))

bytes_eq-swap : (a b : List ℕ) → bytes_eq a b ≡ bytes_eq b a
bytes_eq-swap a b =
    elim (cases_Bool (bytes_eq a b)) [
      | inl is ↦ is ∙ sym (same-bytes a b is)
      | inr differs ↦ elim (cases_Bool (bytes_eq b a)) [ inl is ↦ absurd (false≢true (sym differs ∙ same-bytes b a is)) | inr also ↦ differs ∙ sym also ]
    ]

-- the place of one more pair comes before those of all others
pub places-more : {V : Type 0} (pairs : List (Bor (List ℕ) × V)) (place : ℕ) (pair : Bor (List ℕ) × V) (name : List ℕ) (before after : Option ℕ)
    → place < length pairs → pair ≡ get_or pairs place pair → after ≡ (if bytes_eq pair.0.now name then Some place else before)
    → value_at pairs before ≡ last_value name (take place pairs) → value_at pairs after ≡ last_value name (take (place + 1) pairs)
places-more pairs place pair name before after inside is put kept =
    let last = ap (last_value name) (take_more pairs place pair inside ∙ ap (λ p. take place pairs ++ p ∷ []) (sym is))
    ∙ last_value-push name (take place pairs) pair in
    let chosen = put ∙ ap (λ test. if test then Some place else before) (bytes_eq-swap pair.0.now name) in
    elim (cases_Bool (bytes_eq name pair.0.now)) [
      | inl same ↦
          ap (value_at pairs) (chosen ∙ ap (λ test. if test then Some place else before) same)
          ∙ ap (option_map (λ p. p.1)) (slice_get_read pairs (length pairs) place pair refl inside is)
          ∙ sym (last ∙ ap (λ test. if test then Some pair.1 else last_value name (take place pairs)) same)
      | inr other ↦
          ap (value_at pairs) (chosen ∙ ap (λ test. if test then Some place else before) other) ∙ kept
          ∙ sym (last ∙ ap (λ test. if test then Some pair.1 else last_value name (take place pairs)) other)
    ]

-- a map by order finds what a search for the same bytes finds
pub found-by-order : {X : Type 0} (name : List ℕ) (entries : List (Bor (List ℕ) × X))
    → lookup (is_at (λ key. slice_cmp nat_cmp name key.now)) entries ≡ lookup (λ key. bytes_eq name key.now) entries
found-by-order name entries = λ i. lookup (λ key. is_eq-slice_cmp name key.now i) entries

-- places by order are places
pub are-places : {V : Type 0} (pairs : List (Bor (List ℕ) × V)) (places : List (Bor (List ℕ) × ℕ))
    → ((name : List ℕ) → value_at pairs (lookup (is_at (λ key. slice_cmp nat_cmp name key.now)) places) ≡ last_value name pairs)
    → ArePlaces pairs places
are-places pairs places are = λ name. ap (value_at pairs) (sym (found-by-order name places)) ∙ are name
