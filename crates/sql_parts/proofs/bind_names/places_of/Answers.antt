use Rattle.sql_parts.proofs.Imports.{◌∙◌, Bor, Bool, List, None, Some, ap, arith, refl, sym, ℕ, slice_cmp, update_all, eq_by_cmp, nat_cmp, if◌then◌else◌}
use Rattle.sql_parts.proofs.Imports.{take_all, is_eq-slice_cmp}
use Rattle.std.proofs.lemmas.Map.{update_all_push}
use Rattle.sql_parts.specs.{last_value, value_at}
use Rattle.sql_parts.proofs.templates.{are-places, places-more}
use Rattle.sql_parts.proofs.bind_names.places_of.Goals as goal

abbrev same : Bor (List ℕ) → Bor (List ℕ) → Bool
same = eq_by_cmp (λ one other. slice_cmp nat_cmp one.now other.now)

pub loop-place-preserved : goal.loop-place-preserved
loop-place-preserved g c = λ name.
    let pair = c.index-pairs-place.result in
    let place = c.loop-place.place in
    let items = c.loop-place.places.items in
    let before = update_all same (λ _. None) items name in
    let put = ap (λ all. update_all same (λ _. None) all name) c.in_ok-push.ensures.items
    ∙ sym (update_all_push same (λ _. None) (update_all same (λ _. None) items) items (pair.0, place) name refl)
    ∙ ap (λ test. if test then Some place else before) (is_eq-slice_cmp pair.0.now name.now) in
    places-more c.args.pairs.now place pair name.now before _ (omega arith) c.index-pairs-place.is put (c.loop-place.invariant name)

pub returns-clause-places : goal.returns-clause-places
returns-clause-places g c = λ _. are-places c.args.pairs.now c.in_ok-sorted.field-0.entries (λ name.
    let query : Bor (List ℕ) = record { ref_ptr = c.args.pairs.ref_ptr; now = name } in
    ap (value_at c.args.pairs.now) (c.in_ok-sorted.ensures.0 query)
    ∙ c.loop-place.invariant query ∙ ap (last_value name) (take_all c.loop-place.place c.args.pairs.now (omega arith)))
