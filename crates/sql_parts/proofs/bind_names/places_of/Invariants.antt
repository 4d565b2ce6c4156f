use Rattle.sql_parts.proofs.Imports.{◌≡◌, Bor, List, None, take, ℕ, slice_cmp, update_all, eq_by_cmp, nat_cmp}
use Rattle.sql_parts.specs.{last_value, value_at}
use Rattle.sql_parts.proofs.bind_names.places_of.Given as goal

abbrev pub invariant-loop-place : goal.invariant-loop-place
invariant-loop-place g l = (name : Bor (List ℕ)) → value_at l.pairs (update_all (eq_by_cmp (λ one other. slice_cmp nat_cmp one.now other.now)) (λ _. None) l.places.items name) ≡ last_value name.now (take l.place l.pairs)
