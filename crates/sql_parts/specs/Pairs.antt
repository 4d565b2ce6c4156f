-- Pairs of a name and a value.
use Rattle.std.specs.Prelude.{◌≡◌, ℕ, List, Option, Some, None, option_map, reverse, slice_get}
use Rattle.std.specs.Borrow.{Bor}
use Rattle.std.specs.List.{find}
use Rattle.std.specs.Map.{lookup}
use Rattle.std.specs.Str.{bytes_eq}

-- the value of the last pair with the name
abbrev pub last_value : {V : Type 0} → List ℕ → List (Bor (List ℕ) × V) → Option V
last_value name pairs = option_map (λ pair. pair.1) (find (λ pair. bytes_eq name pair.0.now) (reverse pairs))

-- the value of the pair at a place, where there is one
abbrev pub value_at : {V : Type 0} → List (Bor (List ℕ) × V) → Option ℕ → Option V
value_at pairs None = None
value_at pairs (Some place) = option_map (λ pair. pair.1) (slice_get pairs place)

-- each name that a pair has is at the place of the last one
abbrev pub ArePlaces : {V : Type 0} → List (Bor (List ℕ) × V) → List (Bor (List ℕ) × ℕ) → Type 0
ArePlaces pairs places = (name : List ℕ) → value_at pairs (lookup (λ key. bytes_eq name key.now) places) ≡ last_value name pairs
