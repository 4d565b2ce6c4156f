-- What holds of each element of a list.
use Rattle.sql_builder.proofs.Imports.{List, [], ◌∷◌, ◌++◌, map, ◌≡◌, refl, Bool, true, false, ◌&&◌, AllByRecursion, list_all, list_any, and_parts, and_from}
use Rattle.sql_builder.proofs.Imports.{or_from, or_parts}
use Rattle.sql_builder.specs.{Group, begins, cut, lead_and_groups}

pub append-all : {X : Type 0} (P : X → Type 0) (one other : List X) → AllByRecursion P one → AllByRecursion P other → AllByRecursion P (one ++ other)
append-all P [] other all too = too
append-all P (x ∷ one) other all too = (all.0, append-all P one other all.1 too)

pub map-all : {X Y : Type 0} (P : Y → Type 0) (f : X → Y) → ((x : X) → P (f x)) → (xs : List X) → AllByRecursion P (map f xs)
map-all P f each [] = tt
map-all P f each (x ∷ xs) = (each x, map-all P f each xs)

-- what holds of those that pass a test, and of what is made of them
pub tested : {X : Type 0} (P : X → Type 0) (test : X → Bool) → ((x : X) → test x ≡ true → P x) → (xs : List X) → list_all test xs ≡ true → AllByRecursion P xs
tested P test each [] all = tt
tested P test each (x ∷ xs) all =
    let both = and_parts (test x) (list_all test xs) all in
    (each x both.0, tested P test each xs both.1)

pub tested-all : {X Y : Type 0} (P : Y → Type 0) (f : X → Y) (test : X → Bool) → ((x : X) → test x ≡ true → P (f x)) → (xs : List X)
    → list_all test xs ≡ true → AllByRecursion P (map f xs)
tested-all P f test each [] all = tt
tested-all P f test each (x ∷ xs) all =
    let both = and_parts (test x) (list_all test xs) all in
    (each x both.0, tested-all P f test each xs both.1)

-- tests that agree on each element
pub each-same : {X : Type 0} (one other : X → Bool) → ((x : X) → one x ≡ other x) → (xs : List X) → list_all one xs ≡ list_all other xs
each-same one other same [] = refl
each-same one other same (x ∷ xs) = λ i. same x i && each-same one other same xs i

-- a test that another one implies
pub all-weaker : {X : Type 0} (ok other : X → Bool) → ((x : X) → ok x ≡ true → other x ≡ true) → (xs : List X) → list_all ok xs ≡ true → list_all other xs
    ≡ true
all-weaker ok other each [] all = refl
all-weaker ok other each (x ∷ xs) all =
    let both = and_parts (ok x) (list_all ok xs) all in
    and_from _ _ (each x both.0) (all-weaker ok other each xs both.1)

-- a test that is passed where another one is
pub none-weaker : {X : Type 0} (test wider : X → Bool) → ((x : X) → wider x ≡ false → test x ≡ false) → (xs : List X) → list_any wider xs ≡ false
    → list_any test xs ≡ false
none-weaker test wider each [] none = refl
none-weaker test wider each (x ∷ xs) none =
    let both = or_parts (wider x) (list_any wider xs) none in
    or_from _ _ (each x both.0) (none-weaker test wider each xs both.1)

-- what holds of all elements holds of those of each group that they are cut into
module _ {X : Type 0} (ok opens : X → Bool) where
  abbrev group_ok : Group X → Bool
  group_ok group = list_all ok (group.0 ∷ group.1)

  lead-all : (xs : List X) → list_all ok xs ≡ true → (list_all ok (lead_and_groups opens xs).0 ≡ true) × (list_all group_ok (lead_and_groups opens xs).1 ≡ true)
  lead-all [] all = (refl, refl)
  lead-all (x ∷ xs) all =
      let both = and_parts (ok x) (list_all ok xs) all in
      step (opens x) (lead_and_groups opens xs) both.0 (lead-all xs both.1)
    where
      step : (first : Bool) (r : List X × List (Group X)) → ok x ≡ true → (list_all ok r.0 ≡ true) × (list_all group_ok r.1 ≡ true)
          → (list_all ok (begins first x r).0 ≡ true) × (list_all group_ok (begins first x r).1 ≡ true)
      step true r here more = (refl, and_from _ _ (and_from _ _ here more.0) more.1)
      step false r here more = (and_from _ _ here more.0, more.1)

  pub cut-all : (xs : List X) → list_all ok xs ≡ true → list_all (λ (group : Group X). list_all ok (group.0 ∷ group.1)) (cut opens xs) ≡ true
  cut-all [] all = refl
  cut-all (x ∷ xs) all =
      let both = and_parts (ok x) (list_all ok xs) all in
      let more = lead-all xs both.1 in
      and_from _ _ (and_from _ _ both.0 more.0) more.1
