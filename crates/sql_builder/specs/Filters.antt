-- Ways to read a whole list.
use Rattle.std.specs.Prelude.{List, [], ◌∷◌, ◌++◌, Option, None, Bool, true, false, ◌&&◌, ◌||◌, not, if◌then◌else◌, filter_map}
use Rattle.std.specs.List.{list_any, last_or}

-- what f gives of the last element of which it gives something
abbrev pub last_given : {X Y : Type 0} → (X → Option Y) → List X → Option Y
last_given f xs = last_or None (filter_map f xs)

-- the list from its last element that passes on, or all of it where none passes
abbrev pub since : {X : Type 0} → (X → Bool) → List X → List X
since p [] = []
since p (x ∷ xs) = if list_any p xs then since p xs else x ∷ xs

-- the elements before the first that passes
abbrev pub until : {X : Type 0} → (X → Bool) → List X → List X
until p [] = []
until p (x ∷ xs) = if p x then [] else x ∷ until p xs

-- whether some element passes p, and no element after it passes q
abbrev pub any_unfollowed : {X : Type 0} → (X → Bool) → (X → Bool) → List X → Bool
any_unfollowed p q [] = false
any_unfollowed p q (x ∷ xs) = (p x && not (list_any q xs)) || any_unfollowed p q xs

-- what f makes of each element in its place: of those before it, of itself, and of those after it
abbrev pub in_place : {X Y : Type 0} → (List X → X → List X → List Y) → List X → List X → List Y
in_place f before [] = []
in_place f before (x ∷ xs) = f before x xs ++ in_place f (before ++ x ∷ []) xs

-- an element that begins a group, and those that join it
abbrev pub Group : Type 0 → Type 0
Group X = X × List X

-- x begins a group with those that are first, or is the first of them
abbrev pub begins : {X : Type 0} → Bool → X → List X × List (Group X) → List X × List (Group X)
begins true x r = ([], (x, r.0) ∷ r.1)
begins false x r = (x ∷ r.0, r.1)

-- the elements before the first that passes, and the groups that each one that passes begins
abbrev pub lead_and_groups : {X : Type 0} → (X → Bool) → List X → List X × List (Group X)
lead_and_groups p [] = ([], [])
lead_and_groups p (x ∷ xs) = begins (p x) x (lead_and_groups p xs)

-- the list cut before each element that passes
abbrev pub cut : {X : Type 0} → (X → Bool) → List X → List (Group X)
cut p [] = []
cut p (x ∷ xs) = (x, (lead_and_groups p xs).0) ∷ (lead_and_groups p xs).1
