-- One more element at the end, for each way to read a whole list.
use Rattle.sql_builder.proofs.Imports.{◌≡◌, List, [], ◌∷◌, ◌++◌, Option, None, Some, Bool, true, false, ◌||◌, ◌&&◌, not, if◌then◌else◌, flat_map, filter_map}
use Rattle.sql_builder.proofs.Imports.{refl, ap, sym, ◌∙◌, append-nil, flat_map-append, filter_map-append, list_any, last_or, cons_option, option_or}
use Rattle.sql_builder.specs.{extend_last, any_unfollowed, begins, cut, Group, last_given, lead_and_groups, since}

-- ys behind xs, so that it is xs itself where there are none
abbrev pub add : {X : Type 0} → List X → List X → List X
add xs [] = xs
add xs (y ∷ ys) = xs ++ y ∷ ys

pub add_is : {X : Type 0} (xs ys : List X) → add xs ys ≡ xs ++ ys
add_is xs [] = sym (append-nil xs)
add_is xs (y ∷ ys) = refl

pub flat-push : {X Y : Type 0} (f : X → List Y) (xs : List X) (y : X)
    → flat_map f (xs ++ y ∷ []) ≡ add (flat_map f xs) (f y)
flat-push f xs y =
    flat_map-append f xs (y ∷ []) ∙ ap (◌++◌ (flat_map f xs)) (append-nil (f y))
    ∙ sym (add_is (flat_map f xs) (f y))

pub extend_last-nil : {A : Type 0} (xs : List (List A)) → extend_last [] xs ≡ xs
extend_last-nil [] = refl
extend_last-nil (x ∷ []) = simp append-nil
extend_last-nil (x ∷ y ∷ xs) = ap (◌∷◌ x) (extend_last-nil (y ∷ xs))

last_or-append : {A : Type 0} (o : Option A) (xs ys : List A)
    → last_or o (xs ++ ys) ≡ last_or (last_or o xs) ys
last_or-append o [] ys = refl
last_or-append o (x ∷ xs) ys = last_or-append (Some x) xs ys

pub last-push : {X Y : Type 0} (f : X → Option Y) (xs : List X) (y : X)
    → last_given f (xs ++ y ∷ []) ≡ option_or (f y) (last_given f xs)
last-push f xs y =
    rw (filter_map-append f xs (y ∷ []), last_or-append None (filter_map f xs) (filter_map f (y ∷ [])))
    (ends (f y) (last_given f xs))
  where
    ends : {Y : Type 0} (new old : Option Y) → last_or old (cons_option new []) ≡ option_or new old
    ends None old = refl
    ends (Some y) old = refl

pub any-push : {X : Type 0} (p : X → Bool) (xs : List X) (y : X)
    → list_any p (xs ++ y ∷ []) ≡ (p y || list_any p xs)
any-push p [] y = refl
any-push p (x ∷ xs) y = rw (any-push p xs y) (swap (p x) (p y) (list_any p xs))
  where
    swap : (a b c : Bool) → (a || (b || c)) ≡ (b || (a || c))
    swap true true c = refl
    swap true false c = refl
    swap false b c = refl

pub since-push : {X : Type 0} (p : X → Bool) (xs : List X) (y : X)
    → since p (xs ++ y ∷ []) ≡ (if p y then y ∷ [] else since p xs ++ y ∷ [])
since-push p [] y = same (p y) (y ∷ [])
  where
    same : {A : Type 0} (b : Bool) (x : A) → x ≡ (if b then x else x)
    same true x = refl
    same false x = refl
since-push p (x ∷ xs) y = rw (any-push p xs y, since-push p xs y) (pick (p y) (list_any p xs))
  where
    pick : (a b : Bool)
        → (if a || b then (if a then y ∷ [] else since p xs ++ y ∷ []) else x ∷ (xs ++ y ∷ []))
        ≡ (if a then y ∷ [] else (if b then since p xs else x ∷ xs) ++ y ∷ [])
    pick true b = refl
    pick false true = refl
    pick false false = refl

pub flat_since-push : {X Y : Type 0} (p : X → Bool) (f : X → List Y) (xs : List X) (y : X)
    → flat_map f (since p (xs ++ y ∷ [])) ≡ (if p y then f y else add (flat_map f (since p xs)) (f y))
flat_since-push p f xs y = rw (since-push p xs y) (by (p y))
  where
    by : (b : Bool)
        → flat_map f (if b then y ∷ [] else since p xs ++ y ∷ [])
        ≡ (if b then f y else add (flat_map f (since p xs)) (f y))
    by true = append-nil (f y)
    by false = flat-push f (since p xs) y

pub last_since-push : {X Y : Type 0} (p : X → Bool) (f : X → Option Y) (xs : List X) (y : X)
    → last_given f (since p (xs ++ y ∷ [])) ≡ (if p y then f y else option_or (f y) (last_given f (since p xs)))
last_since-push p f xs y = rw (since-push p xs y) (by (p y))
  where
    alone : {Y : Type 0} (o : Option Y) → option_or o None ≡ o
    alone None = refl
    alone (Some y) = refl

    by : (b : Bool)
        → last_given f (if b then y ∷ [] else since p xs ++ y ∷ [])
        ≡ (if b then f y else option_or (f y) (last_given f (since p xs)))
    by true = last-push f [] y ∙ alone (f y)
    by false = last-push f (since p xs) y

pub any_unfollowed-push : {X : Type 0} (p q : X → Bool) (xs : List X) (y : X)
    → any_unfollowed p q (xs ++ y ∷ []) ≡ (p y || (not (q y) && any_unfollowed p q xs))
any_unfollowed-push p q [] y = alone (p y) (q y)
  where
    alone : (a b : Bool) → ((a && true) || false) ≡ (a || (not b && false))
    alone true b = refl
    alone false true = refl
    alone false false = refl
any_unfollowed-push p q (x ∷ xs) y =
    rw (any-push q xs y, any_unfollowed-push p q xs y)
    (cases (p x) (p y) (q y) (list_any q xs) (any_unfollowed p q xs))
  where
    cases : (a b c d e : Bool)
        → ((a && not (c || d)) || (b || (not c && e))) ≡ (b || (not c && ((a && not d) || e)))
    cases true true true d e = refl
    cases true true false true e = refl
    cases true true false false e = refl
    cases true false true d e = refl
    cases true false false d e = refl
    cases false b c d e = refl

-- y joins the last of the groups g ∷ gs
abbrev pub into_last : {X : Type 0} → X → Group X → List (Group X) → List (Group X)
into_last y g [] = (g.0, g.1 ++ y ∷ []) ∷ []
into_last y g (h ∷ gs) = g ∷ into_last y h gs

-- y begins a group, or joins the last one; it begins one where there is none
abbrev pub put_in : {X : Type 0} → Bool → X → List (Group X) → List (Group X)
put_in opens y [] = (y, []) ∷ []
put_in true y (g ∷ gs) = (g ∷ gs) ++ (y, []) ∷ []
put_in false y (g ∷ gs) = into_last y g gs

-- the same after elements before the first group
abbrev put : {X : Type 0} → Bool → X → List X × List (Group X) → List X × List (Group X)
put true y (lead, gs) = (lead, gs ++ (y, []) ∷ [])
put false y (lead, []) = (lead ++ y ∷ [], [])
put false y (lead, (g ∷ gs)) = (lead, into_last y g gs)

lead_and_groups-push : {X : Type 0} (p : X → Bool) (xs : List X) (y : X)
    → lead_and_groups p (xs ++ y ∷ []) ≡ put (p y) y (lead_and_groups p xs)
lead_and_groups-push p [] y = alone (p y)
  where
    alone : (b : Bool) → begins b y ([], []) ≡ put b y ([], [])
    alone true = refl
    alone false = refl
lead_and_groups-push {X = X} p (x ∷ xs) y =
    rw (lead_and_groups-push p xs y) (commute (p x) (p y) (lead_and_groups p xs))
  where
    commute : (a b : Bool) (r : List X × List (Group X)) → begins a x (put b y r) ≡ put b y (begins a x r)
    commute true true (lead, gs) = refl
    commute true false (lead, []) = refl
    commute true false (lead, (g ∷ gs)) = refl
    commute false true (lead, gs) = refl
    commute false false (lead, []) = refl
    commute false false (lead, (g ∷ gs)) = refl

pub cut-push : {X : Type 0} (p : X → Bool) (xs : List X) (y : X)
    → cut p (xs ++ y ∷ []) ≡ put_in (p y) y (cut p xs)
cut-push p [] y = refl
cut-push {X = X} p (x ∷ xs) y = rw (lead_and_groups-push p xs y) (heads (p y) (lead_and_groups p xs))
  where
    heads : (b : Bool) (r : List X × List (Group X))
        → (x, (put b y r).0) ∷ (put b y r).1 ≡ put_in b y ((x, r.0) ∷ r.1)
    heads true (lead, gs) = refl
    heads false (lead, []) = refl
    heads false (lead, (g ∷ gs)) = refl
