-- A list in groups: cut before each element that opens a group, the texts of a group's elements joined.
use Rattle.sql_builder.proofs.Imports.{◌≡◌, refl, ap, sym, ◌∙◌, Bool, true, false, List, [], ◌∷◌, ◌++◌, map, flat_map, append_assoc, codes, ℕ, ◌≤◌, ◌||◌}
use Rattle.sql_builder.proofs.Imports.{length, arith, string_bytes, list_any, map-append, append-nil, length-map, flat_map-append, join_with, GroupedCondition}
use Rattle.sql_builder.specs.{condition_in_group, extend_last, group_texts, join_last, byte_units, concat_sections, where_sections, further_bytes}
use Rattle.sql_builder.specs.{further_condition, where_bytes, where_end, where_opening, Group, cut, lead_and_groups}
use Rattle.sql_builder.proofs.output.{several}
use Rattle.sql_builder.proofs.lists.PushLemmas.{cut-push, into_last, put_in}

-- the groups after one more element
abbrev pub one_more : {A : Type 0} → Bool → List A → List A → List (List A) → List (List A)
one_more true or text groups = groups ++ text ∷ []
one_more false or text groups = join_last or text groups

module _ {X A : Type 0} (opens : X → Bool) (text_of : X → List A) (or : List A) where
  abbrev pub group_of : Group X → List A
  group_of group = join_with or (map text_of (group.0 ∷ group.1))

  alone : (x : X) → group_of (x, []) ≡ text_of x
  alone x = append-nil (text_of x)

  -- an element that joins the last of some groups
  joined : (x : X) (g : Group X) (gs : List (Group X)) → map group_of (into_last x g gs) ≡ extend_last (or ++ text_of x) (map group_of (g ∷ gs))
  joined x g [] =
      ap (λ t. t ∷ [])
      (ap (λ ss. text_of g.0 ++ flat_map (λ s. or ++ s) ss) (map-append text_of g.1 (x ∷ []))
      ∙ ap (λ rest. text_of g.0 ++ rest) (flat_map-append (λ s. or ++ s) (map text_of g.1) (text_of x ∷ [])
      ∙ ap (λ rest. flat_map (λ s. or ++ s) (map text_of g.1) ++ rest) (append-nil (or ++ text_of x)))
      ∙ sym (append_assoc (text_of g.0) (flat_map (λ s. or ++ s) (map text_of g.1)) (or ++ text_of x)))
  joined x g (h ∷ gs) = ap (λ ts. group_of g ∷ ts) (joined x h gs)

  put : (x : X) (b : Bool) (gs : List (Group X)) → map group_of (put_in b x gs) ≡ one_more b or (text_of x) (map group_of gs)
  put x true [] = ap (λ t. t ∷ []) (alone x)
  put x true (g ∷ gs) = map-append group_of (g ∷ gs) ((x, []) ∷ []) ∙ ap (λ t. map group_of (g ∷ gs) ++ t ∷ []) (alone x)
  put x false [] = ap (λ t. t ∷ []) (alone x)
  put x false (g ∷ gs) = joined x g gs

  pub groups-push : (xs : List X) (x : X) → map group_of (cut opens (xs ++ x ∷ [])) ≡ one_more (opens x) or (text_of x) (map group_of (cut opens xs))
  groups-push xs x = ap (map group_of) (cut-push opens xs x) ∙ put x (opens x) (cut opens xs)

-- ---- a builder's conditions

abbrev InGroup : Type 0
InGroup = Bool × List ℕ

abbrev texts_of : List InGroup → List (List ℕ)
texts_of conditions = map (group_of (λ (c : InGroup). c.0) (λ c. c.1) (codes " OR ")) (cut (λ c. c.0) conditions)

-- one more condition, which opens a group or joins the last
pub one_more_condition : (xs : List GroupedCondition) (c : GroupedCondition)
    → group_texts (xs ++ c ∷ []) ≡ one_more c.opens_group (codes " OR ") (string_bytes c.text) (group_texts xs)
one_more_condition xs c =
    ap texts_of (map-append condition_in_group xs (c ∷ []))
    ∙ groups-push (λ (t : InGroup). t.0) (λ t. t.1) (codes " OR ") (map condition_in_group xs) (condition_in_group c)

-- ---- what WHERE prints of them

after_first : (xs : List InGroup)
    → flat_map further_condition xs
    ≡ flat_map (λ t. codes " OR " ++ t) (map (λ (c : InGroup). c.1) (lead_and_groups (λ (c : InGroup). c.0) xs).0)
    ++ flat_map (λ g. codes ") AND (" ++ g) (map (group_of (λ (c : InGroup). c.0) (λ c. c.1) (codes " OR ")) (lead_and_groups (λ (c : InGroup). c.0) xs).1)
after_first [] = refl
after_first ((true, t) ∷ xs) = rw (after_first xs) (simp append_assoc)
after_first ((false, t) ∷ xs) = rw (after_first xs) (simp append_assoc)

-- the conditions one after another, with the brackets of two groups written at once
in_a_row : (first : InGroup) (xs : List InGroup)
    → first.1 ++ flat_map further_condition xs ≡ join_with (codes ") AND (") (texts_of (first ∷ xs))
in_a_row first xs = ap (λ rest. first.1 ++ rest) (after_first xs) ∙ sym (append_assoc first.1 _ _)

no_more_groups : (xs : List InGroup) → list_any (λ (c : InGroup). c.0) xs ≡ false → (lead_and_groups (λ (c : InGroup). c.0) xs).1 ≡ []
no_more_groups [] h = refl
no_more_groups ((true, t) ∷ xs) h = cc h
no_more_groups ((false, t) ∷ xs) h = no_more_groups xs h

more_groups : (xs : List InGroup) → list_any (λ (c : InGroup). c.0) xs ≡ true → 1 ≤ length (lead_and_groups (λ (c : InGroup). c.0) xs).1
more_groups [] h = cc h
more_groups ((true, t) ∷ xs) h = omega arith
more_groups ((false, t) ∷ xs) h = more_groups xs h

any-map : (xs : List GroupedCondition) → list_any (λ c. c.opens_group) xs ≡ list_any (λ (c : InGroup). c.0) (map condition_in_group xs)
any-map [] = refl
any-map (x ∷ xs) = ap (λ (b : Bool). x.opens_group || b) (any-map xs)

-- the WHERE of a first condition and others, where no other opens a group
pub one_group : (first : GroupedCondition) (further : List GroupedCondition) → list_any (λ c. c.opens_group) further ≡ false
    → concat_sections byte_units (where_sections byte_units (group_texts (first ∷ further)))
    ≡ codes " WHERE " ++ (string_bytes first.text ++ flat_map further_condition (map condition_in_group further))
one_group first further none =
    let further_in_group = map condition_in_group further in
    let no_more = no_more_groups further_in_group (sym (any-map further) ∙ none) in
    ap (λ gs. concat_sections byte_units (where_sections byte_units
    (group_of (λ (c : InGroup). c.0) (λ c. c.1) (codes " OR ") (condition_in_group first, (lead_and_groups (λ (c : InGroup). c.0) further_in_group).0)
    ∷ map (group_of (λ (c : InGroup). c.0) (λ c. c.1) (codes " OR ")) gs))) no_more
    ∙ ap (λ t. codes " WHERE " ++ t) (append-nil _)
    ∙ ap (λ t. codes " WHERE " ++ (string_bytes first.text ++ t))
    (sym (after_first further_in_group ∙ ap (λ gs.
    flat_map (λ t. codes " OR " ++ t) (map (λ (c : InGroup). c.1) (lead_and_groups (λ (c : InGroup). c.0) further_in_group).0)
    ++ flat_map (λ g. codes ") AND (" ++ g) (map (group_of (λ (c : InGroup). c.0) (λ c. c.1) (codes " OR ")) gs)) no_more ∙ append-nil _))

-- and where another does
pub several_groups : (first : GroupedCondition) (further : List GroupedCondition) → list_any (λ c. c.opens_group) further ≡ true
    → concat_sections byte_units (where_sections byte_units (group_texts (first ∷ further)))
    ≡ codes " WHERE (" ++ ((string_bytes first.text ++ flat_map further_condition (map condition_in_group further)) ++ codes ")")
several_groups first further some =
    let further_in_group = map condition_in_group further in
    several (group_texts (first ∷ further)) (rw
    (length-map (lead_and_groups (λ (c : InGroup). c.0) further_in_group).1 (group_of (λ (c : InGroup). c.0) (λ c. c.1) (codes " OR ")))
    (omega (arith, more_groups further_in_group (sym (any-map further) ∙ some))))
    ∙ ap (λ t. codes " WHERE (" ++ (t ++ codes ")")) (sym (in_a_row (condition_in_group first) further_in_group))

-- WHERE of a first condition and further ones
pub where_is : (first : GroupedCondition) (further : List GroupedCondition)
    → let opens = list_any (λ c. c.opens_group) further in
    where_bytes (group_texts (first ∷ further))
    ≡ (where_opening opens ++ string_bytes first.text) ++ (further_bytes (map condition_in_group further) ++ where_end opens)
where_is first further = by (list_any (λ c. c.opens_group) further) refl
  where
    by : (opens : Bool) → list_any (λ c. c.opens_group) further ≡ opens → where_bytes (group_texts (first ∷ further))
        ≡ (where_opening opens ++ string_bytes first.text) ++ (further_bytes (map condition_in_group further) ++ where_end opens)
    by false none =
        one_group first further none
        ∙ ap (λ t. codes " WHERE " ++ (string_bytes first.text ++ t)) (sym (append-nil (further_bytes (map condition_in_group further))))
    by true some =
        several_groups first further some
        ∙ ap (λ t. codes " WHERE (" ++ t) (append_assoc (string_bytes first.text) (further_bytes (map condition_in_group further)) (codes ")"))
