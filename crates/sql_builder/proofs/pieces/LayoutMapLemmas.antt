-- The layout in one kind of unit becomes that in another by a map that keeps `++` and the builder's words.
use Rattle.sql_builder.proofs.Imports.{◌≡◌, ℕ, List, [], ◌∷◌, ◌++◌, Option, None, Some, Bool, map, codes, flat_map, refl, ap, ◌∙◌, map-append, option_map}
use Rattle.sql_builder.proofs.Imports.{Clauses, join_with, Kind, SelectFrom, SelectValues, InsertInto, UpdateTable, DeleteFrom}
use Rattle.sql_builder.specs.{FinishText, Sql, Query, QueryValues, Subquery, SubqueryAs, map_clauses, concat_sections, fields_or_star, group_by_sections}
use Rattle.sql_builder.specs.{insert_sections, insert_target, list_sections, optional_section, order_by_sections, query, query_sections, query_values, Section}
use Rattle.sql_builder.specs.{section, sql, statement_sections, subquery, subquery_as, table_and_joins, union_sections, values_sections, where_sections}
use Rattle.sql_builder.specs.{comma_list, in_brackets, row, layout_at}

module _ {A B : Type 0} (word : List ℕ → List A) (word' : List ℕ → List B) (f : List A → List B)
    (nil : f [] ≡ []) (app : (x y : List A) → f (x ++ y) ≡ f x ++ f y)
    (words : (w : List ℕ) → f (word w) ≡ word' w) where
  abbrev in_form : Section A → Section B
  in_form s = section s.opening (f s.body)

  each : (w : List ℕ) (xs : List (List A))
      → f (flat_map (λ x. word w ++ x) xs) ≡ flat_map (λ x. word' w ++ x) (map f xs)
  each w [] = nil
  each w (x ∷ xs) = app (word w ++ x) (flat_map (λ y. word w ++ y) xs) ∙ simp (app, words, each w xs)

  pub joined_in_form : (w : List ℕ) (xs : List (List A))
      → f (join_with (word w) xs) ≡ join_with (word' w) (map f xs)
  joined_in_form w [] = nil
  joined_in_form w (x ∷ xs) = app x (flat_map (λ y. word w ++ y) xs) ∙ ap (◌++◌ (f x)) (each w xs)

  concat_in_form : (ss : List (Section A))
      → f (concat_sections word ss) ≡ concat_sections word' (map in_form ss)
  concat_in_form [] = nil
  concat_in_form (s ∷ ss) =
      app (word s.opening ++ s.body) (concat_sections word ss) ∙ simp (app, words, concat_in_form ss)

  brackets_in_form : (x : List A) → f (in_brackets word x) ≡ in_brackets word' (f x)
  brackets_in_form x = simp (app, words)

  pub row_in_form : (values : List (List A)) → f (row word values) ≡ row word' (map f values)
  row_in_form values =
      brackets_in_form (comma_list word values) ∙ ap (in_brackets word') (joined_in_form (codes ", ") values)

  groups_in_form : (gs : List (List A))
      → map f (map (in_brackets word) gs) ≡ map (in_brackets word') (map f gs)
  groups_in_form [] = refl
  groups_in_form (g ∷ gs) = simp (brackets_in_form, groups_in_form gs)

  where_in_form : (gs : List (List A))
      → map in_form (where_sections word gs) ≡ where_sections word' (map f gs)
  where_in_form [] = refl
  where_in_form (g ∷ []) = refl
  where_in_form (g ∷ h ∷ gs) =
      ap (λ (b : List B). section (codes " WHERE ") b ∷ [])
      (joined_in_form (codes " AND ") (map (in_brackets word) (g ∷ h ∷ gs))
      ∙ ap (join_with (word' (codes " AND "))) (groups_in_form (g ∷ h ∷ gs)))

  optional_in_form : (w : List ℕ) (o : Option (List A))
      → map in_form (optional_section w o) ≡ optional_section w (option_map f o)
  optional_in_form w None = refl
  optional_in_form w (Some t) = refl

  list_in_form : (w : List ℕ) (ts : List (List A))
      → map in_form (list_sections word w ts) ≡ list_sections word' w (map f ts)
  list_in_form w [] = refl
  list_in_form w (t ∷ ts) = ap (λ (b : List B). section w b ∷ []) (joined_in_form (codes ", ") (t ∷ ts))

  group_by_in_form : (ts : List (List A)) (o : Option (List A))
      → map in_form (group_by_sections word ts o) ≡ group_by_sections word' (map f ts) (option_map f o)
  group_by_in_form [] o = refl
  group_by_in_form (t ∷ ts) o =
      rw (joined_in_form (codes ", ") (t ∷ ts), optional_in_form (codes " HAVING ") o) refl

  abbrev unions_in_form : List (Bool × List A) → List (Bool × List B)
  unions_in_form unions = map (λ u. (u.0, f u.1)) unions

  union_in_form : (us : List (Bool × List A))
      → map in_form (union_sections us) ≡ union_sections (unions_in_form us)
  union_in_form [] = refl
  union_in_form (u ∷ us) = simp (union_in_form us)

  order_by_in_form : (us : List (Bool × List A)) (ts : List (List A))
      → map in_form (order_by_sections word us ts) ≡ order_by_sections word' (unions_in_form us) (map f ts)
  order_by_in_form [] ts = list_in_form (codes " ORDER BY ") ts
  order_by_in_form (u ∷ us) ts = refl

  fields_in_form : (fs : List (List A)) → f (fields_or_star word fs) ≡ fields_or_star word' (map f fs)
  fields_in_form [] = words (codes "*")
  fields_in_form (g ∷ fs) = joined_in_form (codes ", ") (g ∷ fs)

  table_in_form : (t : List A) (js : List (List A))
      → f (table_and_joins word t js) ≡ table_and_joins word' (f t) (map f js)
  table_in_form t js =
      app t (flat_map (λ j. word (codes " ") ++ j) js) ∙ ap (◌++◌ (f t)) (each (codes " ") js)

  query_in_form : (r : Clauses (List A))
      → map in_form (query_sections word r) ≡ query_sections word' (map_clauses f r)
  query_in_form r =
      simp (
        map-append,
        where_in_form,
        group_by_in_form,
        union_in_form,
        order_by_in_form,
        optional_in_form,
        fields_in_form,
        table_in_form,
      )

  target_in_form : (r : Clauses (List A)) → f (insert_target word r) ≡ insert_target word' (map_clauses f r)
  target_in_form r = simp (app, words, joined_in_form)

  insert_in_form : (q : Option (List A)) (r : Clauses (List A))
      → map in_form (insert_sections word q r) ≡ insert_sections word' (option_map f q) (map_clauses f r)
  insert_in_form None r = simp (target_in_form, joined_in_form, optional_in_form)
  insert_in_form (Some q) r = simp (app, words, joined_in_form, optional_in_form)

  sections_in_form : (k : Kind) (r : Clauses (List A))
      → map in_form (statement_sections word k r) ≡ statement_sections word' k (map_clauses f r)
  sections_in_form SelectFrom r = query_in_form r
  sections_in_form SelectValues r = simp joined_in_form
  sections_in_form InsertInto r = insert_in_form r.query r
  sections_in_form UpdateTable r = simp (map-append, joined_in_form, where_in_form, optional_in_form)
  sections_in_form DeleteFrom r = simp (map-append, where_in_form, optional_in_form)

  layout_of_sql : (r : Clauses (List A)) → f (sql word r) ≡ sql word' (map_clauses f r)
  layout_of_sql r =
      app (concat_sections word (statement_sections word r.kind r)) (word (codes ";"))
      ∙ simp (words, concat_in_form, sections_in_form)

  layout_of_query : (r : Clauses (List A)) → f (query word r) ≡ query word' (map_clauses f r)
  layout_of_query r = concat_in_form (query_sections word r) ∙ ap (concat_sections word') (query_in_form r)

  layout_of_query_values : (r : Clauses (List A))
      → f (query_values word r) ≡ query_values word' (map_clauses f r)
  layout_of_query_values r =
      concat_in_form (values_sections word r) ∙ ap (concat_sections word') (sections_in_form SelectValues r)

  layout_of_subquery : (r : Clauses (List A)) → f (subquery word r) ≡ subquery word' (map_clauses f r)
  layout_of_subquery r = brackets_in_form (query word r) ∙ ap (in_brackets word') (layout_of_query r)

  named_in_form : (x name : List A)
      → f (word (codes "(") ++ (x ++ (word (codes ") AS ") ++ name)))
      ≡ word' (codes "(") ++ (f x ++ (word' (codes ") AS ") ++ f name))
  named_in_form x name = simp (app, words)

  layout_of_subquery_as : (name : List A) (r : Clauses (List A))
      → f (subquery_as word name r) ≡ subquery_as word' (f name) (map_clauses f r)
  layout_of_subquery_as name r =
      named_in_form (query word r) name
      ∙ ap (λ (q : List B). word' (codes "(") ++ (q ++ (word' (codes ") AS ") ++ f name))) (layout_of_query r)

  pub layout_in_form : (raw : List ℕ → List A) (raw' : List ℕ → List B) → ((t : List ℕ) → f (raw t) ≡ raw' t)
      → (finish : FinishText) (r : Clauses (List A))
      → f (layout_at word raw finish r) ≡ layout_at word' raw' finish (map_clauses f r)
  layout_in_form raw raw' raws Sql r = layout_of_sql r
  layout_in_form raw raw' raws Query r = layout_of_query r
  layout_in_form raw raw' raws QueryValues r = layout_of_query_values r
  layout_in_form raw raw' raws Subquery r = layout_of_subquery r
  layout_in_form raw raw' raws (SubqueryAs name) r =
      layout_of_subquery_as (raw name) r
      ∙ ap (λ (n : List B). subquery_as word' n (map_clauses f r)) (raws name)
