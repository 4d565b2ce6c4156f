-- What the helpers that print need: a layout's sections one after another.
use Rattle.sql_builder.proofs.Imports.{if◌then◌else◌, ◌≡◌, ◌≢◌, ℕ, ◌≤◌, Bool, List, [], ◌∷◌, ◌++◌, Option, None, Some, length, map, flat_map, codes, refl, ap}
use Rattle.sql_builder.proofs.Imports.{sym, ◌∙◌, append_assoc, arith, nat_eq, not, ◌&&◌, nat_tests, append-nil, flat_map-append, join_with}
use Rattle.sql_builder.specs.{ClauseTexts, byte_units, concat_sections, fields_or_star, group_by_sections, insert_sections, optional_section, order_by_sections}
use Rattle.sql_builder.specs.{query, union_opening, union_sections, where_sections, comma_list, in_brackets, delete_bytes, insert_bytes, inserted_bytes}
use Rattle.sql_builder.specs.{optional_bytes, query_end, query_start, update_bytes, where_bytes}

-- the brackets of two neighbours in one text
bracketed : (gs : List (List ℕ))
    → flat_map (λ g. codes ") AND (" ++ g) gs ++ codes ")"
    ≡ codes ")" ++ flat_map (λ g. codes " AND " ++ g) (map (in_brackets byte_units) gs)
bracketed [] = refl
bracketed (g ∷ gs) =
    ap (◌++◌ (codes ") AND (")) (append_assoc g _ _ ∙ ap (◌++◌ g) (bracketed gs) ∙ sym (append_assoc g _ _))

-- several groups, with the brackets of two neighbours written at once
pub several : (gs : List (List ℕ)) → 2 ≤ length gs
    → concat_sections byte_units (where_sections byte_units gs)
    ≡ codes " WHERE (" ++ (join_with (codes ") AND (") gs ++ codes ")")
several [] h = absurd (omega arith)
several (g ∷ []) h = absurd (omega arith)
several (g ∷ k ∷ gs) h =
    ap (◌++◌ (codes " WHERE ("))
    (append-nil _ ∙ append_assoc g _ _ ∙ ap (◌++◌ g) (sym (bracketed (k ∷ gs))) ∙ sym (append_assoc g _ _))

-- GROUP BY of some fields
pub some_group_fields : (ts : List (List ℕ)) (having : Option (List ℕ)) → length ts ≢ 0
    → concat_sections byte_units (group_by_sections byte_units ts having)
    ≡ codes " GROUP BY " ++ (comma_list byte_units ts ++ concat_sections byte_units (optional_section (codes " HAVING ") having))
some_group_fields [] having h = absurd (h refl)
some_group_fields (t ∷ ts) having h = refl

-- the fields, or `*`
pub no_fields : (ts : List (List ℕ)) → length ts ≡ 0 → fields_or_star byte_units ts ≡ codes "*"
no_fields [] h = refl
no_fields (t ∷ ts) h = absurd (omega (arith, h))

pub some_fields : (ts : List (List ℕ)) → length ts ≢ 0 → fields_or_star byte_units ts ≡ comma_list byte_units ts
some_fields [] h = absurd (h refl)
some_fields (t ∷ ts) h = refl

-- ORDER BY of some fields, where there is no union
pub ordered : (unions : List (Bool × List ℕ)) (ts : List (List ℕ))
    → concat_sections byte_units (order_by_sections byte_units unions ts)
    ≡ (if nat_eq (length unions) 0 && not (nat_eq (length ts) 0) then codes " ORDER BY " ++ comma_list byte_units ts else [])
ordered [] [] = refl
ordered [] (t ∷ ts) = grind (arith, nat_tests, append-nil (codes " ORDER BY " ++ comma_list byte_units (t ∷ ts)))
ordered (union ∷ unions) ts = grind (arith, nat_tests)

unions_are : (unions : List (Bool × List ℕ))
    → concat_sections byte_units (union_sections unions) ≡ flat_map (λ union. union_opening union.0 ++ union.1) unions
unions_are [] = refl
unions_are (union ∷ unions) = ap (◌++◌ (union_opening union.0 ++ union.1)) (unions_are unions)

-- each statement, step by step
module _ (r : ClauseTexts) where
  pub query_is : query byte_units r ≡ query_start r ++ (where_bytes r.groups ++ query_end r)
  query_is = simp (flat_map-append, append_assoc, unions_are)

  pub insert_is : insert_bytes r
      ≡ (codes "INSERT INTO " ++ r.table) ++ ((codes " (" ++ comma_list byte_units r.fields)
      ++ (inserted_bytes r.query r.rows ++ optional_bytes (codes " RETURNING ") r.returning))
  insert_is = by r.query
    where
      by : (query : Option (List ℕ)) → concat_sections byte_units (insert_sections byte_units query r)
          ≡ (codes "INSERT INTO " ++ r.table) ++ ((codes " (" ++ comma_list byte_units r.fields)
          ++ (inserted_bytes query r.rows ++ optional_bytes (codes " RETURNING ") r.returning))
      by None = simp (append_assoc)
      by (Some query) = simp (append_assoc)

  pub update_is : update_bytes r
      ≡ (codes "UPDATE " ++ r.table) ++ ((codes " SET " ++ comma_list byte_units r.sets)
      ++ (where_bytes r.groups ++ optional_bytes (codes " RETURNING ") r.returning))
  update_is = simp (flat_map-append, append_assoc)

  pub delete_is : delete_bytes r ≡ (codes "DELETE FROM " ++ r.table) ++ (where_bytes r.groups ++ optional_bytes (codes " RETURNING ") r.returning)
  delete_is = simp (flat_map-append, append_assoc)
