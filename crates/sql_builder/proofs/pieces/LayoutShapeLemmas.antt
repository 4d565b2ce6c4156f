-- The pieces that are printed keep their tokens, whatever the clauses are made of that do.
use Rattle.sql_builder.proofs.Imports.{◌≡◌, ℕ, Bool, true, false, List, [], ◌∷◌, ◌++◌, Option, None, Some, map, codes, refl, ap, sym, ◌∙◌, option_map}
use Rattle.sql_builder.proofs.Imports.{append-nil, closed, tokens, Clauses, Pieces, Kind}
use Rattle.sql_builder.specs.{FinishText, Sql, Query, QueryValues, Subquery, SubqueryAs, map_clauses, byte_units, concat_sections, query, query_values, sql}
use Rattle.sql_builder.specs.{statement_sections, subquery, subquery_as, union_opening, EndsInOneSemicolon, HasShape, IsClosedAs, as_fragments}
use Rattle.sql_builder.specs.{has_closed_fragments, has_no_semicolons, layout_at, text_at, fixed_piece, pieces_text, raw_piece}
use Rattle.sql_builder.proofs.pieces.ShapeLemmas.{Inside, Shaped, brackets-inside, ends_in_semicolon, raw-inside, shape_closed, shaped, statement-shaped}
use Rattle.sql_builder.proofs.pieces.ShapeLemmas.{closing-last, words-first, words-between}
use Rattle.sql_builder.proofs.statements.RunLemmas.{text_of_layout}
use Rattle.sql_builder.proofs.fragments.PropertyLemmas.{Behind, inside-joins, words-behind}
use Rattle.sql_builder.proofs.fragments.NeutralLemmas.{InsideParts, raw-inside-parts}
use Rattle.sql_builder.proofs.pieces.LayoutPropertyLemmas.{PreservedByLayout, query-laid, statement-laid, values-laid}

union-behind : (all : Bool) (x : Pieces) → Inside x → Behind (fixed_piece (union_opening all) ++ x)
union-behind true x inside = words-behind (codes " UNION ALL ") x (record { is_closed = refl; plain = refl }) refl refl inside
union-behind false x inside = words-behind (codes " UNION ") x (record { is_closed = refl; plain = refl }) refl refl inside

pub inside-layout : PreservedByLayout Inside Behind Inside
    (λ sections wheres. Behind (concat_sections fixed_piece sections)) (λ sections wheres. Inside (concat_sections fixed_piece sections))
inside-layout = record {
  joins = inside-joins;
  brackets = brackets-inside;
  target = λ x inside. words-behind (codes " (") (x ++ fixed_piece (codes ")")) (record { is_closed = refl; plain = refl }) refl refl (closing-last x inside);
  none = inside-joins.nothing;
  further = λ words body more wheres opens begins inside rest.
      inside-joins.further (fixed_piece words ++ body) (concat_sections fixed_piece more) (words-behind words body opens.whole begins opens.ends inside) rest;
  where_section = λ body more inside rest. inside-joins.further (fixed_piece (codes " WHERE ") ++ body) (concat_sections fixed_piece more)
      (words-behind (codes " WHERE ") body (record { is_closed = refl; plain = refl }) refl refl inside) rest;
  union = λ all body more inside rest.
      inside-joins.further (fixed_piece (union_opening all) ++ body) (concat_sections fixed_piece more) (union-behind all body inside) rest;
  first = λ words body more wheres opens inside rest.
      inside-joins.append (fixed_piece words ++ body) (concat_sections fixed_piece more) (words-first words body opens.whole opens.ends inside) rest;
}

statement-inside : (kind : Kind) (r : Clauses Pieces) → InsideParts r → Inside (concat_sections fixed_piece (statement_sections fixed_piece kind r))
statement-inside kind r parts = statement-laid inside-layout kind r parts

query-inside : (r : Clauses Pieces) → InsideParts r → Inside (query fixed_piece r)
query-inside r parts = query-laid inside-layout r parts

-- what each finish prints
pub layout-shaped : (finish : FinishText) (r : Clauses Pieces) → InsideParts r → Shaped (layout_at fixed_piece raw_piece finish r)
layout-shaped Sql r parts = statement-shaped (concat_sections fixed_piece (statement_sections fixed_piece r.kind r)) (statement-inside r.kind r parts)
layout-shaped Query r parts = shaped (query fixed_piece r) (query-inside r parts)
layout-shaped QueryValues r parts = shaped (query_values fixed_piece r) (values-laid inside-layout r parts)
layout-shaped Subquery r parts = shaped (subquery fixed_piece r) (brackets-inside (query fixed_piece r) (query-inside r parts))
layout-shaped (SubqueryAs name) r parts =
    let behind = fixed_piece (codes ") AS ") ++ raw_piece name in
    shaped (subquery_as fixed_piece (raw_piece name) r)
    (words-first (codes "(") (query fixed_piece r ++ behind) (record { is_closed = refl; plain = refl }) refl
    (words-between (codes ") AS ") (query fixed_piece r) (raw_piece name) (record { is_closed = refl; plain = refl }) refl refl (query-inside r parts)
    (raw-inside name)))

-- a statement without further semicolons
pub sql-semicolon : (r : Clauses Pieces) → InsideParts r → has_closed_fragments (sql fixed_piece r) ≡ true → has_no_semicolons (sql fixed_piece r) ≡ true
    → EndsInOneSemicolon (tokens (pieces_text (sql fixed_piece r)))
sql-semicolon r parts is plain = ends_in_semicolon (concat_sections fixed_piece (statement_sections fixed_piece r.kind r)) (statement-inside r.kind r parts)
    is plain

-- the texts of fragments are the texts
raw-texts : (texts : List (List ℕ)) → map pieces_text (map raw_piece texts) ≡ texts
raw-texts [] = refl
raw-texts (text ∷ texts) = λ i. append-nil text i ∷ raw-texts texts i

raw-text : (text : Option (List ℕ)) → option_map pieces_text (option_map raw_piece text) ≡ text
raw-text None = refl
raw-text (Some text) = ap Some (append-nil text)

union-texts : (unions : List (Bool × List ℕ))
    → map (λ (union : Bool × Pieces). (union.0, pieces_text union.1)) (map (λ (union : Bool × List ℕ). (union.0, raw_piece union.1)) unions) ≡ unions
union-texts [] = refl
union-texts (union ∷ unions) = λ i. (union.0, append-nil union.1 i) ∷ union-texts unions i

fragment-texts : (r : Clauses (List ℕ)) → map_clauses pieces_text (as_fragments r) ≡ r
fragment-texts r = λ i. record {
  kind = r.kind;
  table = append-nil r.table i;
  joins = raw-texts r.joins i;
  operator = r.operator;
  natural = r.natural;
  distinct = r.distinct;
  fields = raw-texts r.fields i;
  sets = raw-texts r.sets i;
  rows = raw-texts r.rows i;
  query = raw-text r.query i;
  returning = raw-text r.returning i;
  group_fields = raw-texts r.group_fields i;
  having = raw-text r.having i;
  groups = raw-texts r.groups i;
  unions = union-texts r.unions i;
  order_fields = raw-texts r.order_fields i;
  limit = raw-text r.limit i;
  offset = raw-text r.offset i;
}

pub fragments-printed : (finish : FinishText) (r : Clauses (List ℕ)) → pieces_text (layout_at fixed_piece raw_piece finish (as_fragments r)) ≡ text_at finish r
fragments-printed finish r = text_of_layout finish (as_fragments r) ∙ ap (text_at finish) (fragment-texts r)

-- what a builder prints
pub builder-shape : (finish : FinishText) (r : Clauses (List ℕ)) (text : List ℕ) → text ≡ text_at finish r
    → HasShape (layout_at fixed_piece raw_piece finish (as_fragments r)) text
builder-shape finish r text is = λ all.
    ap tokens (is ∙ sym (fragments-printed finish r)) ∙ (layout-shaped finish (as_fragments r) (raw-inside-parts r)).shape_is all

builder-closed : (finish : FinishText) (r : Clauses (List ℕ)) (text : List ℕ) → text ≡ text_at finish r
    → IsClosedAs (layout_at fixed_piece raw_piece finish (as_fragments r)) text
builder-closed finish r text is = λ all.
    ap closed (is ∙ sym (fragments-printed finish r))
    ∙ shape_closed (layout_at fixed_piece raw_piece finish (as_fragments r)) (layout-shaped finish (as_fragments r) (raw-inside-parts r)) all

module _ (r : Clauses (List ℕ)) (text : List ℕ) where
  pub sql_shape : text ≡ sql byte_units r → HasShape (sql fixed_piece (as_fragments r)) text
  sql_shape is = builder-shape Sql r text is

  pub sql_closed : text ≡ sql byte_units r → IsClosedAs (sql fixed_piece (as_fragments r)) text
  sql_closed is = builder-closed Sql r text is

  pub query_shape : text ≡ query byte_units r → HasShape (query fixed_piece (as_fragments r)) text
  query_shape is = builder-shape Query r text is

  pub query_closed : text ≡ query byte_units r → IsClosedAs (query fixed_piece (as_fragments r)) text
  query_closed is = builder-closed Query r text is

  pub query_values_shape : text ≡ query_values byte_units r → HasShape (query_values fixed_piece (as_fragments r)) text
  query_values_shape is = builder-shape QueryValues r text is

  pub query_values_closed : text ≡ query_values byte_units r → IsClosedAs (query_values fixed_piece (as_fragments r)) text
  query_values_closed is = builder-closed QueryValues r text is

  pub subquery_shape : text ≡ subquery byte_units r → HasShape (subquery fixed_piece (as_fragments r)) text
  subquery_shape is = builder-shape Subquery r text is

  pub subquery_closed : text ≡ subquery byte_units r → IsClosedAs (subquery fixed_piece (as_fragments r)) text
  subquery_closed is = builder-closed Subquery r text is

  pub subquery_as_shape : (name : List ℕ) → text ≡ subquery_as byte_units name r → HasShape (subquery_as fixed_piece (raw_piece name) (as_fragments r)) text
  subquery_as_shape name is = builder-shape (SubqueryAs name) r text is

  pub subquery_as_closed : (name : List ℕ) → text ≡ subquery_as byte_units name r → IsClosedAs (subquery_as fixed_piece (raw_piece name) (as_fragments r)) text
  subquery_as_closed name is = builder-closed (SubqueryAs name) r text is
