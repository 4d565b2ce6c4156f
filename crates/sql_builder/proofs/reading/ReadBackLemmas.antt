-- What is printed parses back, and its WHERE is true as the conditions make it.
use Rattle.sql_builder.proofs.Imports.{◌≡◌, refl, ◌∙◌, ap, true, List, ℕ, codes, map, sym, false≢true, Clauses, Pieces, Kind, SelectFrom, SelectValues}
use Rattle.sql_builder.proofs.Imports.{InsertInto, UpdateTable, DeleteFrom, tokens}
use Rattle.sql_builder.specs.{ClauseTexts, FinishText, Sql, Query, QueryValues, Subquery, SubqueryAs, byte_units, query, query_values, sql, subquery}
use Rattle.sql_builder.specs.{subquery_as, as_fragments, layout_at, text_at, fixed_piece, pieces_text, raw_piece, has_fit_fragments, HasTruthOfGroups}
use Rattle.sql_builder.specs.{is_unenclosed, prints_where, Nests, ReadsBack, piece_clauses, read, clause_bodies, truth}
use Rattle.sql_builder.proofs.pieces.{query_shape, subquery_as_shape, subquery_shape, fragments-printed, kind_bodies, where_bodies}
use Rattle.sql_builder.proofs.fragments.NeutralLemmas.{raw-neutral, NeutralParts, InsideParts, raw-inside-parts}
use Rattle.sql_builder.proofs.reading.LayoutLemmas.{neutral-layout, bare_query-split, bare_values-split, split-reads, split-wheres, sql-split}
use Rattle.sql_builder.proofs.truth.ConditionGroupLemmas.{texts-true}
use Rattle.sql_builder.proofs.reading.NestingLemmas.{nests}

-- the pieces that a finish prints
abbrev pub layout : FinishText → Clauses Pieces → Pieces
layout finish r = layout_at fixed_piece raw_piece finish r

-- they parse back as their clauses
pub layout-reads : (finish : FinishText) (r : Clauses Pieces) → NeutralParts r → InsideParts r → is_unenclosed finish ≡ true
    → has_fit_fragments (layout finish r) ≡ true
    → read (tokens (pieces_text (layout finish r))) ≡ piece_clauses (layout finish r)
layout-reads Sql r parts inside_parts bare fit = split-reads (sql-split neutral-layout r parts inside_parts) fit
layout-reads Query r parts inside_parts bare fit = split-reads (bare_query-split neutral-layout r parts inside_parts) fit
layout-reads QueryValues r parts inside_parts bare fit = split-reads (bare_values-split neutral-layout r parts inside_parts) fit
layout-reads Subquery r parts inside_parts bare fit = absurd (false≢true bare)
layout-reads (SubqueryAs name) r parts inside_parts bare fit = absurd (false≢true bare)

-- the bodies of WHERE there
kind-wheres : (kind : Kind) (r : Clauses Pieces) → prints_where Sql kind ≡ true → kind_bodies kind r ≡ where_bodies r.groups
kind-wheres SelectFrom r prints = refl
kind-wheres SelectValues r prints = absurd (false≢true prints)
kind-wheres InsertInto r prints = absurd (false≢true prints)
kind-wheres UpdateTable r prints = refl
kind-wheres DeleteFrom r prints = refl

-- a finish that prints a WHERE prints no brackets round it
pub where_unenclosed : (finish : FinishText) (kind : Kind) → prints_where finish kind ≡ true → is_unenclosed finish ≡ true
where_unenclosed Sql kind prints = refl
where_unenclosed Query kind prints = refl
where_unenclosed QueryValues kind prints = refl
where_unenclosed Subquery kind prints = prints
where_unenclosed (SubqueryAs name) kind prints = prints

pub layout-wheres : (finish : FinishText) (r : Clauses Pieces) → NeutralParts r → InsideParts r → prints_where finish r.kind ≡ true
    → clause_bodies (codes "WHERE") (piece_clauses (layout finish r)) ≡ where_bodies r.groups
layout-wheres Sql r parts inside_parts prints = split-wheres (sql-split neutral-layout r parts inside_parts) ∙ kind-wheres r.kind r prints
layout-wheres Query r parts inside_parts prints = split-wheres (bare_query-split neutral-layout r parts inside_parts)
layout-wheres QueryValues r parts inside_parts prints = absurd (false≢true prints)
layout-wheres Subquery r parts inside_parts prints = absurd (false≢true prints)
layout-wheres (SubqueryAs name) r parts inside_parts prints = absurd (false≢true prints)

-- ---- a text of the pieces

module _ (finish : FinishText) (r : Clauses Pieces) (parts : NeutralParts r) (inside_parts : InsideParts r) (text : List ℕ)
    (is : text ≡ pieces_text (layout finish r)) where
  text-reads : is_unenclosed finish ≡ true → ReadsBack (layout finish r) text
  text-reads bare fit = ap read (ap tokens is) ∙ layout-reads finish r parts inside_parts bare fit

  -- its WHERE, parsed back, is that of the groups
  pub text-wheres : prints_where finish r.kind ≡ true → has_fit_fragments (layout finish r) ≡ true → clause_bodies (codes "WHERE") (read (tokens text))
      ≡ where_bodies r.groups
  text-wheres prints fit = ap (clause_bodies (codes "WHERE")) (text-reads (where_unenclosed finish r.kind prints) fit)
      ∙ layout-wheres finish r parts inside_parts prints

-- ---- a builder

module _ (r : ClauseTexts) (text : List ℕ) where
  abbrev builder_pieces : FinishText → Pieces
  builder_pieces finish = layout finish (as_fragments r)

  builder-is : (finish : FinishText) → text ≡ text_at finish r → text ≡ pieces_text (builder_pieces finish)
  builder-is finish is = is ∙ sym (fragments-printed finish r)

  builder-reads : (finish : FinishText) → is_unenclosed finish ≡ true → text ≡ text_at finish r → ReadsBack (builder_pieces finish) text
  builder-reads finish bare is = text-reads finish (as_fragments r) (raw-neutral r) (raw-inside-parts r) text (builder-is finish is) bare

  builder-true : (finish : FinishText) → text ≡ text_at finish r → HasTruthOfGroups finish r (builder_pieces finish) text
  builder-true finish is = λ prints fit fit_groups facts.
      ap (map (truth facts)) (text-wheres finish (as_fragments r) (raw-neutral r) (raw-inside-parts r) text (builder-is finish is) prints fit)
      ∙ texts-true facts r fit_groups

  pub sql_clauses : text ≡ sql byte_units r → ReadsBack (sql fixed_piece (as_fragments r)) text
  sql_clauses is = builder-reads Sql refl is

  pub sql_truth : text ≡ sql byte_units r → HasTruthOfGroups Sql r (sql fixed_piece (as_fragments r)) text
  sql_truth is = builder-true Sql is

  pub query_clauses : text ≡ query byte_units r → ReadsBack (query fixed_piece (as_fragments r)) text
  query_clauses is = builder-reads Query refl is

  pub query_truth : text ≡ query byte_units r → HasTruthOfGroups Query r (query fixed_piece (as_fragments r)) text
  query_truth is = builder-true Query is

  pub query_nests : text ≡ query byte_units r → Nests Query (query fixed_piece (as_fragments r)) text
  query_nests is = nests (as_fragments r) (raw-neutral r) Query text (query_shape r text is)

  pub query_values_clauses : text ≡ query_values byte_units r → ReadsBack (query_values fixed_piece (as_fragments r)) text
  query_values_clauses is = builder-reads QueryValues refl is

  pub subquery_nests : text ≡ subquery byte_units r → Nests Subquery (subquery fixed_piece (as_fragments r)) text
  subquery_nests is = nests (as_fragments r) (raw-neutral r) Subquery text (subquery_shape r text is)

  pub subquery_as_nests : (name : List ℕ) → text ≡ subquery_as byte_units name r
      → Nests (SubqueryAs name) (subquery_as fixed_piece (raw_piece name) (as_fragments r)) text
  subquery_as_nests name is = nests (as_fragments r) (raw-neutral r) (SubqueryAs name) text (subquery_as_shape r text name is)
