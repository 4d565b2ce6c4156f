-- The builder's own words in each statement: what parses back, and the bodies of WHERE.
use Rattle.sql_builder.proofs.Imports.{◌≡◌, refl, sym, ◌∙◌, ap, subst, ℕ, Bool, true, false, List, [], ◌∷◌, ◌++◌, None, codes, append-nil, append_assoc}
use Rattle.sql_builder.proofs.Imports.{flat_map, flat_map-append, Token, tokens, begins_with, Clauses, Pieces, Kind, SelectFrom, SelectValues, InsertInto}
use Rattle.sql_builder.proofs.Imports.{UpdateTable, DeleteFrom, is_even, is_clause_word}
use Rattle.sql_builder.proofs.fragments.PropertyLemmas.{neutral-brackets, neutral-joins, PreservedByWords}
use Rattle.sql_builder.specs.{Section, concat_sections, delete_sections, fields_or_star, group_by_sections, insert_sections, query, query_sections}
use Rattle.sql_builder.specs.{query_values, range_sections, section, select_opening, sql, statement_sections, table_and_joins, union_opening, union_sections}
use Rattle.sql_builder.specs.{update_sections, values_sections, where_sections, in_brackets, pieces_tokens, Piece, Fixed, fixed_piece, pieces_text, own}
use Rattle.sql_builder.specs.{has_fit_fragments, Clause, piece_clauses, read, clause_bodies}
use Rattle.sql_builder.proofs.tokens.{is_even-append}
use Rattle.sql_builder.proofs.reading.SectionLemmas.{AllOpen, Neutral, Ending, Front, clauses_in, clauses-sections, ending-none, ending-semicolon, ending-union}
use Rattle.sql_builder.proofs.reading.SectionLemmas.{list-back, opening_clauses, read-back, section-clauses, section_pieces, sections-front, with_last}
use Rattle.sql_builder.proofs.reading.ClauseWordLemmas.{own-append}
use Rattle.sql_builder.proofs.fragments.ClauseFacts.{PartsAre, without_unions}
use Rattle.sql_builder.proofs.fragments.NeutralLemmas.{NeutralParts, neutral-target, InsideParts}
use Rattle.sql_builder.proofs.pieces.{Inside, PreservedByLayout, delete-laid, fields-enclosed, insert-laid, kind_bodies, query-laid, statement-laid}
use Rattle.sql_builder.proofs.pieces.{update-laid, values-laid, where_bodies, inside-layout}

-- ---- sections, and the bodies of WHERE

abbrev clauses_of : List (Section Piece) → List Clause
clauses_of sections = flat_map (λ s. clauses_in (section_pieces s)) sections

-- sections that clause words of their own open, and the bodies of those of WHERE
pub record Laid (P : Pieces → Type 0) (sections : List (Section Piece)) (bodies : List (List Token)) : Type 0 where
  pub opens : AllOpen P sections
  pub wheres : clause_bodies (codes "WHERE") (clauses_of sections) ≡ bodies

-- pieces as sections that are read, and what ends them
pub record Split (P : Pieces → Type 0) (printed : Pieces) (bodies : List (List Token)) : Type 0 where
  pub front : List (Section Piece)
  pub rest : Pieces
  pub is : printed ≡ concat_sections fixed_piece front ++ rest
  pub laid : Laid P front bodies
  pub inside : Inside (concat_sections fixed_piece front)
  pub ending : Ending rest

-- a statement parses back as its clauses
pub split-reads : {P : Pieces → Type 0} {printed : Pieces} {bodies : List (List Token)} → Split P printed bodies → has_fit_fragments printed ≡ true
    → read (tokens (pieces_text printed)) ≡ piece_clauses printed
split-reads {P = P} split fit =
    let front = concat_sections fixed_piece split.front in
    ap (λ ps. read (tokens (pieces_text ps))) split.is
    ∙ read-back front split.rest (sections-front P split.front split.laid.opens) split.ending split.inside (ap has_fit_fragments (sym split.is) ∙ fit)
    ∙ ap piece_clauses (sym split.is)

pub split-wheres : {P : Pieces → Type 0} {printed : Pieces} {bodies : List (List Token)} → Split P printed bodies
    → clause_bodies (codes "WHERE") (piece_clauses printed) ≡ bodies
split-wheres {P = P} split =
    let front = concat_sections fixed_piece split.front in
    ap (clause_bodies (codes "WHERE"))
    (ap piece_clauses split.is ∙ list-back front split.rest (sections-front P split.front split.laid.opens) split.ending
    ∙ clauses-sections P split.front split.laid.opens)
    ∙ split.laid.wheres

-- what keeps a property of such sections
abbrev pub PreservedByReading : (Pieces → Type 0) → Type 0
PreservedByReading P = PreservedByLayout P P (λ x. ⊥) (Laid P) (Laid P)

pub laid-layout : {P : Pieces → Type 0} → PreservedByWords P P → ((x : Pieces) → P x → P (in_brackets fixed_piece x))
    → ((x : Pieces) → P x → P (fixed_piece (codes " (") ++ (x ++ fixed_piece (codes ")")))) → ((x : Pieces) → P x → Neutral x) → PreservedByReading P
laid-layout {P = P} joins brackets target neutral = record {
  joins = joins;
  brackets = brackets;
  target = target;
  none = record { opens = tt; wheres = refl };
  further = λ words body more wheres opens begins h rest.
      one_more words body more [] wheres opens.front opens.starts h (opens.elsewhere (pieces_tokens body)) rest;
  where_section = λ body more h rest.
      one_more (codes " WHERE ") body more (pieces_tokens body ∷ []) [] (record { laid = refl; even = refl; no_union = refl }) refl h refl rest;
  union = λ all body more h rest. absurd h;
  first = λ words body more wheres opens h rest.
      one_more words body more [] wheres opens.front opens.starts h (opens.elsewhere (pieces_tokens body)) rest;
}
  where
    -- one more section, with what its clauses give to WHERE
    one_more : (words : List ℕ) (body : Pieces) (more : List (Section Piece)) (here wheres : List (List Token)) → Front (tokens words)
        → begins_with is_clause_word (tokens words) ≡ true → P body → clause_bodies (codes "WHERE") (with_last (pieces_tokens body) (opening_clauses words)) ≡ here
        → Laid P more wheres → Laid P (section words body ∷ more) (here ++ wheres)
    one_more words body more here wheres front starts h is rest = record {
      opens = (record { front = front; starts = starts; neutral = neutral body h; body = h }, rest.opens);
      wheres = flat_map-append _ (clauses_in (section_pieces (section words body))) (clauses_of more)
          ∙ cc (ap (clause_bodies (codes "WHERE")) (section-clauses (section words body) (neutral body h)) ∙ is, rest.wheres);
    }

pub neutral-layout : PreservedByReading Neutral
neutral-layout = laid-layout neutral-joins neutral-brackets neutral-target (λ x neutral. neutral)

-- ---- statements

-- sections, and the `;` or nothing
pub plain-split : {P : Pieces → Type 0} (sections : List (Section Piece)) (tail : Pieces) {bodies : List (List Token)} → Laid P sections bodies
    → Inside (concat_sections fixed_piece sections) → Ending tail → Split P (concat_sections fixed_piece sections ++ tail) bodies
plain-split sections tail laid inside ending = record { front = sections; rest = tail; is = refl; laid = laid; inside = inside; ending = ending }

module _ {P U : Pieces → Type 0} (preserved : PreservedByReading P) (r : Clauses Pieces) (parts : PartsAre P P U r) (inside_parts : InsideParts r) where
  -- without unions, and without what is behind them
  abbrev alone : Clauses Pieces
  alone = record r { unions = [] }

  abbrev first : Clauses Pieces
  first = record r { unions = []; order_fields = []; limit = None; offset = None }

  -- up to the first union
  at_union : (tail : Pieces) (union : Bool × Pieces) (unions : List (Bool × Pieces))
      → Split P (concat_sections fixed_piece (query_sections fixed_piece (record r { unions = union ∷ unions })) ++ tail) (where_bodies r.groups)
  at_union tail union unions =
      let select = section (select_opening r.distinct) (fields_or_star fixed_piece r.fields) in
      let from = section (codes " FROM ") (table_and_joins fixed_piece r.table r.joins) in
      let wheres = where_sections fixed_piece r.groups in
      let grouped = group_by_sections fixed_piece r.group_fields r.having in
      let more = union_sections unions ++ range_sections r in
      let behind = section (union_opening union.0) union.1 ∷ more in
      record {
        front = query_sections fixed_piece first;
        rest = Fixed (union_opening union.0) ∷ ((union.1 ++ concat_sections fixed_piece more) ++ tail);
        is =
            ap (λ ss. concat_sections fixed_piece (select ∷ from ∷ ss) ++ tail)
            (ap (λ gs. wheres ++ (gs ++ behind)) (sym (append-nil grouped)) ∙ sym (append_assoc wheres (grouped ++ []) behind))
            ∙ ap (λ ps. ps ++ tail) (flat_map-append section_pieces (query_sections fixed_piece first) behind)
            ∙ append_assoc (concat_sections fixed_piece (query_sections fixed_piece first)) (concat_sections fixed_piece behind) tail;
        laid = query-laid preserved first (without_unions parts [] None None tt tt tt);
        inside = query-laid inside-layout first (without_unions inside_parts [] None None tt tt tt);
        ending = ending-union union.0 ((union.1 ++ concat_sections fixed_piece more) ++ tail);
      }

  pub query-split : (tail : Pieces) → Ending tail → Split P (concat_sections fixed_piece (query_sections fixed_piece r) ++ tail) (where_bodies r.groups)
  query-split tail ending = by r.unions
    where
      by : (unions : List (Bool × Pieces))
          → Split P (concat_sections fixed_piece (query_sections fixed_piece (record r { unions = unions })) ++ tail) (where_bodies r.groups)
      by [] =
          plain-split (query_sections fixed_piece alone) tail
          (query-laid preserved alone (without_unions parts r.order_fields r.limit r.offset parts.order_fields parts.limit parts.offset))
          (query-laid inside-layout alone
          (without_unions inside_parts r.order_fields r.limit r.offset inside_parts.order_fields inside_parts.limit inside_parts.offset))
          ending
      by (u ∷ us) = at_union tail u us

  values-split : (tail : Pieces) → Ending tail → Split P (concat_sections fixed_piece (values_sections fixed_piece r) ++ tail) []
  values-split tail ending =
      plain-split (values_sections fixed_piece r) tail (values-laid preserved r parts) (values-laid inside-layout r inside_parts) ending

  statement-split : (kind : Kind) (tail : Pieces) → Ending tail
      → Split P (concat_sections fixed_piece (statement_sections fixed_piece kind r) ++ tail) (kind_bodies kind r)
  statement-split SelectFrom tail ending = query-split tail ending
  statement-split SelectValues tail ending = values-split tail ending
  statement-split InsertInto tail ending =
      plain-split (insert_sections fixed_piece r.query r) tail
      (insert-laid preserved r parts (fields-enclosed preserved) r.query parts.query)
      (statement-laid inside-layout InsertInto r inside_parts) ending
  statement-split UpdateTable tail ending =
      plain-split (update_sections fixed_piece r) tail (update-laid preserved r parts) (update-laid inside-layout r inside_parts) ending
  statement-split DeleteFrom tail ending =
      plain-split (delete_sections fixed_piece r) tail (delete-laid preserved r parts) (delete-laid inside-layout r inside_parts) ending

  -- what `sql`, `query` and `query_values` print
  pub sql-split : Split P (sql fixed_piece r) (kind_bodies r.kind r)
  sql-split = statement-split r.kind (fixed_piece (codes ";")) ending-semicolon

  bare-split : (printed : Pieces) (bodies : List (List Token)) → Split P (printed ++ []) bodies → Split P printed bodies
  bare-split printed bodies split = subst (λ ps. Split P ps bodies) (append-nil printed) split

  pub bare_query-split : Split P (query fixed_piece r) (where_bodies r.groups)
  bare_query-split = bare-split (query fixed_piece r) (where_bodies r.groups) (query-split [] ending-none)

  pub bare_values-split : Split P (query_values fixed_piece r) []
  bare_values-split = bare-split (query_values fixed_piece r) [] (values-split [] ending-none)

-- the sections of a query without unions
pub query-opens : (r : Clauses Pieces) → NeutralParts r → r.unions ≡ [] → AllOpen Neutral (query_sections fixed_piece r)
query-opens r parts none =
    subst (λ unions. AllOpen Neutral (query_sections fixed_piece (record r { unions = unions }))) (sym none)
    (query-laid neutral-layout (record r { unions = [] })
    (without_unions parts r.order_fields r.limit r.offset parts.order_fields parts.limit parts.offset)).opens

-- ---- the whole of a query, its unions too

abbrev Even : List (Section Piece) → List (List Token) → Type 0
Even sections wheres = is_even (own (concat_sections fixed_piece sections)) ≡ true

one_more-even : (words : List ℕ) (body : Pieces) (more : List (Section Piece)) → is_even (tokens words) ≡ true → Neutral body
    → is_even (own (concat_sections fixed_piece more)) ≡ true → is_even (own (concat_sections fixed_piece (section words body ∷ more))) ≡ true
one_more-even words body more even neutral rest =
    ap is_even (own-append (fixed_piece words ++ body) (concat_sections fixed_piece more))
    ∙ is_even-append (tokens words ++ own body) (own (concat_sections fixed_piece more)) (is_even-append (tokens words) (own body) even neutral.even) rest

union-even : (all : Bool) → is_even (tokens (union_opening all)) ≡ true
union-even true = refl
union-even false = refl

even-layout : PreservedByLayout Neutral Neutral Neutral Even Even
even-layout = record {
  joins = neutral-joins;
  brackets = neutral-brackets;
  target = neutral-target;
  none = refl;
  further = λ words body more wheres opens begins neutral rest. one_more-even words body more opens.front.even neutral rest;
  where_section = λ body more neutral rest. one_more-even (codes " WHERE ") body more refl neutral rest;
  union = λ all body more neutral rest. one_more-even (union_opening all) body more (union-even all) neutral rest;
  first = λ words body more wheres opens neutral rest. one_more-even words body more opens.front.even neutral rest;
}

pub query-even : (r : Clauses Pieces) → NeutralParts r → is_even (own (query fixed_piece r)) ≡ true
query-even r parts = query-laid even-layout r parts
