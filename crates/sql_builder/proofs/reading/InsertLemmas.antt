-- An INSERT of a query parses back as its own clause, those of the query, and RETURNING.
use Rattle.sql_builder.proofs.Imports.{◌≡◌, refl, sym, ◌∙◌, ap, subst, ℕ, Bool, true, false, List, [], ◌∷◌, ◌++◌, Option, None, Some, pos, codes, append-nil}
use Rattle.sql_builder.proofs.Imports.{append_assoc, map, ◌&&◌, ◌||◌, IfSome, IfOk, flat_map, option_map, IsTrue, if◌then◌else◌, list_all, list_any, and_from}
use Rattle.sql_builder.proofs.Imports.{and_parts, or_from, not_from_false, false≢true, Placed, balanced, is_clause_word, at_top_level, is_whole, Token, Symbol}
use Rattle.sql_builder.proofs.Imports.{begins_with, tokens, has_top_level, has_top_level-is, is_even, placed, placed-is, is_balanced, is_balanced-is}
use Rattle.sql_builder.proofs.Imports.{SqlBuilderError, Clauses, Pieces}
use Rattle.sql_parts.specs.Fragments as fragments
use Rattle.sql_builder.specs.Calls as call
use Rattle.sql_builder.specs.{Sql, clauses, query_of, Query, are_fit, has_balanced_fragments, own, begins_union, has_fit_fragments, BuildersOfInsertsReadBack}
use Rattle.sql_builder.specs.{InsertsReadBack, has_fit_target, insert_clauses, is_fit_returning, lead_of, is_one_query, returning_clauses}
use Rattle.sql_builder.specs.{BuildersOfQueriesAreOne, QueriesAreOne, returning_after, byte_units, insert_sections, concat_sections, insert_target}
use Rattle.sql_builder.specs.{optional_section, returning_sections, section, sql, statement_sections, query, query_sections, Parts, parts_at, before_top_level}
use Rattle.sql_builder.specs.{with_front, Clause, is_union, own_placed, read, without_semicolon, HasShape, as_fragments, pieces_tokens, error_at}
use Rattle.sql_builder.specs.{text_unless_error, unless_error, made_by, fixed_piece, pieces_text, raw_piece, until}
use Rattle.sql_builder.proofs.tokens.{even_closes, even_text, has_top_level-append, is_even-append, at_end-closes, semicolon-none, semicolon-one}
use Rattle.sql_builder.proofs.fragments.NeutralLemmas.{NeutralParts, clauses-neutral, raw-neutral}
use Rattle.sql_builder.proofs.fragments.PropertyLemmas.{passes-append, whatever}
use Rattle.sql_builder.proofs.pieces.{printed-shaped, sql_shape, query_shape, pieces_tokens-append, fields-enclosed, target-kept}
use Rattle.sql_builder.proofs.truth.ConnectiveLemmas.{placed-then}
use Rattle.sql_builder.proofs.reading.NestingLemmas.{query-balanced}
use Rattle.sql_builder.proofs.reading.LayoutLemmas.{query-opens, neutral-layout}
use Rattle.sql_builder.proofs.reading.SectionLemmas.{Neutral, Front, any_union, before-append, neutral-front, front-append, lead_on, opening_clauses, joined}
use Rattle.sql_builder.proofs.reading.SectionLemmas.{own-top_level, parts-joined, section-clauses, starts-lead, union-flags, with_last, sections-front}
use Rattle.sql_builder.proofs.reading.SectionLemmas.{until-after, union-flag, with_last-nil}
use Rattle.sql_builder.proofs.reading.ClauseWordLemmas.{are_fit-is, are_fit_at, fit-balanced, fit-flags, fragments_closed, flags, same-parts, shape-even}
use Rattle.sql_builder.proofs.statements.{of_pieces}

-- ---- tokens that have no top-level UNION

-- balanced or none, and without a top-level UNION
record One (ts : List Token) : Type 0 where
  even : is_even ts ≡ true
  no_union : has_top_level is_union ts ≡ false

one-append : (a b : List Token) → One a → One b → One (a ++ b)
one-append a b one other = record {
  even = is_even-append a b one.even other.even;
  no_union = has_top_level-append is_union a b one.even ∙ or_from _ _ one.no_union other.no_union;
}

abbrev parts : List Token → Parts
parts ts = parts_at is_clause_word (placed ts)

parts-append : (a b : List Token) → One a → parts (a ++ b) ≡ joined (parts a) (parts b)
parts-append a b one = ap (parts_at is_clause_word) (placed-then a b (at_end-closes (pos 0) a (even_closes a one.even)))
    ∙ parts-joined is_clause_word (placed a) (placed b)

before-none : (test : Token → Bool) (ms : List Placed) → list_any (at_top_level test) ms ≡ false → before_top_level test ms ≡ ms
before-none test ms none = ap (before_top_level test) (sym (append-nil ms)) ∙ before-append test ms [] none ∙ append-nil ms

before-cut : (test : Token → Bool) (a b : List Placed) → list_any (at_top_level test) a ≡ true → before_top_level test (a ++ b) ≡ before_top_level test a
before-cut test [] b some = absurd (false≢true some)
before-cut test (m ∷ a) b some = by (at_top_level test m) some (before-cut test a b)
  where
    by : (found : Bool) → (found || list_any (at_top_level test) a) ≡ true
        → (list_any (at_top_level test) a ≡ true → before_top_level test (a ++ b) ≡ before_top_level test a)
        → (if found then [] else (m ∷ before_top_level test (a ++ b))) ≡ (if found then [] else (m ∷ before_top_level test a))
    by true some rest = refl
    by false some rest = ap (λ (ms : List Placed). m ∷ ms) (rest some)

-- UNION is a clause word, so the first clause word is not behind it
lead-cut : (ms : List Placed) → (parts_at is_clause_word (before_top_level is_union ms)).lead ≡ (parts_at is_clause_word ms).lead
lead-cut [] = refl
lead-cut (m ∷ ms) =
    ap (λ (found : Bool). (parts_at is_clause_word (if found then [] else (m ∷ before_top_level is_union ms))).lead) (union-flag m)
    ∙ by (at_top_level is_clause_word m) (is_union (fragments.token_of m)) refl (lead-cut ms)
  where
    by : (clause union : Bool) → at_top_level is_clause_word m ≡ clause
        → (parts_at is_clause_word (before_top_level is_union ms)).lead ≡ (parts_at is_clause_word ms).lead
        → (parts_at is_clause_word (if clause && union then [] else (m ∷ before_top_level is_union ms))).lead
        ≡ (with_front clause (fragments.token_of m) (parts_at is_clause_word ms)).lead
    by true true is rest = refl
    by true false is rest = ap (λ (clause : Bool). (with_front clause (fragments.token_of m) (parts_at is_clause_word (before_top_level is_union ms))).lead) is
    by false union is rest =
        ap (λ (clause : Bool). (with_front clause (fragments.token_of m) (parts_at is_clause_word (before_top_level is_union ms))).lead) is
        ∙ ap (λ ts. fragments.token_of m ∷ ts) rest

-- tokens are read up to their first top-level UNION
read-cut : (ts us : List Token) → without_semicolon ts ≡ us → read ts ≡ (parts_at is_clause_word (before_top_level is_union (placed us))).rest
unfolding read
read-cut ts us is =
    ap (λ vs. (parts_at is_clause_word (before_top_level is_union (fragments.placed vs))).rest) is
    ∙ ap (λ ms. (parts_at is_clause_word (before_top_level is_union ms)).rest) (placed-is us)

-- pieces whose own words are laid as those of a statement
pieces-one : (ps : Pieces) → Front (own ps) → are_fit_at (pos 0) ps ≡ true → One (pieces_tokens ps)
pieces-one ps front fits = record {
  even = shape-even ps (fit-balanced (pos 0) ps fits) front.even;
  no_union = union-flags (placed (pieces_tokens ps)) ∙ ap any_union (fit-flags (pos 0) ps refl fits front.laid) ∙ sym (union-flags (flat_map own_placed ps))
      ∙ own-top_level is_union ps ∙ front.no_union;
}

-- ---- a section of the builder's own

module _ (words : List ℕ) (body : Pieces) (front : Front (tokens words)) (starts : begins_with is_clause_word (tokens words) ≡ true) (neutral : Neutral body)
    (fit : are_fit body ≡ true) where
  abbrev here : Pieces
  here = fixed_piece words ++ body

  is-front : Front (own here)
  is-front = front-append (tokens words) (own body) front (neutral-front body neutral)

  fits : are_fit_at (pos 0) here ≡ true
  fits = subst (λ l. are_fit_at l body ≡ true) (sym (at_end-closes (pos 0) (tokens words) (even_closes (tokens words) front.even)))
      (sym (are_fit-is body) ∙ fit)

  same : flags (placed (pieces_tokens here)) ≡ flags (flat_map own_placed here)
  same = fit-flags (pos 0) here refl fits is-front.laid

  parts-are : parts (pieces_tokens here) ≡ parts_at is_clause_word (flat_map own_placed here)
  parts-are = same-parts (placed (pieces_tokens here)) (flat_map own_placed here) same

  section-one : One (pieces_tokens here)
  section-one = pieces-one here is-front fits

  section-rest : (parts (pieces_tokens here)).rest ≡ with_last (pieces_tokens body) (opening_clauses words)
  section-rest = ap (λ (ps : Parts). ps.rest) parts-are ∙ section-clauses (section words body) neutral

  section-lead : (parts (pieces_tokens here)).lead ≡ []
  section-lead = ap (λ (ps : Parts). ps.lead) parts-are ∙ starts-lead (tokens words) (flat_map own_placed body) starts

-- ---- RETURNING

abbrev returned : Option Pieces → List Token
returned given = pieces_tokens (concat_sections fixed_piece (optional_section (codes " RETURNING ") given))

-- tokens that begin with a clause word, if there is one, with these clauses
record Tail (ts : List Token) (found : List Clause) : Type 0 where
  one : One ts
  lead : (parts ts).lead ≡ []
  rest : (parts ts).rest ≡ found

returned-front : Front (tokens (codes " RETURNING "))
returned-front = record { laid = refl; even = refl; no_union = refl }

returned-tail : (given : Option Pieces) → IfSome given Neutral → is_fit_returning given ≡ true → Tail (returned given) (returning_clauses given)
returned-tail None neutral fit = record { one = record { even = refl; no_union = refl }; lead = refl; rest = refl }
returned-tail (Some body) neutral fit =
    let words = codes " RETURNING " in
    subst (λ ps. Tail (pieces_tokens ps) (returning_clauses (Some body))) (sym (append-nil (fixed_piece words ++ body))) (record {
      one = section-one words body returned-front refl neutral fit;
      lead = section-lead words body returned-front refl neutral fit;
      rest = section-rest words body returned-front refl neutral fit;
    })

-- ---- the whole

-- behind a lead that other parts have
joined-tail : (ts us : List Token) (found : List Clause) → One ts → Tail us found
    → parts (ts ++ us) ≡ record { lead = (parts ts).lead; rest = (parts ts).rest ++ found }
joined-tail ts us found one tail =
    parts-append ts us one
    ∙ (λ i. joined (parts ts) (record { lead = tail.lead i; rest = tail.rest i }))
    ∙ unchanged (parts ts).lead (parts ts).rest
  where
    on : (lead : List Token) (rest : List Clause) → lead_on [] lead rest ≡ lead
    on lead [] = append-nil lead
    on lead (c ∷ cs) = refl

    unchanged : (lead : List Token) (rest : List Clause)
        → joined (record { lead = lead; rest = rest }) (record { lead = []; rest = found }) ≡ record { lead = lead; rest = rest ++ found }
    unchanged lead rest = λ i. record { lead = on lead rest i; rest = with_last-nil rest i ++ found }

returned-balanced : (given : Option Pieces) → is_fit_returning given ≡ true
    → has_balanced_fragments (concat_sections fixed_piece (optional_section (codes " RETURNING ") given)) ≡ true
returned-balanced None fit = refl
returned-balanced (Some body) fit = passes-append balanced whatever body [] (fit-balanced (pos 0) body (sym (are_fit-is body) ∙ fit)) refl

insert-front : Front (tokens (codes "INSERT INTO "))
insert-front = record { laid = refl; even = refl; no_union = refl }

module _ (r : Clauses Pieces) (query : List ℕ) (neutral : NeutralParts r) (is : balanced query ≡ true) (fit : has_fit_target r ≡ true) where
  target-neutral : Neutral (insert_target fixed_piece r)
  target-neutral = target-kept neutral-layout r neutral (fields-enclosed neutral-layout)

  target-fit : are_fit (insert_target fixed_piece r) ≡ true
  target-fit = (and_parts (are_fit (insert_target fixed_piece r)) (is_fit_returning r.returning) fit).0

  query-even : is_even (tokens query) ≡ true
  query-even = even_text query is

  query-read : read (tokens query) ≡ (parts_at is_clause_word (before_top_level is_union (placed (tokens query)))).rest
  query-read = read-cut (tokens query) (tokens query) (semicolon-none (tokens query) (and_parts (list_all is_whole (tokens query)) _ query-even).0)

  tail : Tail (returned r.returning) (returning_clauses r.returning)
  tail = returned-tail r.returning neutral.returning (and_parts (are_fit (insert_target fixed_piece r)) (is_fit_returning r.returning) fit).1

  abbrev front : List Token
  front = pieces_tokens (fixed_piece (codes "INSERT INTO ") ++ insert_target fixed_piece r)

  front-one : One front
  front-one = section-one (codes "INSERT INTO ") (insert_target fixed_piece r) insert-front refl target-neutral target-fit

  -- what is read behind the target
  abbrev behind : List Placed
  behind = before_top_level is_union (placed (tokens query ++ returned r.returning))

  after-is : parts_at is_clause_word behind
      ≡ record { lead = lead_of (tokens query); rest = read (tokens query) ++ returning_after (tokens query) r.returning }
  after-is = by (has_top_level is_union (tokens query)) refl
    where
      lead-is : (parts (tokens query)).lead ≡ lead_of (tokens query)
      lead-is = ap (λ ms. (parts_at is_clause_word ms).lead) (sym (placed-is (tokens query)))

      by : (union : Bool) → has_top_level is_union (tokens query) ≡ union
          → parts_at is_clause_word behind ≡ record { lead = lead_of (tokens query); rest = read (tokens query) ++ returning_after (tokens query) r.returning }
      by true found =
          let cut = before-cut is_union (placed (tokens query)) (placed (returned r.returning)) found in
          let unchanged : parts_at is_clause_word behind ≡ parts_at is_clause_word (before_top_level is_union (placed (tokens query))) =
          ap (λ ms. parts_at is_clause_word (before_top_level is_union ms))
          (placed-then (tokens query) (returned r.returning) (at_end-closes (pos 0) (tokens query) (even_closes (tokens query) query-even)))
          ∙ ap (parts_at is_clause_word) cut in
          let none : returning_after (tokens query) r.returning ≡ [] =
          ap (λ (union : Bool). if union then [] else returning_clauses r.returning) (has_top_level-is is_union (tokens query) ∙ found) in
          unchanged
          ∙ (λ i. record {
            lead = (lead-cut (placed (tokens query)) ∙ lead-is) i;
            rest = (sym (append-nil (parts_at is_clause_word (before_top_level is_union (placed (tokens query)))).rest)
                ∙ (λ j. sym query-read j ++ sym none j)) i;
          })
      by false found =
          let one : One (tokens query) = record { even = query-even; no_union = found } in
          let some : returning_after (tokens query) r.returning ≡ returning_clauses r.returning =
          ap (λ (union : Bool). if union then [] else returning_clauses r.returning) (has_top_level-is is_union (tokens query) ∙ found) in
          let whole : (parts (tokens query)).rest ≡ read (tokens query) =
          ap (λ ms. (parts_at is_clause_word ms).rest) (sym (before-none is_union (placed (tokens query)) found)) ∙ sym query-read in
          ap (parts_at is_clause_word)
          (before-none is_union (placed (tokens query ++ returned r.returning)) (one-append (tokens query) (returned r.returning) one tail.one).no_union)
          ∙ joined-tail (tokens query) (returned r.returning) (returning_clauses r.returning) one tail
          ∙ (λ i. record { lead = lead-is i; rest = whole i ++ sym some i })

  -- the clauses that the whole has
  whole-clauses : (parts_at is_clause_word (before_top_level is_union (placed (front ++ (tokens query ++ returned r.returning))))).rest
      ≡ insert_clauses r (tokens query)
  whole-clauses =
      ap (λ ms. (parts_at is_clause_word (before_top_level is_union ms)).rest)
      (placed-then front (tokens query ++ returned r.returning) (at_end-closes (pos 0) front (even_closes front front-one.even)))
      ∙ ap (λ ms. (parts_at is_clause_word ms).rest) (before-append is_union (placed front) (placed (tokens query ++ returned r.returning)) front-one.no_union)
      ∙ ap (λ (ps : Parts). ps.rest) (parts-joined is_clause_word (placed front) behind)
      ∙ ap (λ (ps : Parts). with_last ps.lead (parts front).rest ++ ps.rest) after-is
      ∙ ap (λ (cs : List Clause). with_last (lead_of (tokens query)) cs ++ (read (tokens query) ++ returning_after (tokens query) r.returning))
      (section-rest (codes "INSERT INTO ") (insert_target fixed_piece r) insert-front refl target-neutral target-fit)

  -- the tokens that are printed
  abbrev insert_pieces : Pieces
  insert_pieces = concat_sections fixed_piece
      (section (codes "INSERT INTO ") (insert_target fixed_piece r ++ (fixed_piece (codes " ") ++ raw_piece query)) ∷ returning_sections r)
      ++ fixed_piece (codes ";")

  abbrev opened : Pieces
  opened = fixed_piece (codes "INSERT INTO ") ++ (insert_target fixed_piece r ++ (fixed_piece (codes " ") ++ raw_piece query))

  insert-tokens : pieces_tokens insert_pieces ≡ (front ++ (tokens query ++ returned r.returning)) ++ Symbol 59 ∷ []
  insert-tokens =
      pieces_tokens-append (opened ++ concat_sections fixed_piece (returning_sections r)) (fixed_piece (codes ";"))
      ∙ ap (λ ts. ts ++ Symbol 59 ∷ [])
      (pieces_tokens-append opened (concat_sections fixed_piece (returning_sections r))
      ∙ ap (λ ts. ts ++ returned r.returning)
      (pieces_tokens-append (fixed_piece (codes "INSERT INTO ") ++ insert_target fixed_piece r) (fixed_piece (codes " ") ++ raw_piece query)
      ∙ ap (λ ts. front ++ ts) (append-nil (tokens query)))
      ∙ append_assoc front (tokens query) (returned r.returning))

  -- each fragment is balanced
  target-balanced : has_balanced_fragments (insert_target fixed_piece r) ≡ true
  target-balanced = fit-balanced (pos 0) (insert_target fixed_piece r) (sym (are_fit-is (insert_target fixed_piece r)) ∙ target-fit)

  insert-balanced : has_balanced_fragments insert_pieces ≡ true
  insert-balanced =
      passes-append balanced whatever (opened ++ concat_sections fixed_piece (returning_sections r)) (fixed_piece (codes ";"))
      (passes-append balanced whatever opened (concat_sections fixed_piece (returning_sections r))
      (passes-append balanced whatever (insert_target fixed_piece r) (fixed_piece (codes " ") ++ raw_piece query) target-balanced (and_from _ _ is refl))
      (returned-balanced r.returning (and_parts (are_fit (insert_target fixed_piece r)) (is_fit_returning r.returning) fit).1))
      refl

  pub insert-reads : (text : List ℕ) → HasShape insert_pieces text → read (tokens text) ≡ insert_clauses r (tokens query)
  insert-reads text shaped =
      ap read (shaped (fragments_closed insert_pieces insert-balanced) ∙ insert-tokens)
      ∙ read-cut ((front ++ (tokens query ++ returned r.returning)) ++ Symbol 59 ∷ []) (front ++ (tokens query ++ returned r.returning))
      (semicolon-one (front ++ (tokens query ++ returned r.returning)))
      ∙ whole-clauses

-- ---- a query without unions

module _ (r : Clauses Pieces) (neutral : NeutralParts r) (none : r.unions ≡ []) (fit : has_fit_fragments (query fixed_piece r) ≡ true) where
  query-front : Front (own (query fixed_piece r))
  query-front = sections-front Neutral (query_sections fixed_piece r) (query-opens r neutral none)

  -- no piece begins a union
  query-fits : are_fit_at (pos 0) (query fixed_piece r) ≡ true
  query-fits =
      let ps = query fixed_piece r in
      let until-none : until begins_union ps ≡ ps = ap (until begins_union) (sym (append-nil ps)) ∙ until-after ps [] query-front.no_union ∙ append-nil ps in
      sym (are_fit-is ps) ∙ ap are_fit (sym until-none) ∙ fit

  pub one-query : (text : List ℕ) → HasShape (query fixed_piece r) text → is_one_query text ≡ true
  one-query text shaped =
      let all = fit-balanced (pos 0) (query fixed_piece r) query-fits in
      let same = shaped (fragments_closed (query fixed_piece r) all) in
      and_from _ _ (is_balanced-is (tokens text) ∙ ap is_balanced same ∙ query-balanced r neutral all)
      (not_from_false _ (has_top_level-is is_union (tokens text) ∙ ap (has_top_level is_union) same
      ∙ (pieces-one (query fixed_piece r) query-front query-fits).no_union))

-- ---- a list of calls

-- what is printed, by the query that is given
abbrev inserted : Option Pieces → Clauses Pieces → Pieces
inserted given r = concat_sections fixed_piece (insert_sections fixed_piece given r) ++ fixed_piece (codes ";")

pub inserts_read_back : InsertsReadBack
inserts_read_back table calls query given is fit = by (error_at Sql (made_by (call.InsertInto table) calls))
  where
    by : (error : Option SqlBuilderError)
        → IfOk (text_unless_error (unless_error error (inserted (query_of calls) (clauses (call.InsertInto table) calls))))
        (λ text. read (tokens text) ≡ insert_clauses (clauses (call.InsertInto table) calls) (tokens query))
    by None =
        let r = clauses (call.InsertInto table) calls in
        let text = pieces_text (inserted (query_of calls) r) in
        insert-reads r query (clauses-neutral (call.InsertInto table) calls) is fit text
        (subst (λ q. HasShape (inserted q r) text) given (printed-shaped (call.InsertInto table) calls Sql).shape_is)
    by (Some error) = tt

-- ---- a builder

pub builders_of_inserts_read_back : BuildersOfInsertsReadBack
builders_of_inserts_read_back r query kind given is fit =
    let text = sql byte_units r in
    let same : sql fixed_piece (as_fragments r) ≡ inserted (Some (raw_piece query)) (as_fragments r) =
    ap (λ k. concat_sections fixed_piece (statement_sections fixed_piece k (as_fragments r)) ++ fixed_piece (codes ";")) kind
    ∙ ap (λ q. inserted (option_map raw_piece q) (as_fragments r)) given in
    insert-reads (as_fragments r) query (raw-neutral r) is fit text (subst (λ ps. HasShape ps text) same (sql_shape r text refl))

-- ---- queries without unions

pub queries_are_one : QueriesAreOne
queries_are_one start calls none =
    let its_clauses = clauses start calls in
    of_pieces start calls Query (λ printed. IsTrue (has_fit_fragments printed)) (λ printed text. IsTrue (is_one_query text))
    (λ fit. one-query its_clauses (clauses-neutral start calls) none fit (pieces_text (query fixed_piece its_clauses))
    (printed-shaped start calls Query).shape_is)

pub builders_of_queries_are_one : BuildersOfQueriesAreOne
builders_of_queries_are_one r none fit =
    one-query (as_fragments r) (raw-neutral r) (ap (map (λ (union : Bool × List ℕ). (union.0, raw_piece union.1))) none) fit (query byte_units r)
    (query_shape r (query byte_units r) refl)
