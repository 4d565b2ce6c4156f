-- Worked rows of an INSERT of a query as it parses back: what the definitions give, by computing.
use Rattle.sql_builder.proofs.Imports.{◌≡◌, ℕ, List, [], ◌∷◌, Ok, Some, codes, false, refl, true, balanced, Word, tokens}
use Rattle.sql_builder.specs.Calls as call
use Rattle.sql_builder.specs.{CallText, clauses, query_of, has_fit_insert_texts, has_fit_target, insert_clauses, is_one_query, lead_of, has_fit_fragments}
use Rattle.sql_builder.specs.{query, read, statement, fixed_piece, raw_piece}

-- INSERT of this query, with the id returned
abbrev of : List ℕ → List CallText
of query = call.Field (codes "a FROM b") ∷ call.Select query ∷ call.ReturningId ∷ []

abbrev chosen : List ℕ
chosen = codes "SELECT c, (d) FROM u WHERE e"

insert-printed : statement (call.InsertInto (codes "t")) (of chosen) call.Sql ≡ Ok (codes "INSERT INTO t (a FROM b) SELECT c, (d) FROM u WHERE e RETURNING id;")
insert-printed = refl

insert-query : query_of (of chosen) ≡ Some (raw_piece chosen)
insert-query = refl

insert-asked : is_one_query chosen ≡ true
insert-asked = refl

insert-target : has_fit_target (clauses (call.InsertInto (codes "t")) (of chosen)) ≡ true
insert-target = refl

insert-read : read (tokens (codes "INSERT INTO t (a FROM b) SELECT c, (d) FROM u WHERE e RETURNING id;"))
    ≡ (Word (codes "INSERT"), tokens (codes "INTO t (a FROM b)")) ∷ (Word (codes "SELECT"), tokens (codes "c, (d)")) ∷ (Word (codes "FROM"), tokens (codes "u"))
    ∷ (Word (codes "WHERE"), tokens (codes "e")) ∷ (Word (codes "RETURNING"), tokens (codes "id")) ∷ []
unfolding read
insert-read = refl

insert-clauses : insert_clauses (clauses (call.InsertInto (codes "t")) (of chosen)) (tokens chosen)
    ≡ (Word (codes "INSERT"), tokens (codes "INTO t (a FROM b)")) ∷ (Word (codes "SELECT"), tokens (codes "c, (d)")) ∷ (Word (codes "FROM"), tokens (codes "u"))
    ∷ (Word (codes "WHERE"), tokens (codes "e")) ∷ (Word (codes "RETURNING"), tokens (codes "id")) ∷ []
unfolding read
insert-clauses = refl

-- what precedes a query's first clause word belongs to INSERT
lead-row : lead_of (tokens (codes "WITH x AS (SELECT 1) SELECT a FROM x")) ≡ tokens (codes "WITH x AS (SELECT 1)")
lead-row = refl

lead-read : read (tokens (codes "INSERT INTO t (a) WITH x AS (SELECT 1) SELECT a FROM x;"))
    ≡ (Word (codes "INSERT"), tokens (codes "INTO t (a) WITH x AS (SELECT 1)")) ∷ (Word (codes "SELECT"), tokens (codes "a"))
    ∷ (Word (codes "FROM"), tokens (codes "x")) ∷ []
unfolding read
lead-read = refl

-- a reader ends at the first top-level UNION, and finds no RETURNING behind it
abbrev united : List ℕ
united = codes "SELECT c FROM u UNION SELECT d FROM v"

united-asked : is_one_query united ≡ false
united-asked = refl

united-read : read (tokens (codes "INSERT INTO t (a) SELECT c FROM u UNION SELECT d FROM v RETURNING id;"))
    ≡ (Word (codes "INSERT"), tokens (codes "INTO t (a)")) ∷ (Word (codes "SELECT"), tokens (codes "c")) ∷ (Word (codes "FROM"), tokens (codes "u")) ∷ []
unfolding read
united-read = refl

united-clauses : insert_clauses (clauses (call.InsertInto (codes "t")) (call.Field (codes "a") ∷ call.Select united ∷ call.ReturningId ∷ [])) (tokens united)
    ≡ (Word (codes "INSERT"), tokens (codes "INTO t (a)")) ∷ (Word (codes "SELECT"), tokens (codes "c")) ∷ (Word (codes "FROM"), tokens (codes "u")) ∷ []
unfolding read
united-clauses = refl

-- between brackets a UNION is no top-level one
inner_union-asked : is_one_query (codes "SELECT c FROM (SELECT d UNION SELECT e) AS s") ≡ true
inner_union-asked = refl

-- a query that isn't balanced draws RETURNING in
abbrev broken : List ℕ
broken = codes "SELECT (c"

broken-unbalanced : balanced broken ≡ false
broken-unbalanced = refl

broken-read : read (tokens (codes "INSERT INTO t (a) SELECT (c RETURNING id;"))
    ≡ (Word (codes "INSERT"), tokens (codes "INTO t (a)")) ∷ (Word (codes "SELECT"), tokens (codes "(c RETURNING id")) ∷ []
unfolding read
broken-read = refl

broken-clauses : insert_clauses (clauses (call.InsertInto (codes "t")) (call.Field (codes "a") ∷ call.Select broken ∷ call.ReturningId ∷ [])) (tokens broken)
    ≡ (Word (codes "INSERT"), tokens (codes "INTO t (a)")) ∷ (Word (codes "SELECT"), tokens (codes "(c")) ∷ (Word (codes "RETURNING"), tokens (codes "id")) ∷ []
unfolding read
broken-clauses = refl

-- a table with a clause word is not fit, nor is such a text behind RETURNING
table-invalid : has_fit_target (clauses (call.InsertInto (codes "t WHERE b")) (of chosen)) ≡ false
table-invalid = refl

returned-invalid : has_fit_target (clauses (call.InsertInto (codes "t")) (call.Select chosen ∷ call.Returning (codes "id FROM t") ∷ [])) ≡ false
returned-invalid = refl

-- ---- what `query` prints

-- a query with a union isn't one
abbrev joined : List ℕ
joined = codes "SELECT * FROM t UNION SELECT a FROM b"

joined-printed : statement (call.SelectFrom (codes "t")) (call.Union (codes "SELECT a FROM b") ∷ []) call.Query ≡ Ok joined
joined-printed = refl

joined-asked : is_one_query joined ≡ false
joined-asked = refl

-- nor is one whose table is a query with a union, which isn't fit
hidden-printed : statement (call.SelectFrom (codes "t UNION SELECT a FROM b")) [] call.Query ≡ Ok joined
hidden-printed = refl

hidden-invalid : has_fit_fragments (query fixed_piece (clauses (call.SelectFrom (codes "t UNION SELECT a FROM b")) [])) ≡ false
hidden-invalid = refl

-- ---- texts

-- a field may have clause words, and so may the query
texts-fit : has_fit_insert_texts (codes "t") (of chosen) ≡ true
texts-fit = refl

returned-texts : has_fit_insert_texts (codes "t") (call.Select chosen ∷ call.Returning (codes "id FROM t") ∷ []) ≡ false
returned-texts = refl

table-texts : has_fit_insert_texts (codes "t WHERE b") (of chosen) ≡ false
table-texts = refl
