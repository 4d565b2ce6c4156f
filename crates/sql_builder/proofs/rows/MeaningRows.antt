-- Worked rows of clauses that parse back and of the truth of WHERE: what the definitions give, by computing.
use Rattle.sql_builder.proofs.Imports.{◌≡◌, [], ◌∷◌, codes, false, refl, true, ℕ, List, map, Ok, Word, tokens, Raw, Pieces, And, Or, balanced}
use Rattle.sql_builder.specs.{clauses, CallText, Query, SelectFrom, Sql, Subquery, SubqueryAs, Union, InQuery, sql, pieces_tokens, fixed_piece}
use Rattle.sql_builder.specs.{has_fit_conditions, has_fit_fragments, has_fit_texts, is_fit, piece_clauses, read, clause_bodies, False, True, Unknown, truth}
use Rattle.sql_builder.specs.{Truth, Valuation, IsValued, brackets_and_not, range_and_case, a_without_c, Bare, statement, makes_table}
use Rattle.sql_builder.specs.Calls as call

-- DELETE FROM t WHERE a OR b;
abbrev deleted : Pieces
deleted = sql fixed_piece (clauses (call.DeleteFrom (codes "t")) (call.Cond And (Raw (codes "a")) ∷ call.Cond Or (Raw (codes "b")) ∷ []))

delete-clauses : piece_clauses deleted ≡ (Word (codes "DELETE"), []) ∷ (Word (codes "FROM"), Word (codes "t") ∷ [])
    ∷ (Word (codes "WHERE"), Word (codes "a") ∷ Word (codes "OR") ∷ Word (codes "b") ∷ []) ∷ []
unfolding piece_clauses
delete-clauses = refl

delete-read : read (tokens (codes "DELETE FROM t WHERE a OR b;")) ≡ piece_clauses deleted
unfolding piece_clauses read
delete-read = refl

-- DELETE FROM t WHERE a OR b RETURNING id;
abbrev returned : Pieces
returned = sql fixed_piece (clauses (call.DeleteFrom (codes "t"))
    (call.Cond And (Raw (codes "a")) ∷ call.Cond Or (Raw (codes "b")) ∷ call.Returning (codes "id") ∷ []))

returned-clauses : piece_clauses returned
    ≡ (Word (codes "DELETE"), []) ∷ (Word (codes "FROM"), Word (codes "t") ∷ [])
    ∷ (Word (codes "WHERE"), Word (codes "a") ∷ Word (codes "OR") ∷ Word (codes "b") ∷ []) ∷ (Word (codes "RETURNING"), Word (codes "id") ∷ []) ∷ []
unfolding piece_clauses
returned-clauses = refl

returned-read : read (tokens (codes "DELETE FROM t WHERE a OR b RETURNING id;")) ≡ piece_clauses returned
unfolding piece_clauses read
returned-read = refl

-- SELECT * FROM t WHERE ((a) OR (b)) AND (NOT c AND d) UNION SELECT x FROM y WHERE z; the queries behind UNION may have clause words
abbrev united : Pieces
united =
    sql fixed_piece (clauses (call.SelectFrom (codes "t"))
    (call.Cond And (Raw (codes "(a) OR (b)")) ∷ call.Union (codes "SELECT x FROM y WHERE z") ∷ call.Cond And (Raw (codes "NOT c AND d")) ∷ []))

united-read : read (pieces_tokens united) ≡ piece_clauses united
unfolding piece_clauses read
united-read = refl

united-fit : has_fit_fragments united ≡ true
united-fit = refl

pub unknown_or : IsValued (range_and_case False) (codes "p OR q") Unknown
unfolding truth
unknown_or = refl

pub unknown_not : IsValued (range_and_case False) (codes "NOT (p OR q)") Unknown
unfolding truth
unknown_not = refl

pub unknown_group : IsValued (range_and_case False) (codes "x BETWEEN 1 AND 2 OR NOT (p OR q)") Unknown
unfolding truth
unknown_group = refl

pub true_group : IsValued (range_and_case False) (codes "CASE WHEN a OR b THEN c END = 1") True
unfolding truth
true_group = refl

pub unknown_whole : IsValued (range_and_case False) (codes "(x BETWEEN 1 AND 2 OR NOT (p OR q)) AND (CASE WHEN a OR b THEN c END = 1)") Unknown
unfolding truth
unknown_whole = refl

pub false_group : IsValued (range_and_case True) (codes "x BETWEEN 1 AND 2 OR NOT (p OR q)") False
unfolding truth
false_group = refl

pub false_whole : IsValued (range_and_case True) (codes "(x BETWEEN 1 AND 2 OR NOT (p OR q)) AND (CASE WHEN a OR b THEN c END = 1)") False
unfolding truth
false_whole = refl

pub own_brackets : IsValued brackets_and_not (codes "(a) OR (b)") True
unfolding truth
own_brackets = refl

pub own_not : IsValued brackets_and_not (codes "NOT c AND d") Unknown
unfolding truth
own_not = refl

pub own_whole : IsValued brackets_and_not (codes "((a) OR (b)) AND (NOT c AND d)") Unknown
unfolding truth
own_whole = refl

pub with_brackets : IsValued a_without_c (codes "(a OR b) AND (c)") False
unfolding truth
with_brackets = refl

pub without_brackets : IsValued a_without_c (codes "a OR b AND c") True
unfolding truth
without_brackets = refl

-- the whole statements, as they parse back
abbrev where_of : Valuation → List ℕ → List Truth
where_of facts text = map (truth facts) (clause_bodies (codes "WHERE") (read (tokens text)))

whole-unknown : where_of (range_and_case False) (codes "SELECT * FROM t WHERE (x BETWEEN 1 AND 2 OR NOT (p OR q)) AND (CASE WHEN a OR b THEN c END = 1);")
    ≡ Unknown ∷ []
unfolding read truth
whole-unknown = refl

whole-own : where_of brackets_and_not (codes "SELECT * FROM t WHERE ((a) OR (b)) AND (NOT c AND d);") ≡ Unknown ∷ []
unfolding read truth
whole-own = refl

-- the clause words of each kind of statement, and their bodies
insert-read : read (tokens (codes "INSERT INTO t (a, b) VALUES (1, 2) RETURNING id;"))
    ≡ (Word (codes "INSERT"), tokens (codes "INTO t (a, b)")) ∷ (Word (codes "VALUES"), tokens (codes "(1, 2)"))
    ∷ (Word (codes "RETURNING"), tokens (codes "id")) ∷ []
unfolding read
insert-read = refl

update-read : read (tokens (codes "UPDATE t SET a = 1, b = 'SET' WHERE c RETURNING id;"))
    ≡ (Word (codes "UPDATE"), tokens (codes "t")) ∷ (Word (codes "SET"), tokens (codes "a = 1, b = 'SET'")) ∷ (Word (codes "WHERE"), tokens (codes "c"))
    ∷ (Word (codes "RETURNING"), tokens (codes "id")) ∷ []
unfolding read
update-read = refl

query-read : read (tokens (codes "SELECT a FROM t GROUP BY a HAVING b ORDER BY a DESC LIMIT 3 OFFSET 2 UNION SELECT c"))
    ≡ (Word (codes "SELECT"), tokens (codes "a")) ∷ (Word (codes "FROM"), tokens (codes "t")) ∷ (Word (codes "GROUP"), tokens (codes "BY a"))
    ∷ (Word (codes "HAVING"), tokens (codes "b")) ∷ (Word (codes "ORDER"), tokens (codes "BY a DESC")) ∷ (Word (codes "LIMIT"), tokens (codes "3"))
    ∷ (Word (codes "OFFSET"), tokens (codes "2")) ∷ []
unfolding read
query-read = refl

-- a query in IN's brackets may have clause words, a table may not
in_query-fit : has_fit_fragments (sql fixed_piece
    (clauses (call.DeleteFrom (codes "t")) (call.Cond And (InQuery true (codes "a") (codes "SELECT b FROM c")) ∷ []))) ≡ true
in_query-fit = refl

table-invalid : has_fit_fragments (sql fixed_piece (clauses (call.DeleteFrom (codes "t WHERE b")) [])) ≡ false
table-invalid = refl

-- in the brackets round a group a clause word is no top-level one, and the clauses parse back; the truth of WHERE asks for more
abbrev queried : Pieces
queried = sql fixed_piece (clauses (call.DeleteFrom (codes "t")) (call.Cond And (Raw (codes "x FROM y")) ∷ call.Cond And (Raw (codes "p")) ∷ []))

group-fit : has_fit_fragments queried ≡ true
group-fit = refl

group-invalid : has_fit_conditions (call.Cond And (Raw (codes "x FROM y")) ∷ call.Cond And (Raw (codes "p")) ∷ []) ≡ false
group-invalid = refl

-- a field of an INSERT may hold clause words, where `sql` prints it; the same field of a query may not
abbrev inserted : List CallText
inserted = call.Field (codes "a FROM b") ∷ call.Values (codes "1" ∷ []) ∷ []

insert-fit : has_fit_texts (call.InsertInto (codes "t")) inserted call.Sql ≡ true
insert-fit = refl

query-invalid : has_fit_texts (call.InsertInto (codes "t")) inserted call.Query ≡ false
query-invalid = refl

-- ---- queries between brackets, as tables

named : statement (SelectFrom (codes "t")) (Union (codes "SELECT a FROM b") ∷ []) (SubqueryAs (codes "s"))
    ≡ Ok (codes "(SELECT * FROM t UNION SELECT a FROM b) AS s")
named = refl

named-makes : makes_table (SubqueryAs (codes "s")) ≡ true
named-makes = refl

named-fit : is_fit (Bare (codes "(SELECT * FROM t UNION SELECT a FROM b) AS s")) ≡ true
named-fit = refl

bare-fit : is_fit (Bare (codes "(SELECT * FROM t)")) ≡ true
bare-fit = refl

-- so it may be a table, where the query without its brackets may not
table-fit : has_fit_texts (SelectFrom (codes "(SELECT * FROM t) AS s")) [] Sql ≡ true
table-fit = refl

bare_query-invalid : has_fit_texts (SelectFrom (codes "SELECT * FROM t")) [] Sql ≡ false
bare_query-invalid = refl

query-makes : makes_table Query ≡ false
query-makes = refl

-- a name with a clause word has it in the text too, which is balanced none the less
filtered : statement (SelectFrom (codes "t")) [] (SubqueryAs (codes "s WHERE a")) ≡ Ok (codes "(SELECT * FROM t) AS s WHERE a")
filtered = refl

filtered-makes : makes_table (SubqueryAs (codes "s WHERE a")) ≡ false
filtered-makes = refl

filtered-balanced : balanced (codes "(SELECT * FROM t) AS s WHERE a") ≡ true
filtered-balanced = refl

filtered-invalid : is_fit (Bare (codes "(SELECT * FROM t) AS s WHERE a")) ≡ false
filtered-invalid = refl

-- a fragment that isn't balanced lets a clause word out
broken : statement (SelectFrom (codes "t) WHERE (a")) [] Subquery ≡ Ok (codes "(SELECT * FROM t) WHERE (a)")
broken = refl

broken-invalid : is_fit (Bare (codes "(SELECT * FROM t) WHERE (a)")) ≡ false
broken-invalid = refl
