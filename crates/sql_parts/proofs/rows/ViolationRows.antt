-- Worked rows of violations: the first reason that holds, by computing.
use Rattle.std.specs.Prelude.{◌≡◌, ℕ, List, Option, None, Some, codes, refl}
use Rattle.sql_parts.specs.Violations.{violation}
use Rattle.sql_parts.specs.declared.violations.Requirement.TheVariants.{Balanced, Fragment, Operand, TypedFragment, TypedOperand}
use Rattle.sql_parts.specs.declared.violations.Violation.{Violation}
use Rattle.sql_parts.specs.declared.violations.Violation.TheVariants.{Blank, Open, Semicolon, Brackets, ClauseWord, DialectWord, Joined, CaseWord}

-- why a text is not balanced, no fragment and no operand
abbrev why : List ℕ → Option Violation × Option Violation × Option Violation
unfolding violation
why text = (violation Balanced text, violation Fragment text, violation Operand text)

-- why it is none by its type
abbrev why_typed : List ℕ → Option Violation × Option Violation
unfolding violation
why_typed text = (violation TypedFragment text, violation TypedOperand text)

column : why (codes "a") ≡ (None, None, None)
unfolding violation
column = refl

comment_alone : why (codes "/* a */") ≡ (Some Blank, Some Blank, Some Blank)
unfolding violation
comment_alone = refl

open_quote : why (codes "(a; ' FROM") ≡ (Some Open, Some Open, Some Open)
unfolding violation
open_quote = refl

open_comment : why (codes "a -- b") ≡ (Some Open, Some Open, Some Open)
unfolding violation
open_comment = refl

two_statements : why (codes "a) FROM b; c") ≡ (Some Semicolon, Some Semicolon, Some Semicolon)
unfolding violation
two_statements = refl

closed_first : why (codes "a) OR (b") ≡ (Some Brackets, Some Brackets, Some Brackets)
unfolding violation
closed_first = refl

case_without_end : why (codes "CASE WHEN a THEN b") ≡ (Some Brackets, Some Brackets, Some Brackets)
unfolding violation
case_without_end = refl

union : why (codes "a OR b UNION SELECT c") ≡ (None, Some ClauseWord, Some ClauseWord)
unfolding violation
union = refl

always_true : why (codes "a OR 1=1") ≡ (None, None, Some Joined)
unfolding violation
always_true = refl

range : why (codes "a BETWEEN 1") ≡ (None, None, Some Joined)
unfolding violation
range = refl

negated : why (codes "NOT a") ≡ (None, None, Some Joined)
unfolding violation
negated = refl

in_brackets : why (codes "(a OR b FROM c)") ≡ (None, None, None)
unfolding violation
in_brackets = refl

quoted : why (codes "'a; b) FROM c OR d'") ≡ (None, None, None)
unfolding violation
quoted = refl

-- ---- words that begin a clause in some databases

into : why (codes "a INTO evil") ≡ (None, None, None)
unfolding violation
into = refl

-- each of them

typed_into : why_typed (codes "a INTO evil") ≡ (Some DialectWord, Some DialectWord)
unfolding violation
typed_into = refl

typed_intersect : why_typed (codes "true INTERSECT (SELECT b FROM secrets)") ≡ (Some DialectWord, Some DialectWord)
unfolding violation
typed_intersect = refl

typed_except : why_typed (codes "a EXCEPT (SELECT b)") ≡ (Some DialectWord, Some DialectWord)
unfolding violation
typed_except = refl

typed_minus : why_typed (codes "a MINUS (SELECT b)") ≡ (Some DialectWord, Some DialectWord)
unfolding violation
typed_minus = refl

typed_table : why_typed (codes "TABLE secrets") ≡ (Some DialectWord, Some DialectWord)
unfolding violation
typed_table = refl

typed_fetch : why_typed (codes "a FETCH FIRST ROW ONLY") ≡ (Some DialectWord, Some DialectWord)
unfolding violation
typed_fetch = refl

typed_for : why_typed (codes "a FOR SHARE") ≡ (Some DialectWord, Some DialectWord)
unfolding violation
typed_for = refl

typed_with : why_typed (codes "a WITH TIES") ≡ (Some DialectWord, Some DialectWord)
unfolding violation
typed_with = refl

typed_window : why_typed (codes "a WINDOW b AS (c)") ≡ (Some DialectWord, Some DialectWord)
unfolding violation
typed_window = refl

-- in small letters, and behind a bracket that is closed

small_letters : why_typed (codes "a into evil") ≡ (Some DialectWord, Some DialectWord)
unfolding violation
small_letters = refl

behind_brackets : why_typed (codes "count(a) window b AS (c)") ≡ (Some DialectWord, Some DialectWord)
unfolding violation
behind_brackets = refl

-- in brackets

nested_for : why_typed (codes "(a FOR 2)") ≡ (None, None)
unfolding violation
nested_for = refl

nested_with : why_typed (codes "CAST(a AS timestamp with time zone)") ≡ (None, None)
unfolding violation
nested_with = refl

nested_queries : why_typed (codes "(a INTO b INTERSECT c EXCEPT d MINUS TABLE e FETCH f WINDOW g)") ≡ (None, None)
unfolding violation
nested_queries = refl

-- FROM and FOR in the brackets of a call

substring : why_typed (codes "substring(a FROM 1 FOR 2)") ≡ (None, None)
unfolding violation
substring = refl

-- in longer words, names between quotes and texts

longer_words : why_typed (codes "format + into_x + within + tables + minus1 + prefetch") ≡ (None, None)
unfolding violation
longer_words = refl

quoted_names : why_typed (codes "\"into\" + `for` + [with]") ≡ (None, None)
unfolding violation
quoted_names = refl

string : why_typed (codes "'a INTO b'") ≡ (None, None)
unfolding violation
string = refl

-- the order of the reasons

clause_first : why_typed (codes "a INTO b FROM c") ≡ (Some ClauseWord, Some ClauseWord)
unfolding violation
clause_first = refl

dialect_first : why_typed (codes "a OR b INTO c") ≡ (Some DialectWord, Some DialectWord)
unfolding violation
dialect_first = refl

only_joined : why_typed (codes "a OR b") ≡ (None, Some Joined)
unfolding violation
only_joined = refl

brackets_first : why_typed (codes "a) INTO (b") ≡ (Some Brackets, Some Brackets)
unfolding violation
brackets_first = refl

-- ---- CASE and END, which a database may read as names

case_union : why_typed (codes ":case IS NULL UNION SELECT b FROM secrets WHERE :end IS NULL") ≡ (Some CaseWord, Some CaseWord)
unfolding violation
case_union = refl

case_into : why_typed (codes "b AS case INTO evil FROM secrets UNION SELECT a AS end") ≡ (Some CaseWord, Some CaseWord)
unfolding violation
case_into = refl

case_returning : why_typed (codes "@case IS NULL RETURNING (SELECT max(b) FROM secrets WHERE @end IS NULL)") ≡ (Some CaseWord, Some CaseWord)
unfolding violation
case_returning = refl

case_brackets : why_typed (codes "@case) OR 1=1 OR a IN (@end") ≡ (Some CaseWord, Some Joined)
unfolding violation
case_brackets = refl

query_in_case : why_typed (codes "CASE WHEN a IN (SELECT b FROM c) THEN d ELSE e END") ≡ (None, None)
unfolding violation
query_in_case = refl

or_in_case : why_typed (codes "@case OR @end") ≡ (None, None)
unfolding violation
or_in_case = refl
