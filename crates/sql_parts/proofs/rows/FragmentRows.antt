-- Worked rows of fragments: what the definitions give, by computing.
use Rattle.std.specs.Prelude.{◌≡◌, ℕ, Bool, List, true, false, codes, refl}
use Rattle.sql_parts.specs.Fragments.{balanced, dangling, operand, has_clause_word, has_dialect_word}

-- whether a text is balanced, dangles, is an operand and has a clause word
abbrev tests : List ℕ → Bool × Bool × Bool × Bool
tests text = (balanced text, dangling text, operand text, has_clause_word text)

two_statements : tests (codes "a; b") ≡ (false, false, false, false)
two_statements = refl

or_last : tests (codes "a OR") ≡ (true, true, false, false)
or_last = refl

range_and : tests (codes "x BETWEEN 1 AND 2 AND y") ≡ (true, false, false, false)
range_and = refl

in_brackets : tests (codes "(a OR b)") ≡ (true, false, true, false)
in_brackets = refl

either : tests (codes "a OR b") ≡ (true, false, false, false)
either = refl

from_clause : tests (codes "a FROM b") ≡ (true, false, true, true)
from_clause = refl

query : tests (codes "(SELECT 1)") ≡ (true, false, true, false)
query = refl

closed_first : tests (codes "a)(b") ≡ (false, false, false, false)
closed_first = refl

mixed : tests (codes "(a END") ≡ (true, false, true, false)
mixed = refl

case_or : tests (codes "CASE WHEN a OR b THEN c END") ≡ (true, false, true, false)
case_or = refl

top_level_again : tests (codes "a) ( FROM b") ≡ (false, false, false, true)
top_level_again = refl

range_cut : tests (codes "(x BETWEEN 1) AND 2") ≡ (true, true, false, false)
range_cut = refl

-- ---- words that begin a clause in some databases, which are no clause keywords of the rules

-- whether a text is balanced and an operand, and has a clause keyword and such a word
abbrev dialect : List ℕ → Bool × Bool × Bool × Bool
dialect text = (balanced text, operand text, has_clause_word text, has_dialect_word text)

into : dialect (codes "a INTO b") ≡ (true, true, false, true)
into = refl

intersect : dialect (codes "a INTERSECT b") ≡ (true, true, false, true)
intersect = refl

except : dialect (codes "a EXCEPT b") ≡ (true, true, false, true)
except = refl

minus : dialect (codes "a MINUS b") ≡ (true, true, false, true)
minus = refl

table : dialect (codes "a TABLE b") ≡ (true, true, false, true)
table = refl

fetch : dialect (codes "a FETCH b") ≡ (true, true, false, true)
fetch = refl

for : dialect (codes "a FOR b") ≡ (true, true, false, true)
for = refl

with : dialect (codes "a WITH b") ≡ (true, true, false, true)
with = refl

window : dialect (codes "a WINDOW b") ≡ (true, true, false, true)
window = refl

nested_into : dialect (codes "(a INTO b)") ≡ (true, true, false, false)
nested_into = refl

nested_intersect : dialect (codes "(a INTERSECT b)") ≡ (true, true, false, false)
nested_intersect = refl

nested_except : dialect (codes "(a EXCEPT b)") ≡ (true, true, false, false)
nested_except = refl

nested_minus : dialect (codes "(a MINUS b)") ≡ (true, true, false, false)
nested_minus = refl

nested_table : dialect (codes "(a TABLE b)") ≡ (true, true, false, false)
nested_table = refl

nested_fetch : dialect (codes "(a FETCH b)") ≡ (true, true, false, false)
nested_fetch = refl

nested_for : dialect (codes "(a FOR b)") ≡ (true, true, false, false)
nested_for = refl

nested_with : dialect (codes "(a WITH b)") ≡ (true, true, false, false)
nested_with = refl

nested_window : dialect (codes "(a WINDOW b)") ≡ (true, true, false, false)
nested_window = refl

small_into : dialect (codes "a into b") ≡ (true, true, false, true)
small_into = refl

small_intersect : dialect (codes "a intersect b") ≡ (true, true, false, true)
small_intersect = refl

small_except : dialect (codes "a except b") ≡ (true, true, false, true)
small_except = refl

small_minus : dialect (codes "a minus b") ≡ (true, true, false, true)
small_minus = refl

small_table : dialect (codes "a table b") ≡ (true, true, false, true)
small_table = refl

small_fetch : dialect (codes "a fetch b") ≡ (true, true, false, true)
small_fetch = refl

small_for : dialect (codes "a for b") ≡ (true, true, false, true)
small_for = refl

small_with : dialect (codes "a with b") ≡ (true, true, false, true)
small_with = refl

small_window : dialect (codes "a window b") ≡ (true, true, false, true)
small_window = refl

longer_words : dialect (codes "format into_x intersects exceptional minus1 tables prefetch forum within windows") ≡ (true, true, false, false)
longer_words = refl

quoted_names : dialect (codes "\"into\" `intersect` [except] \"for\"") ≡ (true, true, false, false)
quoted_names = refl

string : dialect (codes "'a INTO b'") ≡ (true, true, false, false)
string = refl

comment : dialect (codes "a /* INTO */") ≡ (true, true, false, false)
comment = refl

alone : dialect (codes "into") ≡ (true, true, false, true)
alone = refl

between_brackets : dialect (codes "(a) INTO (b)") ≡ (true, true, false, true)
between_brackets = refl

in_case : dialect (codes "CASE WHEN a THEN b FOR c END") ≡ (true, true, false, false)
in_case = refl

unbalanced : dialect (codes "a) INTO (b") ≡ (false, false, false, false)
unbalanced = refl

top_level_into_again : dialect (codes "a) ( INTO b") ≡ (false, false, false, true)
top_level_into_again = refl
