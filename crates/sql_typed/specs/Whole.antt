-- Texts of which statements are made, one behind another, and what clauses print that the builder hasn't.
use Rattle.std.specs.Prelude.{◌≡◌, ℕ, ◌&&◌, ◌++◌, Bool, not, IsTrue, List, [], ◌∷◌, codes}
use Rattle.sql_parts.specs.StringTexts.{outline}
use Rattle.sql_parts.specs.Text.{join_with}
use Rattle.sql_parts.specs.Tokens.{begins_with, closed, ends_with, has_semicolon, is_edge}
use Rattle.sql_builder.specs.Builder.{ClauseTexts}
use Rattle.sql_builder.specs.Calls.{CallText, Select, Sql}
use Rattle.sql_builder.specs.Statement.{text_at}
use Rattle.sql_typed.specs.declared.printed.Lock.{Lock}
use Rattle.sql_typed.specs.declared.printed.Lock.TheVariants as lock
use Rattle.sql_typed.specs.declared.printed.Wait.{Wait}
use Rattle.sql_typed.specs.declared.printed.Wait.TheVariants as wait
use Rattle.sql_typed.specs.Unions.{united_text}

-- each quote and comment is closed, and there is no `;`
abbrev pub is_whole : List ℕ → Bool
is_whole text = closed text && not (has_semicolon text)

-- words that may follow such a text
abbrev pub may_follow : List ℕ → Bool
may_follow words = is_whole words && begins_with is_edge words

-- and that such a text may follow
abbrev pub may_join : List ℕ → Bool
may_join words = may_follow words && ends_with is_edge words

-- what `sql` prints is such a text, and `;`
abbrev pub HasWholeFront : ClauseTexts → Type 0
HasWholeFront r = (front : List ℕ) × (text_at Sql r ≡ front ++ codes ";") × IsTrue (is_whole front)

-- ON CONFLICT, with the columns where there are some
abbrev pub conflict_text : List (List ℕ) → List ℕ
conflict_text [] = codes " ON CONFLICT"
conflict_text (column ∷ columns) = codes " ON CONFLICT (" ++ (join_with (codes ", ") (column ∷ columns) ++ codes ")")

-- a field that is set to a value, behind these words
abbrev pub set_text : List ℕ → List ℕ → List ℕ → List ℕ
set_text words field value = words ++ (field ++ (codes " = " ++ value))

-- a field that is set to the value that was to be inserted, behind these words
abbrev pub inserted_text : List ℕ → List ℕ → List ℕ
inserted_text words field = words ++ (field ++ (codes " = VALUES(" ++ (field ++ codes ")")))

-- a query under a name, behind these words
abbrev pub named_text : List ℕ → List ℕ → List ℕ → List ℕ
named_text words name query = words ++ (name ++ (codes " AS (" ++ (query ++ codes ")")))

-- a lock, and what is done with rows that another has locked
abbrev pub lock_text : Lock → Wait → List ℕ
lock_text kind wanted = of_lock kind ++ of_wait wanted
  where
    of_lock : Lock → List ℕ
    of_lock lock.Update = codes " FOR UPDATE"
    of_lock lock.Share = codes " FOR SHARE"

    of_wait : Wait → List ℕ
    of_wait wait.Block = []
    of_wait wait.SkipLocked = codes " SKIP LOCKED"
    of_wait wait.NoWait = codes " NOWAIT"

-- calls, and then that of a query for an INSERT
abbrev pub asking : List ℕ → List CallText → List CallText
asking query calls = calls ++ Select query ∷ []

-- two queries, with an operator between them
abbrev pub combined_text : List ℕ → Bool → List ℕ → Bool → List ℕ → List ℕ
combined_text words needs query other_needs other = united_text needs query ++ (words ++ united_text other_needs other)

-- ---- texts of strings

-- statements that are the same but for texts of strings are so without their `;`
abbrev pub FrontsFollowTheirStatements : Type 0
FrontsFollowTheirStatements = (one other : List ℕ) → IsTrue (closed one) → IsTrue (closed other)
    → outline (one ++ codes ";") ≡ outline (other ++ codes ";") → outline one ≡ outline other
