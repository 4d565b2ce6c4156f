-- Worked rows of clauses behind a text, and of queries behind a UNION: what the definitions give, by computing.
use Rattle.sql_typed.proofs.Imports.{◌≡◌, ℕ, List, [], ◌∷◌, ◌++◌, codes, refl, true, false, filled, holes_apart, quoted, outline, Word, tokens, conflict_text, inserted_text, is_whole, lock_text, may_follow, may_join, named_text, set_text}
use Rattle.sql_typed.proofs.Imports.{Bool, list_all, CallText, Field, GroupBy, Limit, Offset, OrderAsc, OrderDesc, SelectFrom, Union, UnionAll, made_by, united_text}
use Rattle.sql_builder.specs.Unions.{needs_brackets}
use Rattle.sql_typed.specs.Whole.{combined_text}
use Rattle.sql_typed.specs.declared.printed.Lock.TheVariants.{Update, Share}
use Rattle.sql_typed.specs.declared.printed.Wait.TheVariants.{NoWait, SkipLocked}

tests : (is_whole (codes "SELECT 'a;b'") ≡ true)
    × (is_whole (codes "SELECT 'a") ≡ false)
    × (is_whole (codes "SELECT a; DROP TABLE t") ≡ false)
    × (may_follow (codes "AND") ≡ false)
    × (may_join (codes " SET") ≡ false)
tests = (refl, refl, refl, refl, refl)

clauses_are : (conflict_text (codes "a" ∷ codes "b" ∷ []) ≡ codes " ON CONFLICT (a, b)")
    × (conflict_text [] ≡ codes " ON CONFLICT")
    × (inserted_text (codes ", ") (codes "a") ≡ codes ", a = VALUES(a)")
    × (named_text (codes "WITH ") (codes "q") (codes "SELECT 1") ≡ codes "WITH q AS (SELECT 1)")
    × (lock_text Update SkipLocked ≡ codes " FOR UPDATE SKIP LOCKED")
    × (lock_text Share NoWait ≡ codes " FOR SHARE NOWAIT")
    × (combined_text (codes " EXCEPT ") false (codes "SELECT 1") true (codes "SELECT a FROM t LIMIT 1")
    ≡ codes "SELECT 1 EXCEPT SELECT * FROM (SELECT a FROM t LIMIT 1) AS u")
clauses_are = (refl, refl, refl, refl, refl, refl, refl)

-- a SELECT of these calls
abbrev needs : List CallText → Bool
needs calls = needs_brackets (made_by (SelectFrom (codes "t")) calls)

united : (united_text false (codes "SELECT a FROM t") ≡ codes "SELECT a FROM t")
    × (united_text true (codes "SELECT a FROM t LIMIT 1") ≡ codes "SELECT * FROM (SELECT a FROM t LIMIT 1) AS u")
    × (needs (Field (codes "a") ∷ GroupBy (codes "a") ∷ []) ≡ false)
    × (list_all needs
    ((Limit (codes "1") ∷ Field (codes "a") ∷ []) ∷ (Offset (codes "1") ∷ []) ∷ (OrderAsc (codes "a") ∷ []) ∷ (OrderDesc (codes "a") ∷ [])
    ∷ (Union (codes "SELECT 1") ∷ []) ∷ (UnionAll (codes "SELECT 1") ∷ []) ∷ []) ≡ true)
united = (refl, refl, refl, refl)

-- ---- texts of strings

-- an upsert that sets a text
abbrev upsert : List ℕ → List ℕ
upsert text = codes "INSERT INTO t (a) VALUES (1) ON CONFLICT (a)" ++ set_text (codes " DO UPDATE SET ") (codes "b") (quoted text)

-- as a template, whose words join
as_a_template : (upsert (codes "c")
    ≡ filled (codes "INSERT INTO t (a) VALUES (1)" ∷ codes "b" ∷ codes "'c'" ∷ []) (codes "? ON CONFLICT (a) DO UPDATE SET ? = ?"))
    × (holes_apart (codes "? ON CONFLICT (a) DO UPDATE SET ? = ?") ≡ true)
as_a_template = (refl, refl)

hostile : (outline (upsert (codes "c' WHERE 1 = 0; DROP TABLE t; --")) ≡ outline (upsert []))
    × (outline (filled (quoted (codes "?' OR '1' = '1") ∷ []) (codes "DELETE FROM t WHERE a = ?;")) ≡ tokens (codes "DELETE FROM t WHERE a = '';"))
hostile = (refl, refl)

-- no tokens stay where words touch
touching : (holes_apart (codes "? ON CONFLICT (a) DO UPDATE SET? = ?") ≡ false)
    × (tokens (filled (codes "t" ∷ codes "b" ∷ []) (codes "? SET?")) ≡ Word (codes "t") ∷ Word (codes "SETb") ∷ [])
touching = (refl, refl)
