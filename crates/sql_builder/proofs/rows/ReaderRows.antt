-- Worked rows of what readers make of statements, and of a fragment that leaves a comment open.
use Rattle.sql_builder.proofs.Imports.{◌≡◌, ◌++◌, ℕ, Bool, List, [], ◌∷◌, codes, false, refl, true, list_all, and_from, eqb-false, token_reader, Single}
use Rattle.sql_builder.proofs.Imports.{opens-every, Clauses, Raw, parts_at, DeleteFrom, And, Plain}
use Rattle.sql_parts.specs.Readers.{Part, Reader, IsInsideAtEach, between_parts, marks, outer_states}
use Rattle.sql_builder.specs.{CallText, Cond, SelectFrom, SetStr, Sql, UpdateTable, new_clauses, Like, DifferInQuotedTexts, answer_of, OpensStrings}
use Rattle.sql_builder.specs.{constant_part, quoted_bytes, text_of_parts}
use Rattle.sql_builder.proofs.interference.{fragments-alike}

abbrev every : ℕ → Bool
every byte = true

-- UPDATE t SET a = '..';
abbrev setting : List ℕ → List CallText
setting text = SetStr (codes "a") text ∷ []

bytes_of : quoted_bytes (UpdateTable (codes "t")) (setting (codes "x'")) Sql
    ≡ false ∷ false ∷ false ∷ false ∷ false ∷ false ∷ false ∷ false ∷ false ∷ false ∷ false ∷ false ∷ false ∷ false ∷ false ∷ false ∷ false ∷ false
    ∷ true ∷ true ∷ true ∷ false ∷ false ∷ []
bytes_of = refl

opens_of : OpensStrings token_reader every 0 (UpdateTable (codes "t")) (setting []) Sql
opens_of = (tt, (tt, (tt, (tt, (tt, (tt, (opens-every Single, (tt, (tt, tt)))))))))

hostile_text : answer_of (outer_states token_reader 0 (quoted_bytes (UpdateTable (codes "t")) (setting (codes "x'; --")) Sql)) (UpdateTable (codes "t"))
    (setting (codes "x'; --")) Sql
    ≡ answer_of (outer_states token_reader 0 (quoted_bytes (UpdateTable (codes "t")) (setting []) Sql)) (UpdateTable (codes "t")) (setting []) Sql
hostile_text = refl

-- a fragment that leaves a comment open: no string is opened behind it
abbrev after_a_comment : List ℕ → List CallText
after_a_comment text = Cond And (Raw (codes "a /*")) ∷ Cond And (Like false Plain (codes "b") text) ∷ []

only_in_the_mask : DifferInQuotedTexts (after_a_comment []) (after_a_comment (codes "*/"))
only_in_the_mask = refl

no_string : OpensStrings token_reader every 0 (SelectFrom (codes "t")) (after_a_comment []) Sql → ⊥
no_string opens = eqb-false 42 1 refl (opens.1.1.1.1.1.1.1.1.1.1.1.1.1.0.stays 42 refl (eqb-false 42 39 refl))

-- a text that is quoted inside of a fragment
abbrev deleting : List ℕ → Clauses (List Part)
deleting text = record (new_clauses DeleteFrom (constant_part (codes "t")) []) {
  groups = (constant_part (codes "a = ") ++ between_parts Single text) ∷ [];
}

text_of : text_of_parts Sql (deleting (codes "it's")) ≡ codes "DELETE FROM t WHERE a = 'it''s';"
text_of = refl

parts_of : parts_at Sql (deleting (codes "b"))
    ≡ constant_part (codes "DELETE FROM ") ++ (constant_part (codes "t") ++ (constant_part (codes " WHERE ") ++ (constant_part (codes "a = ")
    ++ (between_parts Single (codes "b") ++ constant_part (codes ";")))))
parts_of = refl

-- whatever the text, any reader that opens a string at it where there is none goes through the same states outside of it
alike : (next : Reader) (plain : ℕ → Bool) (state : ℕ) (text : List ℕ) → list_all plain text ≡ true
    → IsInsideAtEach next plain state (parts_at Sql (deleting []))
    → outer_states next state (marks (parts_at Sql (deleting []))) (text_of_parts Sql (deleting []))
    ≡ outer_states next state (marks (parts_at Sql (deleting text))) (text_of_parts Sql (deleting text))
alike next plain state text all inside = (fragments-alike next plain state Sql (deleting []) (deleting text) refl refl (and_from _ _ all refl) inside).1
