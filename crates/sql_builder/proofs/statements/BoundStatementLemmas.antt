-- What is bound to a statement is bound to each of its pieces: the builder's own words have no `$`, and begin with none and no digit.
use Rattle.sql_builder.proofs.Imports.{◌≡◌, ℕ, Bool, true, false, not, List, [], ◌∷◌, ◌++◌, Option, Some, None, codes, refl, sym, ap, ◌∙◌, inl, inr}
use Rattle.sql_builder.proofs.Imports.{append_assoc, append-nil, ◌==◌, IfOk, list_all, list_any, and_parts, cases_Bool, eqb-true, false≢true, not-true}
use Rattle.sql_builder.proofs.Imports.{flat_map-append, LiteralValue, is_taken, with_values, quoted, Nums, Replacement, bound, begins_with, is_edge, SqlBuilderError}
use Rattle.sql_builder.proofs.Imports.{texts-apart, unmarked-front, Clauses, Pieces}
use Rattle.sql_builder.specs.{StatementsBindByClauses, StatementsBindByPieces, finish_with_values, piece_with_values, pieces_with_values, CallText, FinishText}
use Rattle.sql_builder.specs.{StartText, Sql, Query, QueryValues, Subquery, SubqueryAs, clauses, map_clauses, ConditionText, condition_bytes, condition_pieces}
use Rattle.sql_builder.specs.{not_text, byte_units, concat_sections, query, statement_sections, union_opening, in_brackets, fixed_piece, piece_text}
use Rattle.sql_builder.specs.{pieces_text, quoted_piece, raw_piece, as_fragments, error_at, layout_at, text_at, unless_error}
use Rattle.sql_builder.proofs.conditions.{condition_printed}
use Rattle.sql_builder.proofs.fragments.ClauseFacts.{PartsAre, raw-parts}
use Rattle.sql_builder.proofs.fragments.NeutralLemmas.{any, by_any, clauses-any, condition-any}
use Rattle.sql_builder.proofs.fragments.PropertyLemmas.{PreservedByCalls, PreservedByWords, are_own, lacks_dollar, own-unmarked, whatever}
use Rattle.sql_builder.proofs.interference.OutlineLemmas.{maps-clauses}
use Rattle.sql_builder.proofs.pieces.{layout_in_form, PreservedByLayout, query-laid, statement-laid, values-laid, fragments-printed}

-- no edge is a digit or a `$`
one-untaken : (bytes : List ℕ) → list_all (λ byte. not (is_taken byte)) bytes ≡ true → (byte : ℕ) → list_any (λ other. byte == other) bytes ≡ true
    → is_taken byte ≡ false
one-untaken [] none byte is = absurd (false≢true is)
one-untaken (other ∷ others) none byte is =
    let both = and_parts (not (is_taken other)) _ none in
    elim (cases_Bool (byte == other)) [
      | inl same ↦ ap is_taken (eqb-true byte other same) ∙ not-true _ both.0
      | inr differs ↦ one-untaken others both.1 byte (rw differs at is)
    ]

pub edge-untaken : (words text : List ℕ) → begins_with is_edge words ≡ true → begins_with is_taken (words ++ text) ≡ false
edge-untaken [] text begins = absurd (false≢true begins)
edge-untaken (byte ∷ words) text begins = one-untaken (codes " \t\n\r(),;=<>.") refl byte begins

module _ (count : ℕ) (literals : Replacement → LiteralValue) where
  abbrev bound_text : List ℕ → List ℕ
  bound_text text = with_values count literals text

  abbrev bound_pieces : Pieces → List ℕ
  bound_pieces ps = pieces_with_values count literals ps

  -- pieces before a text that begins with neither a digit nor a `$`
  abbrev Joins : Pieces → Type 0
  Joins ps = (rest : List ℕ) → begins_with is_taken rest ≡ false → bound_text (pieces_text ps ++ rest) ≡ bound_pieces ps ++ bound_text rest

  -- and that may follow a fragment
  abbrev Follows : Pieces → Type 0
  Follows ps = Joins ps × ((rest : List ℕ) → begins_with is_taken rest ≡ false → begins_with is_taken (pieces_text ps ++ rest) ≡ false)

  joins-append : (x y : Pieces) → Joins x → Follows y → Joins (x ++ y)
  joins-append x y one other rest clear =
      ap (λ text. bound_text (text ++ rest)) (flat_map-append piece_text x y)
      ∙ ap bound_text (append_assoc (pieces_text x) (pieces_text y) rest)
      ∙ one (pieces_text y ++ rest) (other.1 rest clear)
      ∙ ap (λ text. bound_pieces x ++ text) (other.0 rest clear)
      ∙ sym (append_assoc (bound_pieces x) (bound_pieces y) (bound_text rest))
      ∙ ap (λ text. text ++ bound_text rest) (sym (flat_map-append (piece_with_values count literals) x y))

  follows-append : (x y : Pieces) → Follows x → Follows y → Follows (x ++ y)
  follows-append x y one other = (
    joins-append x y one.0 other,
    λ rest clear. ap (λ text. begins_with is_taken (text ++ rest)) (flat_map-append piece_text x y)
        ∙ ap (begins_with is_taken) (append_assoc (pieces_text x) (pieces_text y) rest)
        ∙ one.1 (pieces_text y ++ rest) (other.1 rest clear),
  )

  words-before : (words : List ℕ) (x : Pieces) → lacks_dollar words ≡ true → Joins x → Joins (fixed_piece words ++ x)
  words-before words x unmarked joins rest clear =
      ap bound_text (append_assoc words (pieces_text x) rest)
      ∙ unmarked-front count literals words (pieces_text x ++ rest) unmarked
      ∙ ap (λ text. words ++ text) (joins rest clear)
      ∙ sym (append_assoc words (bound_pieces x) (bound_text rest))

  words-behind : (words : List ℕ) (x : Pieces) → lacks_dollar words ≡ true → begins_with is_edge words ≡ true → Joins x → Follows (fixed_piece words ++ x)
  words-behind words x unmarked begins joins = (
    words-before words x unmarked joins,
    λ rest clear. ap (begins_with is_taken) (append_assoc words (pieces_text x) rest) ∙ edge-untaken words (pieces_text x ++ rest) begins,
  )

  none-joins : Joins []
  none-joins rest clear = refl

  joins-words : PreservedByWords Joins Follows
  joins-words = record {
    none = none-joins;
    nothing = (none-joins, λ rest clear. clear);
    append = joins-append;
    further = follows-append;
    words = λ words is. words-before words [] (own-unmarked words is) none-joins;
    ending = λ words is begins. words-behind words [] (own-unmarked words is) begins none-joins;
    before = λ words x is ends joins. words-before words x (own-unmarked words is) joins;
    behind = λ words x is joins.
        let both = and_parts (are_own words) _ is in words-behind words x (own-unmarked words both.0) (and_parts (begins_with is_edge words) _ both.1).0 joins;
  }

  -- a text that is printed, and what is bound to it
  text-joins : (text rest : List ℕ) → begins_with is_taken rest ≡ false → bound_text ((text ++ []) ++ rest) ≡ (bound_text text ++ []) ++ bound_text rest
  text-joins text rest clear =
      ap (λ t. bound_text (t ++ rest)) (append-nil text) ∙ texts-apart count literals text rest clear
      ∙ ap (λ t. t ++ bound_text rest) (sym (append-nil (bound_text text)))

  raw-joins : (text : List ℕ) → Joins (raw_piece text)
  raw-joins text = text-joins text

  quoted-joins : (text : List ℕ) → Joins (quoted_piece text)
  quoted-joins text = text-joins (quoted text)

  -- what is before a closing bracket
  closing-joins : (x : Pieces) → Joins x → Joins (x ++ fixed_piece (codes ")"))
  closing-joins x joins = joins-append x (fixed_piece (codes ")")) joins (words-behind (codes ")") [] refl refl none-joins)

  brackets-join : (x : Pieces) → Joins x → Joins (in_brackets fixed_piece x)
  brackets-join x joins = words-before (codes "(") (x ++ fixed_piece (codes ")")) refl (closing-joins x joins)

  in-follows : (negated : Bool) (x : Pieces) → Joins x → Follows (fixed_piece (not_text negated ++ codes " IN (") ++ (x ++ fixed_piece (codes ")")))
  in-follows true x joins = words-behind (codes " NOT IN (") (x ++ fixed_piece (codes ")")) refl refl (closing-joins x joins)
  in-follows false x joins = words-behind (codes " IN (") (x ++ fixed_piece (codes ")")) refl refl (closing-joins x joins)

  joins-calls : PreservedByCalls false any whatever Joins Follows Joins Joins
  joins-calls =
      by_any {P = Joins} {Q = Follows} joins-words raw-joins quoted-joins brackets-join in-follows
      (λ field. words-before (codes "COUNT(") (raw_piece field ++ fixed_piece (codes ")")) refl (closing-joins (raw_piece field) (raw-joins field)))
      (λ field name. words-before (codes "COUNT(") (raw_piece field ++ (fixed_piece (codes ") AS ") ++ raw_piece name)) refl
      (joins-append (raw_piece field) (fixed_piece (codes ") AS ") ++ raw_piece name) (raw-joins field)
      (words-behind (codes ") AS ") (raw_piece name) refl refl (raw-joins name))))

  -- ---- what is laid out

  union-follows : (all : Bool) (x : Pieces) → Joins x → Follows (fixed_piece (union_opening all) ++ x)
  union-follows true x joins = words-behind (codes " UNION ALL ") x refl refl joins
  union-follows false x joins = words-behind (codes " UNION ") x refl refl joins

  joins-layout : PreservedByLayout Joins Follows Joins (λ sections wheres. Follows (concat_sections fixed_piece sections))
      (λ sections wheres. Joins (concat_sections fixed_piece sections))
  joins-layout = record {
    joins = joins-words;
    brackets = brackets-join;
    target = λ x joins. words-behind (codes " (") (x ++ fixed_piece (codes ")")) refl refl (closing-joins x joins);
    none = (none-joins, λ rest clear. clear);
    further = λ words body more wheres opens begins joins rest.
        follows-append (fixed_piece words ++ body) (concat_sections fixed_piece more) (words-behind words body opens.unmarked begins joins) rest;
    where_section = λ body more joins rest.
        follows-append (fixed_piece (codes " WHERE ") ++ body) (concat_sections fixed_piece more) (words-behind (codes " WHERE ") body refl refl joins) rest;
    union = λ all body more joins rest.
        follows-append (fixed_piece (union_opening all) ++ body) (concat_sections fixed_piece more) (union-follows all body joins) rest;
    first = λ words body more wheres opens joins rest.
        joins-append (fixed_piece words ++ body) (concat_sections fixed_piece more) (words-before words body opens.unmarked joins) rest;
  }

  layout-joins : (finish : FinishText) (r : Clauses Pieces) → PartsAre Joins Joins Joins r → Joins (layout_at fixed_piece raw_piece finish r)
  layout-joins Sql r parts =
      joins-append (concat_sections fixed_piece (statement_sections fixed_piece r.kind r)) (fixed_piece (codes ";")) (statement-laid joins-layout r.kind r parts)
      (words-behind (codes ";") [] refl refl none-joins)
  layout-joins Query r parts = query-laid joins-layout r parts
  layout-joins QueryValues r parts = values-laid joins-layout r parts
  layout-joins Subquery r parts = brackets-join (query fixed_piece r) (query-laid joins-layout r parts)
  layout-joins (SubqueryAs name) r parts =
      let behind = fixed_piece (codes ") AS ") ++ raw_piece name in
      words-before (codes "(") (query fixed_piece r ++ behind) refl
      (joins-append (query fixed_piece r) behind (query-laid joins-layout r parts) (words-behind (codes ") AS ") (raw_piece name) refl refl (raw-joins name)))

  -- with nothing behind
  whole : (ps : Pieces) → Joins ps → bound_text (pieces_text ps) ≡ bound_pieces ps
  whole ps joins = ap bound_text (sym (append-nil (pieces_text ps))) ∙ joins [] refl ∙ append-nil (bound_pieces ps)

  statement-bound : (start : StartText) (calls : List CallText) (finish : FinishText) (error : Option SqlBuilderError)
      → IfOk (unless_error error (layout_at fixed_piece raw_piece finish (clauses start calls)))
      (λ printed. bound (pieces_text printed) (Nums count) literals ≡ Some (bound_pieces printed))
  statement-bound start calls finish (Some error) = tt
  statement-bound start calls finish None =
      ap Some (whole (layout_at fixed_piece raw_piece finish (clauses start calls)) (layout-joins finish (clauses start calls) (clauses-any joins-calls start calls)))

  pub condition-bound : (condition : ConditionText) → bound (condition_bytes condition) (Nums count) literals ≡ Some (bound_pieces (condition_pieces condition))
  condition-bound condition =
      ap (λ text. Some (bound_text text)) (sym (condition_printed condition))
      ∙ ap Some (whole (condition_pieces condition) (condition-any joins-calls condition))

  -- ---- the texts of a builder

  raw-bound : (text : List ℕ) → bound_pieces (raw_piece text) ≡ bound_text text
  raw-bound text = append-nil (bound_text text)

  finish-bound : (finish : FinishText) (r : Clauses (List ℕ)) → layout_at byte_units bound_text finish r ≡ text_at (finish_with_values count literals finish) r
  finish-bound Sql r = refl
  finish-bound Query r = refl
  finish-bound QueryValues r = refl
  finish-bound Subquery r = refl
  finish-bound (SubqueryAs name) r = refl

  pub clause-bound : (finish : FinishText) (r : Clauses (List ℕ))
      → bound_text (text_at finish r) ≡ text_at (finish_with_values count literals finish) (map_clauses bound_text r)
  clause-bound finish r =
      ap bound_text (sym (fragments-printed finish r))
      ∙ whole (layout_at fixed_piece raw_piece finish (as_fragments r)) (layout-joins finish (as_fragments r) (raw-parts Joins raw-joins r))
      ∙ layout_in_form fixed_piece byte_units bound_pieces refl (flat_map-append (piece_with_values count literals)) append-nil raw_piece bound_text raw-bound
      finish (as_fragments r)
      ∙ ap (layout_at byte_units bound_text finish) (maps-clauses bound_pieces raw_piece r ∙ (λ i. map_clauses (λ text. raw-bound text i) r))
      ∙ finish-bound finish (map_clauses bound_text r)

pub statements-bound : StatementsBindByPieces
statements-bound count literals start calls finish = statement-bound count literals start calls finish (error_at finish (map_clauses pieces_text (clauses start calls)))

pub clauses-bound : StatementsBindByClauses
clauses-bound count literals finish r = ap Some (clause-bound count literals finish r)
