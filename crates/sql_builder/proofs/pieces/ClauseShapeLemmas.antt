-- What a list of calls prints, and what a condition and a call with two texts print, keep their tokens.
use Rattle.sql_builder.proofs.Imports.{◌≡◌, ℕ, List, [], ◌∷◌, Option, None, Some, subst, IfOk, ap, sym, ◌∙◌, codes, refl, IsTrue, closed, tokens}
use Rattle.sql_builder.proofs.Imports.{SqlBuilderError, quoted, Clauses, Pieces, Family, BinaryClause, append-nil}
use Rattle.sql_builder.specs.{ClauseTexts, with_binary, with_condition, with_condition_bytes, with_fields, with_on, with_set, byte_units, sql, StartText}
use Rattle.sql_builder.specs.{CallText, FinishText, clauses, ConditionText, condition_bytes, condition_pieces, count_as, equation, map_clauses}
use Rattle.sql_builder.specs.{EndsInOneSemicolon, AddsText, KeepsTokens, as_fragments, has_closed_fragments, has_no_semicolons, layout_at, pieces, error_at}
use Rattle.sql_builder.specs.{unless_error, fixed_piece, pieces_text, quoted_piece, raw_piece, AddsCondition, IsAtomIfOperands, AddsBinary, StepAddsCondition}
use Rattle.sql_builder.specs.{IsAtom}
use Rattle.sql_builder.specs.Calls as call
use Rattle.sql_builder.proofs.reading.ClauseWordLemmas.{fragments_closed}
use Rattle.sql_builder.specs.declared.steps.BinaryClause.TheVariants as binary
use Rattle.sql_builder.proofs.pieces.LayoutShapeLemmas.{sql-semicolon, fragments-printed, layout-shaped}
use Rattle.sql_builder.proofs.pieces.ShapeLemmas.{Inside, Shaped, quoted-inside, raw-inside, shape_closed, shaped}
use Rattle.sql_builder.proofs.conditions.{condition_atom, condition_printed, operands_balanced}
use Rattle.sql_builder.proofs.fragments.NeutralLemmas.{clauses-inside, condition-inside, count_as-inside, raw-inside-parts}
use Rattle.sql_builder.proofs.fragments.PropertyLemmas.{between, inside-joins}

-- what a list of calls prints
pub printed-shaped : (start : StartText) (calls : List CallText) (finish : FinishText) → Shaped (layout_at fixed_piece raw_piece finish (clauses start calls))
printed-shaped start calls finish = layout-shaped finish (clauses start calls) (clauses-inside start calls)

-- what a condition and a call with two texts print
keeps : (printed : Pieces) (text : List ℕ) → Inside printed → pieces_text printed ≡ text → KeepsTokens printed text
keeps printed text inside is =
    (λ all. ap tokens (sym is) ∙ (shaped printed inside).shape_is all, λ all. ap closed (sym is) ∙ shape_closed printed (shaped printed inside) all)

pub condition_keeps : (condition : ConditionText) → KeepsTokens (condition_pieces condition) (condition_bytes condition)
condition_keeps condition = keeps (condition_pieces condition) (condition_bytes condition) (condition-inside condition) (condition_printed condition)

equation-inside : (left right : Pieces) → Inside left → Inside right → Inside (equation fixed_piece left right)
equation-inside left right one other = between inside-joins (codes " = ") left right refl one other

pub equation_keeps : (left right : List ℕ) → KeepsTokens (equation fixed_piece (raw_piece left) (raw_piece right)) (equation byte_units left right)
equation_keeps left right = keeps (equation fixed_piece (raw_piece left) (raw_piece right)) (equation byte_units left right)
    (equation-inside (raw_piece left) (raw_piece right) (raw-inside left) (raw-inside right)) (simp append-nil)

pub quoted_equation_keeps : (field value : List ℕ)
    → KeepsTokens (equation fixed_piece (raw_piece field) (quoted_piece value)) (equation byte_units field (quoted value))
quoted_equation_keeps field value = keeps (equation fixed_piece (raw_piece field) (quoted_piece value)) (equation byte_units field (quoted value))
    (equation-inside (raw_piece field) (quoted_piece value) (raw-inside field) (quoted-inside value)) (simp append-nil)

pub count_as_keeps : (field name : List ℕ) → KeepsTokens (count_as fixed_piece (raw_piece field) (raw_piece name)) (count_as byte_units field name)
count_as_keeps field name = keeps (count_as fixed_piece (raw_piece field) (raw_piece name)) (count_as byte_units field name) (count_as-inside field name)
    (simp append-nil)

-- a record that has a text added has its tokens added
pub adds : (adding : List ℕ → ClauseTexts) (text : List ℕ) (printed : Pieces) (new : ClauseTexts) → KeepsTokens printed text → new ≡ adding text
    → AddsText adding text printed new
adds adding text printed new keeps is = (is, keeps.0, keeps.1)

pub adds_binary : (clause : BinaryClause) (one other : List ℕ) (old new : ClauseTexts) → new ≡ with_binary clause one other old
    → AddsBinary clause one other old new
adds_binary binary.OnEq left right old new is =
    adds (λ added. with_on added old) (equation byte_units left right) (equation fixed_piece (raw_piece left) (raw_piece right)) new
    (equation_keeps left right) is
adds_binary binary.CountAs field name old new is =
    adds (λ added. with_fields (added ∷ []) old) (count_as byte_units field name) (count_as fixed_piece (raw_piece field) (raw_piece name)) new
    (count_as_keeps field name) is
adds_binary binary.SetTo field value old new is =
    adds (λ added. with_set added old) (equation byte_units field value) (equation fixed_piece (raw_piece field) (raw_piece value)) new
    (equation_keeps field value) is
adds_binary binary.SetStr field value old new is =
    adds (λ added. with_set added old) (equation byte_units field (quoted value)) (equation fixed_piece (raw_piece field) (quoted_piece value)) new
    (quoted_equation_keeps field value) is

-- a condition that is added
-- the text of a condition whose texts are operands
text_atom : (condition : ConditionText) → IsAtomIfOperands condition (tokens (condition_bytes condition))
text_atom condition = λ h.
    subst IsAtom (sym ((condition_keeps condition).0 (fragments_closed (condition_pieces condition) (operands_balanced condition h))))
    (condition_atom condition h)

adds_condition : (family : Family) (condition : ConditionText) (old new : ClauseTexts) → new ≡ with_condition family condition old
    → AddsCondition family condition old new
adds_condition family condition old new is = (
  adds (λ added. with_condition_bytes family added old) (condition_bytes condition) (condition_pieces condition) new (condition_keeps condition) is,
  text_atom condition,
)

pub step_adds_condition : (family : Family) (condition : ConditionText) (old new : ClauseTexts) → new ≡ with_condition family condition old
    → StepAddsCondition family condition old new
unfolding StepAddsCondition
step_adds_condition family condition old new is = adds_condition family condition old new is

-- the `;` of what a builder prints
pub builder_semicolon : (r : Clauses (List ℕ)) → IsTrue (has_closed_fragments (sql fixed_piece (as_fragments r)))
    → IsTrue (has_no_semicolons (sql fixed_piece (as_fragments r))) → EndsInOneSemicolon (tokens (sql byte_units r))
builder_semicolon r is plain =
    subst (λ text. EndsInOneSemicolon (tokens text)) (fragments-printed call.Sql r) (sql-semicolon (as_fragments r) (raw-inside-parts r) is plain)

-- the `;` of a statement
module _ (start : StartText) (calls : List CallText) where
  by-error : (error : Option SqlBuilderError) → IfOk (unless_error error (sql fixed_piece (clauses start calls)))
      (λ printed. IsTrue (has_closed_fragments printed) → IsTrue (has_no_semicolons printed) → EndsInOneSemicolon (tokens (pieces_text printed)))
  by-error None = sql-semicolon (clauses start calls) (clauses-inside start calls)
  by-error (Some error) = tt

  pub last_semicolon : IfOk (pieces start calls call.Sql)
      (λ printed. IsTrue (has_closed_fragments printed) → IsTrue (has_no_semicolons printed) → EndsInOneSemicolon (tokens (pieces_text printed)))
  last_semicolon = by-error (error_at call.Sql (map_clauses pieces_text (clauses start calls)))
