-- Conditions, and what is known of their texts.
use Rattle.sql_typed.proofs.Imports.{◌≡◌, ◌∙◌, ◌++◌, ap, append_assoc, codes, refl, sym, subst, ℕ, Bool, true, false, if◌then◌else◌, List, [], ◌∷◌, map, length, ◌≤◌, arith, string_bytes, list_all, and_from, false≢true, ServesAsOperand}
use Rattle.sql_typed.proofs.Imports.{is_fragment, tokens, ConditionText, Raw, Compare, Like, IsNull, IsNotNull, InList, InQuoted, InQuery, Between, IsCombined, combined_text, like_text, condition_bytes, condition_raw_texts, has_operands}
use Rattle.sql_typed.proofs.Imports.{not_text, is_fit, IsAtom, and_all, or_all, row_fits, all_combined, any_combined, condition_fragment, condition_is_atom, OperandsServe, list_text}
use Rattle.sql_parts.proofs.fragments.OperandFacts.{is-fragment}
use Rattle.sql_typed.specs.declared.texts.Condition.{Condition}

-- where there are two values and more
pub list_given : {X : Type 0} (negated : Bool) (field : List ℕ) (text : X → List ℕ) (values : List X) → 2 ≤ length values
    → list_text negated field (map text values) ≡ condition_bytes (InList negated field (map text values))
list_given negated field text [] some = absurd (omega (arith, some))
list_given negated field text (value ∷ []) some = absurd (omega (arith, some))
list_given negated field text (value ∷ next ∷ values) some = refl

-- the truth of conditions that are joined
pub combined_truth : (conjunction : Bool) (conditions : List (List ℕ)) → list_all is_fragment conditions ≡ true
    → IsCombined (if conjunction then and_all else or_all) conditions (combined_text conjunction conditions)
combined_truth true conditions fit = all_combined conditions fit
combined_truth false conditions fit = any_combined conditions fit

-- the texts of conditions
pub conditions_fit : (conditions : List Condition) → list_all is_fragment (map (λ c. string_bytes c.text) conditions) ≡ true
conditions_fit [] = refl
conditions_fit (condition ∷ conditions) = and_from _ _ condition.fits (conditions_fit conditions)

-- a field, words and a mask, and an escape behind them
pub like_printed : {words before after : List ℕ} (negated : Bool) (field mask : List ℕ) → words ≡ not_text negated ++ codes " LIKE "
    → before ≡ field ++ (words ++ mask) → after ≡ before ++ codes " ESCAPE '!'" → after ≡ like_text negated field mask
like_printed negated field mask is before after =
    let words = not_text negated ++ codes " LIKE " in
    rw (after, before, is)
    (append_assoc field (words ++ mask) (codes " ESCAPE '!'") ∙ ap (λ text. field ++ text) (append_assoc words mask (codes " ESCAPE '!'")))

-- ---- texts that serve as operands

pub serves_as : {text given : List ℕ} → text ≡ given → ServesAsOperand given → ServesAsOperand text
serves_as is serves = subst ServesAsOperand (sym is) serves

pub operands_serve : (condition : ConditionText) → OperandsServe condition → has_operands condition ≡ true
operands_serve (Compare relation field value) serve = and_from _ _ serve.0.is_operand serve.1.is_operand
operands_serve (Like negated percent field mask) serve = serve.is_operand
operands_serve (IsNull field) serve = serve.is_operand
operands_serve (IsNotNull field) serve = serve.is_operand
operands_serve (InList negated field values) serve = and_from _ _ serve.0.is_operand serve.1
operands_serve (InQuery negated field query) serve = and_from _ _ serve.0.is_operand serve.1
operands_serve (Between negated field least greatest) serve = and_from _ _ serve.0.is_operand (and_from _ _ serve.1.is_operand serve.2.is_operand)
operands_serve (Raw text) serve = absurd (false≢true serve)
operands_serve (InQuoted negated field values) serve = absurd (false≢true serve)

pub operands_fit : (condition : ConditionText) → OperandsServe condition → list_all is_fit (condition_raw_texts condition) ≡ true
operands_fit (Compare relation field value) serve = and_from _ _ (is-fragment serve.0) (and_from _ _ (is-fragment serve.1) refl)
operands_fit (Like negated percent field mask) serve = and_from _ _ (is-fragment serve) refl
operands_fit (IsNull field) serve = and_from _ _ (is-fragment serve) refl
operands_fit (IsNotNull field) serve = and_from _ _ (is-fragment serve) refl
operands_fit (InList negated field values) serve = and_from _ _ (is-fragment serve.0) (row_fits values serve.1)
operands_fit (InQuery negated field query) serve = and_from _ _ (is-fragment serve.0) (and_from _ _ serve.1 refl)
operands_fit (Between negated field least greatest) serve =
    and_from _ _ (is-fragment serve.0) (and_from _ _ (is-fragment serve.1) (and_from _ _ (is-fragment serve.2) refl))
operands_fit (Raw text) serve = absurd (false≢true serve)
operands_fit (InQuoted negated field values) serve = absurd (false≢true serve)

-- a condition of these texts fits, and is an atom
pub condition_made : (condition : ConditionText) → OperandsServe condition → {text : List ℕ} → text ≡ condition_bytes condition
    → (is_fragment text ≡ true) × IsAtom (tokens text)
condition_made condition serve is = (
  ap is_fragment is ∙ condition_fragment condition (operands_fit condition serve),
  subst (λ text. IsAtom (tokens text)) (sym is) (condition_is_atom condition (operands_serve condition serve)),
)
