-- The chain calls of each step. A chain call's proof is one use of these.
use Rattle.sql_builder.proofs.Imports.{◌≡◌, ℕ, List, [], ◌∷◌, a_type, dcons, dnil, bounded, Ura, Logic, RattleType, Args, Callee, Dict, Fn, Running, codes, map}
use Rattle.sql_builder.proofs.Imports.{true, false, suc, Raw}
pub use Rattle.sql_builder.proofs.Imports.{refl}
use Rattle.sql_parts.proofs.chains.LoanLemmas.{Constant, Effect, BorrowedType, Variant, boolean, constant, generic, passed_laws, passed_row, release_name}
use Rattle.sql_parts.proofs.chains.LoanLemmas.{release_triple, slice}
pub use Rattle.sql_builder.proofs.chains.ConstantFacts.{family-and, family-or, relation-eq, relation-ne, relation-gt, relation-ge, relation-lt, relation-le}
pub use Rattle.sql_builder.proofs.chains.ConstantFacts.{percent-plain, percent-right, percent-left, percent-any, polarity-plain, polarity-negated}
pub use Rattle.sql_builder.proofs.chains.ConstantFacts.{unary_clause, binary_clause, variadic_clause}
pub use Rattle.sql_builder.specs.declared.steps.UnaryClause.TheVariants as unary_case
pub use Rattle.sql_builder.specs.declared.steps.BinaryClause.TheVariants as binary_case
pub use Rattle.sql_builder.specs.declared.steps.VariadicClause.TheVariants as variadic_case
use Rattle.sql_parts.proofs.chains.ChainCallLemmas as calls
use contract.BorrowLft.{⊑_refl}
use contract.Lifetimes.{Outlives}
use denote.Enum.Declared.{Declared, variants}
use denote.Enum.Enum.{Plainss}
use prog.Model.{Model}
use prog.Wired.{Wired}
use denote.Param.Glue.{Met as Drops}
use denote.Param.Laws.{Laws}
use denote.Triple.Statement.{Triple}
use Rattle.sql_parts.specs.Error.{IsMemory}
use Rattle.sql_parts.specs.declared.text.ToText.{Ghosts}
use Rattle.sql_parts.specs.contracts.text.ToText.TheBound.{Met}
use Rattle.sql_builder.specs.{ClauseTexts, with_order, with_returning, IsBinaryError, IsUnaryError, with_unary, with_variadic, ConditionText, AddsCondition}
use Rattle.sql_builder.specs.{StepAddsCondition, AddsBinary, Compare, Like, InList, InQuoted, InQuery, Between, IsNull, IsNotNull, is_negated}
use Rattle.sql_builder.specs.declared.condition.Family.{Family}
use Rattle.sql_builder.specs.contracts.builder.SqlBuilder.{the_row}
use Rattle.sql_builder.proofs.builder.SqlBuilder.TheLaws as builder_laws
use Rattle.sql_parts.proofs.loan.release.Met.{met as release_met}
use Rattle.sql_parts.proofs.loan.release.Symbol as release_code
use Rattle.sql_builder.specs.contracts.condition.Family as family_enum
use Rattle.sql_builder.proofs.condition.Family.TheLaws as family_laws
use Rattle.sql_builder.specs.contracts.condition.Relation as relation_enum
use Rattle.sql_builder.proofs.condition.Relation.TheLaws as relation_laws
use Rattle.sql_builder.specs.contracts.condition.Percent as percent_enum
use Rattle.sql_builder.proofs.condition.Percent.TheLaws as percent_laws
use Rattle.sql_builder.specs.contracts.where_calls.Polarity as polarity_enum
use Rattle.sql_builder.proofs.where_calls.Polarity.TheLaws as polarity_laws
use Rattle.sql_builder.specs.contracts.steps.UnaryClause as unary_enum
use Rattle.sql_builder.proofs.steps.UnaryClause.TheLaws as unary_laws
use Rattle.sql_builder.specs.contracts.steps.BinaryClause as binary_enum
use Rattle.sql_builder.proofs.steps.BinaryClause.TheLaws as binary_laws
use Rattle.sql_builder.specs.contracts.steps.VariadicClause as variadic_enum
use Rattle.sql_builder.proofs.steps.VariadicClause.TheLaws as variadic_laws
use Rattle.sql_builder.specs.contracts.builder.SqlBuilder as step
use Rattle.sql_builder.proofs.builder.SqlBuilder as its

abbrev pub builder : BorrowedType
builder = record {
  row = the_row;
  laws = builder_laws.the_row_laws;
  holds_no_loan = ⊑_refl [];
}

-- what a call does that adds a condition
abbrev adds : Family → ConditionText → ClauseTexts → Effect ClauseTexts
adds family condition old = record { leaves = AddsCondition family condition old; fails = IsMemory }

module _ {M : Type 1} (𝓤 : Ura M) (𝓛 : Logic 𝓤) (𝓜 : Model 𝓤 𝓛.H) (𝓡 : Running 𝓤 𝓛.H 𝓜) where
  releases : Wired 𝓡.env release_code.code → Triple 𝓤 (𝓡.run (𝓡.env (release_name builder))) (release_triple 𝓛 builder)
  releases w = release_met 𝓤 𝓛 𝓜 𝓡 w (passed_row builder) (passed_laws builder)

  -- that a call of n lifetimes more than one, compiled, meets its contract
  abbrev Proves : (n : ℕ) (os : List (Outlives (suc n))) (Cs : List (Constant 𝓛)) (As : List (calls.Passed builder 𝓛 𝓜 𝓡 n os))
      → calls.Asks builder 𝓛 𝓜 𝓡 n os Cs As → calls.Changes builder 𝓛 𝓜 𝓡 n os Cs As → (function : Fn) (name step : Callee) → Type 2
  Proves n os Cs As asked change function name step = let K : calls.Call builder 𝓛 𝓜 𝓡 n os Cs As = record
      { asked = asked; change = change; function = function; name = name; step = step; release = release_name builder } in
      calls.Compiled builder 𝓛 𝓜 𝓡 n os K → Wired 𝓡.env release_code.code → calls.Method builder 𝓛 𝓜 𝓡 n os K

  abbrev in_family : Variant family_enum.the_type → Constant 𝓛
  in_family X = constant 𝓛 family_enum.the_type family_laws.the_plain X

  -- calls with one text
  module _ (S : RattleType) (LS : Laws S) (s : Ghosts S.Denot) (d d' : Dict) (ms : Met 𝓛 𝓜 𝓡 𝓡.env S s d) (md : Drops 𝓛 𝓜 𝓡 𝓡.env S d') where
    abbrev types-1 : Args
    types-1 = bounded (a_type ∷ []) (S, tt) (dcons d (dcons d' dnil))

    abbrev texts-1 : List (calls.Passed builder 𝓛 𝓜 𝓡 1 [])
    texts-1 = (true, generic 𝓛 2 0 S LS) ∷ []

    -- by its clause
    pub unary : {function : Fn} {name : Callee} (X : Variant unary_enum.the_type) → Wired 𝓡.env its.step_unary.Symbol.code
        → Proves 1 [] (constant 𝓛 unary_enum.the_type unary_laws.the_plain X ∷ [])
        texts-1
        (λ κs a. (step.step_unary.clauses S s d d' 𝓛 𝓜.mem 𝓡.returns κs a).requires tt)
        (λ κs a. record { leaves = λ builder. builder ≡ with_unary a.1.0 (s.text a.1.1.0) a.0.now; fails = IsUnaryError a.1.0 a.0.now }) function name
        (its.step_unary.Symbol.name types-1)
    unary X w compiled w' = calls.by-unary builder 𝓛 𝓜 𝓡 1 [] compiled (its.step_unary.Met.met 𝓤 𝓛 𝓜 𝓡 w S LS s d d' ms md) (releases w')

    -- a list of texts, by its clause
    pub variadic : {function : Fn} {name : Callee} (X : Variant variadic_enum.the_type) → Wired 𝓡.env its.step_variadic.Symbol.code
        → Proves 2 (step.step_variadic.signature S).outlives (constant 𝓛 variadic_enum.the_type variadic_laws.the_plain X ∷ [])
        ((false, slice 𝓛 3 1 tt 0 S) ∷ [])
        (λ κs a. (step.step_variadic.clauses S s d d' 𝓛 𝓜.mem 𝓡.returns κs a).requires tt)
        (λ κs a. record { leaves = λ builder. builder ≡ with_variadic a.1.0 (map s.text a.1.1.0.now) a.0.now; fails = IsMemory }) function name
        (its.step_variadic.Symbol.name types-1)
    variadic X w compiled w' = calls.by-variadic builder 𝓛 𝓜 𝓡 2 (step.step_variadic.signature S).outlives compiled (its.step_variadic.Met.met 𝓤 𝓛 𝓜 𝓡 w S LS s d d' ms md) (releases w')

    -- a text and a truth value
    pub order : {function : Fn} {name : Callee} → Wired 𝓡.env its.step_order.Symbol.code
        → Proves 1 [] []
        ((true, generic 𝓛 2 0 S LS) ∷ (false, boolean 𝓛 2) ∷ [])
        (λ κs a. (step.step_order.clauses S s d d' 𝓛 𝓜.mem 𝓡.returns κs a).requires tt)
        (λ κs a. record { leaves = λ builder. builder ≡ with_order a.1.1.0 (s.text a.1.0) a.0.now; fails = IsMemory }) function name
        (its.step_order.Symbol.name types-1)
    order w compiled w' = calls.by-flagged builder 𝓛 𝓜 𝓡 1 [] compiled (its.step_order.Met.met 𝓤 𝓛 𝓜 𝓡 w S LS s d d' ms md) (releases w')

    abbrev Adds-1 : (X : Variant family_enum.the_type) → (List ℕ → ConditionText) → (function : Fn) (name : Callee)
        → calls.Asks builder 𝓛 𝓜 𝓡 1 [] (in_family X ∷ []) texts-1 → Callee → Type 2
    Adds-1 X condition function name asked = Proves 1 [] (in_family X ∷ []) texts-1 asked (λ κs a. adds a.1.0 (condition (s.text a.1.1.0)) a.0.now) function name

    pub raw : {function : Fn} {name : Callee} (X : Variant family_enum.the_type) → Wired 𝓡.env its.step_raw.Symbol.code
        → Adds-1 X Raw function name
        (λ κs a. (step.step_raw.clauses S s d d' 𝓛 𝓜.mem 𝓡.returns κs a).requires tt) (its.step_raw.Symbol.name types-1)
    unfolding StepAddsCondition
    raw X w compiled w' = calls.by-unary builder 𝓛 𝓜 𝓡 1 [] compiled (its.step_raw.Met.met 𝓤 𝓛 𝓜 𝓡 w S LS s d d' ms md) (releases w')

    pub is_null : {function : Fn} {name : Callee} (X : Variant family_enum.the_type) → Wired 𝓡.env its.step_is_null.Symbol.code
        → Adds-1 X IsNull function name
        (λ κs a. (step.step_is_null.clauses S s d d' 𝓛 𝓜.mem 𝓡.returns κs a).requires tt) (its.step_is_null.Symbol.name types-1)
    unfolding StepAddsCondition
    is_null X w compiled w' = calls.by-unary builder 𝓛 𝓜 𝓡 1 [] compiled (its.step_is_null.Met.met 𝓤 𝓛 𝓜 𝓡 w S LS s d d' ms md) (releases w')

    pub is_not_null : {function : Fn} {name : Callee} (X : Variant family_enum.the_type) → Wired 𝓡.env its.step_is_not_null.Symbol.code
        → Adds-1 X IsNotNull function name
        (λ κs a. (step.step_is_not_null.clauses S s d d' 𝓛 𝓜.mem 𝓡.returns κs a).requires tt) (its.step_is_not_null.Symbol.name types-1)
    unfolding StepAddsCondition
    is_not_null X w compiled w' = calls.by-unary builder 𝓛 𝓜 𝓡 1 [] compiled (its.step_is_not_null.Met.met 𝓤 𝓛 𝓜 𝓡 w S LS s d d' ms md) (releases w')

  -- calls with two texts
  module _ (S T : RattleType) (LS : Laws S) (LT : Laws T) (s : Ghosts S.Denot) (d : Dict) (t : Ghosts T.Denot) (e d' e' : Dict)
      (ms : Met 𝓛 𝓜 𝓡 𝓡.env S s d) (mt : Met 𝓛 𝓜 𝓡 𝓡.env T t e) (md : Drops 𝓛 𝓜 𝓡 𝓡.env S d') (me : Drops 𝓛 𝓜 𝓡 𝓡.env T e') where
    abbrev types-2 : Args
    types-2 = bounded (a_type ∷ a_type ∷ []) (S, (T, tt)) (dcons d (dcons e (dcons d' (dcons e' dnil))))

    abbrev texts-2 : List (calls.Passed builder 𝓛 𝓜 𝓡 2 [])
    texts-2 = (true, generic 𝓛 3 0 S LS) ∷ (true, generic 𝓛 3 1 T LT) ∷ []

    -- by its clause
    pub binary : {function : Fn} {name : Callee} (X : Variant binary_enum.the_type) → Wired 𝓡.env its.step_binary.Symbol.code
        → Proves 2 [] (constant 𝓛 binary_enum.the_type binary_laws.the_plain X ∷ [])
        texts-2
        (λ κs a. (step.step_binary.clauses S T s d t e d' e' 𝓛 𝓜.mem 𝓡.returns κs a).requires tt)
        (λ κs a. record { leaves = AddsBinary a.1.0 (s.text a.1.1.0) (t.text a.1.1.1.0) a.0.now; fails = IsBinaryError a.1.0 a.0.now }) function name
        (its.step_binary.Symbol.name types-2)
    binary X w compiled w' = calls.by-binary builder 𝓛 𝓜 𝓡 2 [] compiled (its.step_binary.Met.met 𝓤 𝓛 𝓜 𝓡 w S T LS LT s d t e d' e' ms mt md me) (releases w')

    -- those that add a condition by one more constant
    module _ {E : Declared} (plain : Plainss (variants E)) (X : Variant family_enum.the_type) (Y : Variant E) where
      abbrev Adds-2 : (E.D → List ℕ → List ℕ → ConditionText) → (function : Fn) (name : Callee)
          → calls.Asks builder 𝓛 𝓜 𝓡 2 [] (in_family X ∷ constant 𝓛 E plain Y ∷ []) texts-2 → Callee → Type 2
      Adds-2 condition function name asked = Proves 2 [] (in_family X ∷ constant 𝓛 E plain Y ∷ []) texts-2 asked
          (λ κs a. adds a.1.0 (condition a.1.1.0 (s.text a.1.1.1.0) (t.text a.1.1.1.1.0)) a.0.now) function name

      abbrev Adds-list : (os : List (Outlives 4)) → (E.D → List ℕ → List (List ℕ) → ConditionText) → (function : Fn) (name : Callee)
          → calls.Asks builder 𝓛 𝓜 𝓡 3 os (in_family X ∷ constant 𝓛 E plain Y ∷ []) ((true, generic 𝓛 4 0 S LS) ∷ (false, slice 𝓛 4 1 tt 1 T) ∷ []) → Callee
          → Type 2
      Adds-list os condition function name asked =
          Proves 3 os (in_family X ∷ constant 𝓛 E plain Y ∷ []) ((true, generic 𝓛 4 0 S LS) ∷ (false, slice 𝓛 4 1 tt 1 T) ∷ []) asked
          (λ κs a. adds a.1.0 (condition a.1.1.0 (s.text a.1.1.1.0) (map t.text a.1.1.1.1.0.now)) a.0.now) function name

    pub compare : {function : Fn} {name : Callee} (X : Variant family_enum.the_type) (Y : Variant relation_enum.the_type) → Wired 𝓡.env its.step_compare.Symbol.code
        → Adds-2 relation_laws.the_plain X Y Compare function name
        (λ κs a. (step.step_compare.clauses S T s d t e d' e' 𝓛 𝓜.mem 𝓡.returns κs a).requires tt) (its.step_compare.Symbol.name types-2)
    unfolding StepAddsCondition
    compare X Y w compiled w' = calls.by-chosen-binary builder 𝓛 𝓜 𝓡 2 [] compiled (its.step_compare.Met.met 𝓤 𝓛 𝓜 𝓡 w S T LS LT s d t e d' e' ms mt md me) (releases w')

    pub like : {function : Fn} {name : Callee} (X : Variant family_enum.the_type) (Y : Variant percent_enum.the_type) → Wired 𝓡.env its.step_like.Symbol.code
        → Adds-2 percent_laws.the_plain X Y (Like false) function name
        (λ κs a. (step.step_like.clauses S T s d t e d' e' 𝓛 𝓜.mem 𝓡.returns κs a).requires tt) (its.step_like.Symbol.name types-2)
    unfolding StepAddsCondition
    like X Y w compiled w' = calls.by-chosen-binary builder 𝓛 𝓜 𝓡 2 [] compiled (its.step_like.Met.met 𝓤 𝓛 𝓜 𝓡 w S T LS LT s d t e d' e' ms mt md me) (releases w')

    pub not_like : {function : Fn} {name : Callee} (X : Variant family_enum.the_type) (Y : Variant percent_enum.the_type) → Wired 𝓡.env its.step_not_like.Symbol.code
        → Adds-2 percent_laws.the_plain X Y (Like true) function name
        (λ κs a. (step.step_not_like.clauses S T s d t e d' e' 𝓛 𝓜.mem 𝓡.returns κs a).requires tt) (its.step_not_like.Symbol.name types-2)
    unfolding StepAddsCondition
    not_like X Y w compiled w' = calls.by-chosen-binary builder 𝓛 𝓜 𝓡 2 [] compiled (its.step_not_like.Met.met 𝓤 𝓛 𝓜 𝓡 w S T LS LT s d t e d' e' ms mt md me) (releases w')

    pub in_query : {function : Fn} {name : Callee} (X : Variant family_enum.the_type) (Y : Variant polarity_enum.the_type) → Wired 𝓡.env its.step_in_query.Symbol.code
        → Adds-2 polarity_laws.the_plain X Y (λ polarity. InQuery (is_negated polarity)) function name
        (λ κs a. (step.step_in_query.clauses S T s d t e d' e' 𝓛 𝓜.mem 𝓡.returns κs a).requires tt) (its.step_in_query.Symbol.name types-2)
    unfolding StepAddsCondition
    in_query X Y w compiled w' = calls.by-chosen-binary builder 𝓛 𝓜 𝓡 2 [] compiled (its.step_in_query.Met.met 𝓤 𝓛 𝓜 𝓡 w S T LS LT s d t e d' e' ms mt md me) (releases w')

    pub in_list : {function : Fn} {name : Callee} (X : Variant family_enum.the_type) (Y : Variant polarity_enum.the_type) → Wired 𝓡.env its.step_in_list.Symbol.code
        → Adds-list polarity_laws.the_plain X Y (step.step_in_list.signature S T).outlives (λ polarity. InList (is_negated polarity)) function name
        (λ κs a. (step.step_in_list.clauses S T s d t e d' e' 𝓛 𝓜.mem 𝓡.returns κs a).requires tt) (its.step_in_list.Symbol.name types-2)
    unfolding StepAddsCondition
    in_list X Y w compiled w' = calls.by-chosen-listed builder 𝓛 𝓜 𝓡 3 (step.step_in_list.signature S T).outlives compiled (its.step_in_list.Met.met 𝓤 𝓛 𝓜 𝓡 w S T LS LT s d t e d' e' ms mt md me) (releases w')

    pub in_quoted : {function : Fn} {name : Callee} (X : Variant family_enum.the_type) (Y : Variant polarity_enum.the_type) → Wired 𝓡.env its.step_in_quoted.Symbol.code
        → Adds-list polarity_laws.the_plain X Y (step.step_in_quoted.signature S T).outlives (λ polarity. InQuoted (is_negated polarity)) function name
        (λ κs a. (step.step_in_quoted.clauses S T s d t e d' e' 𝓛 𝓜.mem 𝓡.returns κs a).requires tt) (its.step_in_quoted.Symbol.name types-2)
    unfolding StepAddsCondition
    in_quoted X Y w compiled w' = calls.by-chosen-listed builder 𝓛 𝓜 𝓡 3 (step.step_in_quoted.signature S T).outlives compiled (its.step_in_quoted.Met.met 𝓤 𝓛 𝓜 𝓡 w S T LS LT s d t e d' e' ms mt md me) (releases w')

  -- a condition with three texts
  module _ (S T U : RattleType) (LS : Laws S) (LT : Laws T) (LU : Laws U)
      (s : Ghosts S.Denot) (d : Dict) (t : Ghosts T.Denot) (e : Dict) (u : Ghosts U.Denot) (f d' e' f' : Dict)
      (ms : Met 𝓛 𝓜 𝓡 𝓡.env S s d) (mt : Met 𝓛 𝓜 𝓡 𝓡.env T t e) (mu : Met 𝓛 𝓜 𝓡 𝓡.env U u f)
      (md : Drops 𝓛 𝓜 𝓡 𝓡.env S d') (me : Drops 𝓛 𝓜 𝓡 𝓡.env T e') (mf : Drops 𝓛 𝓜 𝓡 𝓡.env U f') where
    pub between : {function : Fn} {name : Callee} (X : Variant family_enum.the_type) (Y : Variant polarity_enum.the_type)
        → Wired 𝓡.env its.step_between.Symbol.code
        → Proves 3 [] (in_family X ∷ constant 𝓛 polarity_enum.the_type polarity_laws.the_plain Y ∷ [])
        ((true, generic 𝓛 4 0 S LS) ∷ (true, generic 𝓛 4 1 T LT) ∷ (true, generic 𝓛 4 2 U LU) ∷ [])
        (λ κs a. (step.step_between.clauses S T U s d t e u f d' e' f' 𝓛 𝓜.mem 𝓡.returns κs a).requires tt)
        (λ κs a. adds a.1.0 (Between (is_negated a.1.1.0) (s.text a.1.1.1.0) (t.text a.1.1.1.1.0) (u.text a.1.1.1.1.1.0)) a.0.now) function name
        (its.step_between.Symbol.name
        (bounded (a_type ∷ a_type ∷ a_type ∷ []) (S, (T, (U, tt))) (dcons d (dcons e (dcons f (dcons d' (dcons e' (dcons f' dnil))))))))
    unfolding StepAddsCondition
    between X Y w compiled w' = calls.by-chosen-ternary builder 𝓛 𝓜 𝓡 3 [] compiled
        (its.step_between.Met.met 𝓤 𝓛 𝓜 𝓡 w S T U LS LT LU s d t e u f d' e' f' ms mt mu md me mf) (releases w')

  -- the call without a text
  pub returning_id : {function : Fn} {name : Callee} → Wired 𝓡.env its.step_returning_id.Symbol.code
      → Proves 0 [] [] [] (λ κs a. (step.step_returning_id.clauses 𝓛 𝓜.mem 𝓡.returns κs a).requires tt)
      (λ κs a. record { leaves = λ builder. builder ≡ with_returning (codes "id") a.0.now; fails = IsMemory }) function name its.step_returning_id.Symbol.name
  returning_id w compiled w' = calls.by-nullary builder 𝓛 𝓜 𝓡 0 [] compiled (its.step_returning_id.Met.met 𝓤 𝓛 𝓜 𝓡 w) (releases w')
