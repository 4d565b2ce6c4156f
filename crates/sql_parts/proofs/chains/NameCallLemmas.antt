-- The calls that change a name and return it. Such a call's proof is one use of `by_change`.
use Rattle.sql_parts.proofs.chains.Prelude.{◌≡◌, [], ◌∷◌, a_type, dcons, dnil, bounded, refl, Ura, Logic, RattleType}
use Rattle.sql_parts.proofs.chains.LoanLemmas.{BorrowedType, Variant, constant, generic, passed_laws, passed_row, release_name}
use Rattle.sql_parts.proofs.chains.VariantLemmas.{variant}
use Rattle.sql_parts.proofs.chains.ChainCallLemmas as calls
use mir.Syntax.{Args, Callee, Dict, Fn}
use Rattle.sql_parts.proofs.Imports.{⊑_refl, Running, Model, Laws}
use prog.Wired.{Wired}
use denote.Param.Glue.{Met as Drops}
use Rattle.sql_parts.specs.{IsMemory, with_change}
use Rattle.sql_parts.specs.declared.text.ToText.{Ghosts}
use Rattle.sql_parts.specs.contracts.text.ToText.TheBound.{Met}
use Rattle.sql_parts.specs.contracts.name.SqlName.{the_row}
use Rattle.sql_parts.proofs.name.SqlName.TheLaws as name_laws
use Rattle.sql_parts.proofs.loan.release.Met.{met as release_met}
use Rattle.sql_parts.proofs.loan.release.Symbol as release_code
use Rattle.sql_parts.specs.contracts.name.Change as change
use Rattle.sql_parts.specs.declared.name.Change.TheVariants as change_case
use Rattle.sql_parts.proofs.name.Change.TheLaws as change_laws
use Rattle.sql_parts.specs.contracts.name.SqlName.step
use Rattle.sql_parts.proofs.name.SqlName.step.Met as step_met
use Rattle.sql_parts.proofs.name.SqlName.step.Symbol as step_code

abbrev pub name : BorrowedType
name = record {
  row = the_row;
  laws = name_laws.the_row_laws;
  holds_no_loan = ⊑_refl [];
}

abbrev release : Callee
release = release_name name

abbrev pub part : Variant change.the_type
part = variant change.the_type change_laws.the_laws change_case.Part 0 tt tt tt refl

abbrev pub alias : Variant change.the_type
alias = variant change.the_type change_laws.the_laws change_case.Alias 1 tt tt tt refl

module _ {M : Type 1} (𝓤 : Ura M) (𝓛 : Logic 𝓤) (𝓜 : Model 𝓤 𝓛.H) (𝓡 : Running 𝓤 𝓛.H 𝓜) (X : Variant change.the_type)
    (S : RattleType) (LS : Laws S) (s : Ghosts S.Denot) (d : Dict) (d' : Dict)
    (ms : Met 𝓛 𝓜 𝓡 𝓡.env S s d) (md : Drops 𝓛 𝓜 𝓡 𝓡.env S d') where
  abbrev types : Args
  types = bounded (a_type ∷ []) (S, tt) (dcons d (dcons d' dnil))

  abbrev call : Fn → Callee → calls.Call name 𝓛 𝓜 𝓡 1 [] (constant 𝓛 change.the_type change_laws.the_plain X ∷ []) (calls.moved name 𝓛 𝓜 𝓡 1 [] (generic 𝓛 2 0 S LS) ∷ [])
  call function callee = record {
    asked = λ κs a. (step.clauses S s d d' 𝓛 𝓜.mem 𝓡.returns κs a).requires tt;
    change = λ κs a. record { leaves = λ name. name ≡ with_change a.1.0 (s.text a.1.1.0) a.0.now; fails = IsMemory };
    function = function;
    name = callee;
    step = step_code.name types;
    release = release;
  }

  pub by_change : {function : Fn} {callee : Callee} → calls.Compiled name 𝓛 𝓜 𝓡 1 [] (call function callee)
      → Wired 𝓡.env step_code.code → Wired 𝓡.env release_code.code → calls.Method name 𝓛 𝓜 𝓡 1 [] (call function callee)
  by_change its w w' = calls.by-unary name 𝓛 𝓜 𝓡 1 [] its (step_met.met 𝓤 𝓛 𝓜 𝓡 w S LS s d d' ms md)
      (release_met 𝓤 𝓛 𝓜 𝓡 w' (passed_row name) (passed_laws name))
