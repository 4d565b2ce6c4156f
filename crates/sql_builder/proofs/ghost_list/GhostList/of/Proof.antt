-- A struct of no bytes is made, with the list that the caller picks. The prover makes no struct with ghost data by itself, so this
-- follows the code statement by statement.
use Rattle.sql_builder.proofs.Imports.{[], ◌∷◌, refl, a_type, named, inst_fn, tables, owns, plain, types_at}
use Rattle.std.proofs.raw_atomic.Walks.{proved}
use mir.Val.{Val, vnil, vptr, vstruct, vcons}
use types.Kit.{‵, raw, ◌⊛◌, ◌$◌, ◌∵◌, !, qed, keep, split, fjoin, suffices, move, done}
use types.Run.{enter, returns, and_then, no_more}
use types.ByLocal.{alloc_all, pass_all, free_all, look_at, get, sets}
use types.Part.{agg}
use denote.Exit.{yes}
use denote.Builtin.{RefOf}
use denote.Param.{param, layouts}
use denote.Ref.{shr_vals, shr_Tells}
use denote.Shadow.{pure_i}
use denote.Steps.{nothing}
use denote.Triple.Entry.{alive}
use denote.Triple.Walked.{says, ends_at, Stays, stay_dropped, walk_of, Goes-dropped}
use Rattle.sql_builder.specs.contracts.ghost_list.GhostList as List
use Rattle.sql_builder.specs.contracts.ghost_list.GhostList.of as f
use Rattle.sql_builder.specs.contracts.ghost_list.GhostList.of.Key.{name}
use Rattle.sql_builder.proofs.ghost_list.GhostList.of.Statement.{statement}
use Rattle.sql_builder.proofs.ghost_list.GhostList.of.Code as code

pub of_spec : {M : Type 1} → statement M
of_spec 𝓤 𝓛 𝓜 𝓡 wired T X LT LX =
    let 𝓣 = tables 𝓤 𝓛.H 𝓜 𝓡 𝓡.env in let En = f.ended T X in let c = f.clauses T X 𝓛 𝓜.mem 𝓡.returns in
    let inst = layouts (a_type ∷ a_type ∷ []) (T, (X, tt)) in let fn = inst_fn inst code.function in
    let from = RefOf (0 ∷ []) tt (plain (λ _. param 1 X)) (λ _. tt) in let hs : Stays En.signature.params En.kept = (stay_dropped from yes, tt) in
    proved 𝓛 En hs c 𝓜 𝓡 (Goes-dropped 𝓛 3 from yes (λ κs x d. refl), tt) (name inst) fn (code.unfolded 𝓤 𝓛.H 𝓜 𝓡 wired (T, (X, tt)))
    (λ κs. (shr_vals, tt)) (λ κs. (shr_Tells (named 0) κs.0 (param 1 X), tt)) (λ κs qs bounds a picked are.
    let p : Val = vptr a.0.ref_ptr.0 a.0.ref_ptr.1 in let y : (walk_of 𝓛 En hs c).Ghost = ((κs, qs, bounds, a, (p ∷ [], tt)), picked) in
    let made : (List.the_row (param 0 T)).Denot = record { of = record {}; items = picked } in let v : Val = vstruct (vcons (vstruct vnil) vnil) in
    qed 𝓛 ((raw (alive 𝓛 En.signature κs qs) ⊛ ‵ (owns (types_at En.signature.params κs) a y.0.4)) ∷ raw ((c κs a).requires picked) ∷ []) ∵
    split ! $ keep ! (0 ∷ []) $
    enter ! 𝓣.C 𝓣.Λ fn (p ∷ []) _ $ alloc_all ! (λ l. pass_all ! refl ((tt, tt), tt) $
    sets ! (agg ! (no_more !)) refl (tt, tt) $ sets ! (agg ! (and_then ! (get ! refl) (no_more !))) refl (tt, (tt, tt)) $
    returns ! (look_at ! 0 refl) $ free_all ! refl $
    suffices ! _ (ends_at 𝓛 En hs c y v made (tt, tt) (tt, tt)) $ says ! refl $
    pure_i ! ((List.the_row (param 0 T)).own_val made (v ∷ [])) ((λ vss. (tt, ((λ uss. (tt, tt)), tt))), tt)
    (((vstruct vnil ∷ [], tt), (refl, ((tt, (refl, tt)), tt))), tt) $
    nothing ! $ nothing ! $ fjoin ! $ move ! (2 ∷ 0 ∷ 1 ∷ []) $ done !))
