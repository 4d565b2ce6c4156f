-- The names that the proofs of calls that return a borrow use, passed on.
pub use Rattle.std.proofs.Common.{◌≡◌, ℕ, List, [], ◌∷◌, refl, sym, subst, lit<, MutBor}
pub use Rattle.std.proofs.raw_atomic.Walks.{proved_at, leaves}
pub use base.Logic.{id⊢, SProp, ent, sep}
pub use mir.Syntax.{named, a_type, dcons, dnil}
pub use mir.Val.{Val, vptr}
pub use contract.Monad.{fact}
pub use contract.Running.{tables}
pub use types.Kit.{‵, raw, ◌⊛◌, some, later, prop, at_ret, ◌$◌, ◌∵◌, !, qed, move, drop, use1, use2, split, join, fsplit, fjoin, pick, await, regoal, by, Go}
pub use types.Kit.{use0, allocs, params', runs, Item, Seq, Step, step, Goal, Soaks}
pub use types.Run.{enter, of_opd, lit, addr, stop, no_more, and_then, returns}
pub use types.ByLocal.{alloc_all, pass_all, free_all, look_at, get, through, sets, lands_as}
pub use denote.Exit.{yes, no}
pub use denote.Laws.{shows}
pub use denote.Ref.{MutRef}
pub use denote.Signature.{plain}
pub use denote.Steps.{nothing, heard, peeks}
pub use denote.Triple.Call.{calls_at}
pub use denote.Triple.Clauses.{lasts}
pub use denote.Triple.Spec.{triple_of}
pub use denote.Triple.Walked.{Stays, walk_of, stay_dropped, Goes-dropped, Goes-spent_ref}
pub use denote.Triple.Table.{framed}
pub use seplogic.Ra.Ura.{Ura}
pub use types.Logic.{Logic, sem}
pub use prog.Wp.{WpFn}
pub use denote.RattleType.{RattleType}
pub use denote.Param.{bounded}
pub use mir.MapTy.{inst_fn}
