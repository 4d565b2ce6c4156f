-- A chain call whose body is `release(self.step_x(constants, arguments))`: the constants are variants without fields, and each argument is moved or copied.
-- The proof of such a call is one use of these. `change` is what the call does.
-- There is one for each list of arguments: a step of the body is decided by computing on the locals, so their number must be known.
use Rattle.sql_parts.proofs.chains.Prelude.{lit, join, split, fsplit, use1, ◌⊛◌, ◌≡◌, ℕ, List, [], ◌∷◌, refl, sym, subst, proved_at, leaves, Val, vptr, raw, ‵}
use Rattle.sql_parts.proofs.chains.Prelude.{tables, ◌$◌, ◌∵◌, !, qed, move, fjoin, nothing, use0, enter, addr, stop, no_more, and_then, returns, alloc_all}
use Rattle.sql_parts.proofs.chains.Prelude.{pass_all, free_all, look_at, get, through, sets, of_opd, lands_as, plain, calls_at, triple_of, Stays, stay_dropped}
use Rattle.sql_parts.proofs.chains.Prelude.{Goes-spent_ref, walk_of, framed, SProp, ent, sem, Item, Seq, Step, step, Go, prop, WpFn, no, by, Ura, Logic}
use Rattle.sql_parts.proofs.chains.Prelude.{RattleType, MutBor, id⊢, regoal, allocs, params', runs, at_ret}
use Rattle.sql_parts.proofs.chains.LoanLemmas.{Effect, BorrowedType, in_a_local, release_triple, Good, Kept, Bare, kept_lawful, bare_lawful, fits, loan_says}
use Rattle.sql_parts.proofs.chains.LoanLemmas.{says, returned, releases, Argument, Constant, also, keeps, put, puts, after, owned}
use Rattle.sql_parts.proofs.Imports.{suc, w8, fsep, emp, Lfts, Outlives, toks, Running, Model, Closed, Ises, Are, layout, Denots, Valss, owns, MutRef}
use Rattle.sql_parts.proofs.Imports.{Bool, true, false, Signature, Slot, mut_ref, type_at, types_at, Triple, AllGo, has_of, fits_of}
use mir.Syntax.{Callee, Fn, Local, Body, ty_ref, mut, erased, named, value_local, local, seq, assign, call, return, place, copy, addr_of, rv_opd, deref}
use mir.Syntax.{Opd as Operand, aggregate, int}
use types.Part.{agg}
use denote.Memory.{pointee}
use denote.Triple.Clauses.{Ended, Clauses, closing, Lasts}
use denote.Triple.End.{Kepts, Fins}
use denote.Triple.Spec.{Meets}
use Rattle.std.specs.contracts.result.Result as RS
use Rattle.sql_parts.specs.contracts.error.SqlBuilderError.{the_row as E}
use Rattle.sql_parts.specs.contracts.loan.Loan as loan

-- nothing is had of an argument at exit
abbrev pub dropped : {m : ℕ} (ss : List (Slot m)) (ks : Kepts ss) → Stays ss ks
dropped [] ks = tt
dropped (s ∷ ss) ks = (stay_dropped s ks.0, dropped ss ks.1)

abbrev pub fine : {m : ℕ} (κs : Lfts m) (ss : List (Slot m)) (ks : Kepts ss) (a : Denots (types_at ss κs)) (ws : Fins κs ss ks a)
    → fits_of κs ss ks (dropped ss ks) a ws
fine κs [] ks a ws = tt
fine κs (s ∷ ss) ks a ws = (tt, fine κs ss ks.1 a.1 ws.1)

pub had : {M : Type 1} {𝓤 : Ura M} (𝓛 : Logic 𝓤) {m : ℕ} (κs : Lfts m) (ss : List (Slot m)) (ks : Kepts ss) (a : Denots (types_at ss κs))
    (ws : Fins κs ss ks a) (vss : Valss (types_at ss κs))
    → ent 𝓤 (emp 𝓤) (sem 𝓛 (has_of κs ss ks (dropped ss ks) a ws vss))
had {𝓤 = 𝓤} 𝓛 κs [] ks a ws vss = id⊢ 𝓤 (emp 𝓤)
had {𝓤 = 𝓤} 𝓛 κs (s ∷ ss) ks a ws vss = qed 𝓛 [] ∵ use0 𝓛 (‵ (has_of κs ss ks.1 (dropped ss ks.1) a.1 ws.1 vss.1)) (had 𝓛 κs ss ks.1 a.1 ws.1 vss.1) $ nothing
    ! $ fjoin ! $ by ! (id⊢ 𝓤 _)

module _ (L : BorrowedType) {M : Type 1} {𝓤 : Ura M} (𝓛 : Logic 𝓤) (𝓜 : Model 𝓤 𝓛.H) (𝓡 : Running 𝓤 𝓛.H 𝓜) (n : ℕ) (os : List (Outlives (suc n))) where
  abbrev D₀ : Type 0
  D₀ = L.row.Denot

  -- the locals that each call has: the result, the borrow, what `step_x` returned, and the borrow again
  abbrev pub l0 : Local
  l0 = local (layout (RS.the_row (MutRef (named 0) [] L.row) E)) value_local

  abbrev pub l1 : Local
  l1 = local (ty_ref (named 0) mut (pointee L.row.written)) value_local

  abbrev pub kept : Local
  kept = local (layout (RS.the_row (loan.the_row in_a_local L.row) E)) value_local

  abbrev pub borrowed : Local
  borrowed = local (ty_ref erased mut (pointee L.row.written)) value_local

  abbrev pub self : Slot (suc n)
  self = mut_ref 0 tt (λ _. L.row)

  abbrev pub signature : List (Slot (suc n)) → (Lfts (suc n) → RattleType) → Signature
  signature ss Out = record { lifetimes = suc n; outlives = os; params = self ∷ ss; result = plain Out }

  -- the arguments' slots, what `ended` has of each, the `requires`, and what `ok` says
  module _ (ss : List (Slot (suc n))) (ks : Kepts ss) (asks : (κs : Lfts (suc n)) → MutBor D₀ × Denots (types_at ss κs) → SProp 𝓤)
      (change : (κs : Lfts (suc n)) → MutBor D₀ × (Denots (types_at ss κs)) → Effect D₀) where
    abbrev pub D : Ended
    D = record { signature = signature ss (λ κs. Kept 𝓛 L κs.0); kept = (no, ks) }

    abbrev pub T : Ended
    T = record { signature = signature ss (λ κs. Bare 𝓛 L κs.0); kept = (no, ks) }

    abbrev pub e : Clauses 𝓤 D
    e κs a = record { ghost = Unit {0}; requires = λ _. asks κs a; ensures = λ _ r _. loan_says 𝓛 L a.0 (change κs a) r }

    abbrev pub c : Clauses 𝓤 T
    c κs a = record { ghost = Unit {0}; requires = λ _. asks κs a; ensures = λ _ r _. says 𝓛 L a.0 (change κs a) r }

    abbrev pub hs : Stays T.signature.params T.kept
    hs = (stay_dropped self no, dropped ss ks)

    abbrev pub MeetsAsCallee : Callee → Type 1
    MeetsAsCallee k = Meets 𝓛 D.signature (𝓡.run (𝓡.env k)) (closing 𝓛 D e)

    abbrev pub Release : Callee → Type 1
    Release k = Triple 𝓤 (𝓡.run (𝓡.env k)) (release_triple 𝓛 L)

    abbrev pub Chains : Callee → Type 1
    Chains k = Meets 𝓛 T.signature (𝓡.run (𝓡.env k)) (closing 𝓛 T c)

    abbrev pub Is_code : Callee → Fn → Type 2
    Is_code = Closed 𝓤 𝓛.H (tables 𝓤 𝓛.H 𝓜 𝓡 𝓡.env).C (tables 𝓤 𝓛.H 𝓜 𝓡 𝓡.env).Λ

    abbrev pub Goes_all : Type 1
    Goes_all = AllGo 𝓛 (suc n) ss ks (dropped ss ks)

    abbrev pub Ghost : Type 0
    Ghost = (walk_of 𝓛 T hs c).Ghost

    abbrev pub pre_of : Ghost → SProp 𝓤
    pre_of y = (triple_of 𝓛 D.signature (closing 𝓛 D e)).pre y

    abbrev pub Walk : Ghost → Fn → Type 1
    Walk y fn = ent 𝓤 ((walk_of 𝓛 T hs c).pre y)
        (WpFn 𝓤 𝓛.H (tables 𝓤 𝓛.H 𝓜 𝓡 𝓡.env).C (tables 𝓤 𝓛.H 𝓜 𝓡 𝓡.env).Λ fn ((walk_of 𝓛 T hs c).args y) ((walk_of 𝓛 T hs c).post y))

    -- the theorem, from a walk at machine values that the arguments say
    pub chains : (fn : Fn) (name : Callee) → Is_code name fn → Goes_all
        → ((y : Ghost) → Are (types_at ss y.0.0) (Ises (types_at ss y.0.0)) y.0.3.1 y.0.4.1 → (vss : Valss (types_at ss y.0.0))
        × ((y.0.4.1 ≡ vss) × Walk ((y.0.0, y.0.1, y.0.2, y.0.3, (vptr y.0.3.0.ref_ptr.0 y.0.3.0.ref_ptr.1 ∷ [], vss)), y.1) fn))
        → Chains name
    chains fn name closed goes walk =
        proved_at 𝓛 T hs c 𝓜 𝓡 (Goes-spent_ref 𝓛 (suc n) (0 ∷ []) tt (plain (λ _. L.row)), goes) name fn closed (λ y are.
        let w = walk y are.1 in
        subst (λ (vss : Valss (types_at (self ∷ ss) y.0.0)). Walk ((y.0.0, y.0.1, y.0.2, y.0.3, vss), y.1) fn) (λ i. (sym are.0.0 i, sym w.1.0 i)) w.1.1)

    pub ends : (y : Ghost) (u : Val) (t : (Bare 𝓛 L y.0.0.0).Denot) (ws : Lasts T y.0.0 y.0.3)
        → Seq Go 𝓛 (‵ ((Bare 𝓛 L y.0.0.0).own_val t (u ∷ [])) ∷ raw (says 𝓛 L y.0.3.0 (change y.0.0 y.0.3) t) ∷ raw (toks 𝓛 (suc n) y.0.0 y.0.1) ∷ [])
        (prop ((walk_of 𝓛 T hs c).post y u))
    ends y u t ws = use0 𝓛 (‵ (has_of y.0.0 (self ∷ ss) (no, ks) hs y.0.3 ws y.0.4)) (had 𝓛 y.0.0 (self ∷ ss) (no, ks) y.0.3 ws y.0.4) $ move !
        (3 ∷ 0 ∷ 1 ∷ 2 ∷ []) $
        by ! (leaves 𝓛 T hs c y u t ws (fine y.0.0 (self ∷ ss) (no, ks) y.0.3 ws))

  -- the constants, and then the arguments
  module _ (Cs : List (Constant 𝓛)) (ss : List (Slot (suc n))) where
    abbrev pub change' : ((κs : Lfts (suc n)) → MutBor D₀ × Denots (types_at (also 𝓛 Cs ss) κs) → Effect D₀) → (κs : Lfts (suc n)) → MutBor D₀
        × Denots (types_at ss κs) → Effect D₀
    change' change κs a = change κs (a.0, put 𝓛 κs Cs ss a.1)

    abbrev pub asks' : ((κs : Lfts (suc n)) → MutBor D₀ × Denots (types_at (also 𝓛 Cs ss) κs) → SProp 𝓤) → (κs : Lfts (suc n)) → MutBor D₀
        × Denots (types_at ss κs) → SProp 𝓤
    asks' asked κs a = asked κs (a.0, put 𝓛 κs Cs ss a.1)

    module _ (ks : Kepts ss) (asked : (κs : Lfts (suc n)) → MutBor D₀ × Denots (types_at (also 𝓛 Cs ss) κs) → SProp 𝓤)
        (change : (κs : Lfts (suc n)) → MutBor D₀ × Denots (types_at (also 𝓛 Cs ss) κs) → Effect D₀) where
      abbrev pub more : Ghost ss ks (asks' asked) (change' change) → Ghost (also 𝓛 Cs ss) (keeps 𝓛 Cs ss ks) asked change
      more y = ((y.0.0, y.0.1, y.0.2, (y.0.3.0, put 𝓛 y.0.0 Cs ss y.0.3.1), (y.0.4.0, puts 𝓛 y.0.0 Cs ss y.0.4.1)), tt)

      pub widened : (y : Ghost ss ks (asks' asked) (change' change))
          → ent 𝓤 (pre_of ss ks (asks' asked) (change' change) y) (pre_of (also 𝓛 Cs ss) (keeps 𝓛 Cs ss ks) asked change (more y))
      widened y =
          let a = y.0.3 in let κs = y.0.0 in let own = (type_at self κs).own_val a.0 y.0.4.0 in
          qed 𝓛 (((raw (toks 𝓛 (suc n) κs y.0.1) ⊛ ‵ (fsep own (owns (types_at ss κs) a.1 y.0.4.1))) ⊛ raw (asked κs (a.0, put 𝓛 κs Cs ss a.1))) ∷ []) ∵
          split ! $ split ! $ move ! (1 ∷ []) $ fsplit ! $ move ! (1 ∷ []) $ use1 𝓛
          (‵ (owns (types_at (also 𝓛 Cs ss) κs) (put 𝓛 κs Cs ss a.1) (puts 𝓛 κs Cs ss y.0.4.1))) (owned 𝓛 κs Cs ss a.1 y.0.4.1) $
          move ! (1 ∷ 0 ∷ []) $ fjoin ! $ move ! (1 ∷ 0 ∷ []) $ join ! $ join ! $ by ! (id⊢ 𝓤 _)

  -- an argument, and whether the call moves it to its step, or copies it
  abbrev pub Passed : Type 2
  Passed = Bool × Argument 𝓛 (suc n)

  abbrev pub moved : Argument 𝓛 (suc n) → Passed
  moved A = (true, A)

  abbrev pub copied : Argument 𝓛 (suc n) → Passed
  copied A = (false, A)

  abbrev pub slots : List Passed → List (Slot (suc n))
  slots [] = []
  slots (A ∷ As) = plain A.1.row ∷ slots As

  abbrev kepts : (As : List Passed) → Kepts (slots As)
  kepts [] = tt
  kepts (A ∷ As) = (A.1.kept, kepts As)

  all_go : (As : List Passed) → AllGo 𝓛 (suc n) (slots As) (kepts As) (dropped (slots As) (kepts As))
  all_go [] = tt
  all_go (A ∷ As) = (A.1.goes, all_go As)

  -- the arguments' machine values, one each, and that they are of the arguments' types
  abbrev Words : List Passed → Type 0
  Words [] = Unit {0}
  Words (A ∷ As) = Val × Words As

  abbrev Goods : (As : List Passed) → Words As → Type 0
  Goods [] ws = Unit {0}
  Goods (A ∷ As) ws = Good A.1.ty ws.0 × Goods As ws.1

  module _ (κs : Lfts (suc n)) where
    abbrev words : (As : List Passed) → Words As → Valss (types_at (slots As) κs)
    words [] ws = tt
    words (A ∷ As) ws = (ws.0 ∷ [], words As ws.1)

    ones : (As : List Passed) (a : Denots (types_at (slots As) κs)) (vss : Valss (types_at (slots As) κs))
        → Are (types_at (slots As) κs) (Ises (types_at (slots As) κs)) a vss → (ws : Words As) × ((vss ≡ words As ws) × Goods As ws)
    ones [] a vss are = (tt, (refl, tt))
    ones (A ∷ As) a vss are =
        let one = A.1.one κs a.0 vss.0 are.0 in let more = ones As a.1 vss.1 are.1 in
        ((one.0, more.0), ((λ i. (one.1.0 i, more.1.0 i)), (one.1.1, more.1.1)))

  -- the code: the locals, and the body, in which constants and arguments are put into locals from the j-th on
  abbrev argument_locals : List Passed → List Local → List Local
  argument_locals [] ls = ls
  argument_locals (A ∷ As) ls = local A.1.ty value_local ∷ argument_locals As ls

  abbrev moved_locals : List Passed → List Local
  moved_locals [] = []
  moved_locals ((true, A) ∷ As) = local A.ty value_local ∷ moved_locals As
  moved_locals ((false, A) ∷ As) = moved_locals As

  abbrev constant_locals : List (Constant 𝓛) → List Local → List Local
  constant_locals [] ls = ls
  constant_locals (C ∷ Cs) ls = local (layout C.row) value_local ∷ constant_locals Cs ls

  abbrev count : {X : Type 2} → List X → ℕ
  count [] = 0
  count (x ∷ xs) = suc (count xs)

  abbrev puts_arguments : ℕ → ℕ → List Passed → Body → Body
  puts_arguments i j [] rest = rest
  puts_arguments i j ((true, A) ∷ As) rest = seq (assign (place j []) (rv_opd (copy (place i [])))) (puts_arguments (suc i) (suc j) As rest)
  puts_arguments i j ((false, A) ∷ As) rest = puts_arguments (suc i) j As rest

  abbrev puts_constants : ℕ → List (Constant 𝓛) → (ℕ → Body) → Body
  puts_constants j [] rest = rest j
  puts_constants j (C ∷ Cs) rest = seq (assign (place j []) (aggregate (int w8 C.tag ∷ []))) (puts_constants (suc j) Cs rest)

  abbrev argument_operands : ℕ → ℕ → List Passed → List Operand
  argument_operands i j [] = []
  argument_operands i j ((true, A) ∷ As) = copy (place j []) ∷ argument_operands (suc i) (suc j) As
  argument_operands i j ((false, A) ∷ As) = copy (place i []) ∷ argument_operands (suc i) j As

  abbrev operands : ℕ → List (Constant 𝓛) → List Passed → List Operand
  operands j [] As = argument_operands 2 j As
  operands j (C ∷ Cs) As = copy (place j []) ∷ operands (suc j) Cs As

  abbrev body : ℕ → List (Constant 𝓛) → List Passed → Callee → Callee → Body
  body k Cs As step release = seq (assign (place (suc k) []) (addr_of (place 1 (deref (layout L.row) ∷ []))))
      (puts_constants (suc (suc k)) Cs (λ j. puts_arguments 2 j As
      (seq (call step (copy (place (suc k) []) ∷ operands (suc (suc k)) Cs As) (place k []))
      (seq (call release (copy (place k []) ∷ []) (place 0 [])) (return)))))

  abbrev pub Asks : List (Constant 𝓛) → List Passed → Type 2
  Asks Cs As = (κs : Lfts (suc n)) → MutBor D₀ × Denots (types_at (also 𝓛 Cs (slots As)) κs) → SProp 𝓤

  abbrev pub Changes : List (Constant 𝓛) → List Passed → Type 1
  Changes Cs As = (κs : Lfts (suc n)) → MutBor D₀ × Denots (types_at (also 𝓛 Cs (slots As)) κs) → Effect D₀

  -- a chain call: what it asks and does, its code, its name, and the names of its step and of `release`
  pub record Call (Cs : List (Constant 𝓛)) (As : List Passed) : Type 2 where
    pub asked : Asks Cs As
    pub change : Changes Cs As
    pub function : Fn
    pub name : Callee
    pub step : Callee
    pub release : Callee

  module _ {Cs : List (Constant 𝓛)} {As : List Passed} (K : Call Cs As) where
    abbrev its_locals : List Local
    its_locals = l0 ∷ l1 ∷ argument_locals As (kept ∷ borrowed ∷ constant_locals Cs (moved_locals As))

    abbrev its_body : Body
    its_body = body (suc (suc (count As))) Cs As K.step K.release

    abbrev Code : Type 0
    Code = (K.function.locals ≡ its_locals) × (K.function.body ≡ its_body)

    abbrev asks : (κs : Lfts (suc n)) → MutBor D₀ × Denots (types_at (slots As) κs) → SProp 𝓤
    asks = asks' Cs (slots As) K.asked

    abbrev does : (κs : Lfts (suc n)) → MutBor D₀ × Denots (types_at (slots As) κs) → Effect D₀
    does = change' Cs (slots As) K.change

    abbrev Coded : Type 2
    Coded = Is_code (slots As) (kepts As) asks does K.name K.function

    pub record Compiled : Type 2 where
      pub code : Code
      pub closed : Coded

    abbrev pub StepMeets : Type 1
    StepMeets = MeetsAsCallee (also 𝓛 Cs (slots As)) (keeps 𝓛 Cs (slots As) (kepts As)) K.asked K.change K.step

    abbrev pub Releases : Type 1
    Releases = Release (slots As) (kepts As) asks does K.release

    abbrev pub Method : Type 1
    Method = Chains (slots As) (kepts As) asks does K.name

    abbrev Entry : Type 0
    Entry = Ghost (slots As) (kepts As) asks does

    abbrev StepEnded : Ended
    StepEnded = D (also 𝓛 Cs (slots As)) (keeps 𝓛 Cs (slots As) (kepts As)) K.asked K.change

    abbrev step_clauses : Clauses 𝓤 StepEnded
    step_clauses = e (also 𝓛 Cs (slots As)) (keeps 𝓛 Cs (slots As) (kepts As)) K.asked K.change

    -- the entry with one machine value for each argument, and that of the step
    abbrev entry : Entry → Words As → Entry
    entry y ws = ((y.0.0, y.0.1, y.0.2, y.0.3, (vptr y.0.3.0.ref_ptr.0 y.0.3.0.ref_ptr.1 ∷ [], words y.0.0 As ws)), tt)

    abbrev at_entry : Entry → SProp 𝓤
    at_entry = pre_of (slots As) (kepts As) asks does

    abbrev step_entry : Entry → Ghost (also 𝓛 Cs (slots As)) (keeps 𝓛 Cs (slots As) (kepts As)) K.asked K.change
    step_entry = more Cs (slots As) (kepts As) K.asked K.change

    abbrev at_step : Entry → SProp 𝓤
    at_step y = pre_of (also 𝓛 Cs (slots As)) (keeps 𝓛 Cs (slots As) (kepts As)) K.asked K.change (step_entry y)

    widens : (y : Entry) → ent 𝓤 (at_entry y) (at_step y)
    widens = widened Cs (slots As) (kepts As) K.asked K.change

    -- the code is the function's
    begins : Code → {Γ : List (Item 𝓤)} (vs : List Val) (Post : Val → SProp 𝓤) → let 𝓣 = tables 𝓤 𝓛.H 𝓜 𝓡 𝓡.env in
        Step Go 𝓛 Γ (allocs its_locals (λ Ev. params' Ev vs (runs 𝓣.C 𝓣.Λ Ev its_body (at_ret Ev Post)))) Γ
        (prop (WpFn 𝓤 𝓛.H 𝓣.C 𝓣.Λ K.function vs Post))
    begins code vs Post = step (λ k.
        let 𝓣 = tables 𝓤 𝓛.H 𝓜 𝓡 𝓡.env in
        enter ! 𝓣.C 𝓣.Λ K.function vs Post $
        regoal ! (λ (z : List Local × Body). allocs z.0 (λ Ev. params' Ev vs (runs 𝓣.C 𝓣.Λ Ev z.1 (at_ret Ev Post)))) {x = (its_locals, its_body)}
        (λ i. (code.0 i, code.1 i)) refl $
        k)

    -- the end of the call, from the end of the step
    finishes : (y : Entry) (u : Val) (t : (Bare 𝓛 L y.0.0.0).Denot) (ws : Lasts StepEnded (step_entry y).0.0 (step_entry y).0.3)
        → Seq Go 𝓛 (‵ ((Bare 𝓛 L y.0.0.0).own_val t (u ∷ [])) ∷ raw (says 𝓛 L y.0.3.0 (does y.0.0 y.0.3) t) ∷ raw (toks 𝓛 (suc n) y.0.0 y.0.1) ∷ [])
        (prop ((walk_of 𝓛 (T (slots As) (kepts As) asks does) (hs (slots As) (kepts As) asks does) (c (slots As) (kepts As) asks does)).post y u))
    finishes y u t ws = ends (slots As) (kepts As) asks does y u t (ws.0, after 𝓛 y.0.0 Cs (slots As) (kepts As) y.0.3.1 ws.1)

    abbrev Walked : Type 1
    Walked = (y : Entry) (ws : Words As) → Goods As ws → Walk (slots As) (kepts As) asks does (entry y ws) K.function

    proved : Coded → Walked → Method
    proved closed walk = chains (slots As) (kepts As) asks does K.function K.name closed (all_go As) (λ y are.
        let x = ones y.0.0 As y.0.3.1 y.0.4.1 are in (words y.0.0 As x.0, (x.1.0, walk y x.0 x.1.1)))

  -- neither a constant nor an argument
  pub by-nullary : {K : Call [] []} → Compiled K → StepMeets K → Releases K → Method K
  by-nullary {K = K} its met release_met = proved K its.closed (λ y₀ ws good.
      let fm = framed 𝓤 𝓛.H 𝓜 (tables 𝓤 𝓛.H 𝓜 𝓡 𝓡.env) in let y : Entry K = entry K y₀ ws in
      qed 𝓛 (raw (at_entry K y) ∷ []) ∵ begins K its.code _ _ $ alloc_all ! (λ l. pass_all ! refl ((tt, tt), good) $
      sets ! (addr ! (through ! refl (stop !))) refl (tt, tt) $
      use1 𝓛 (raw (at_step K y)) (widens K y) $
      calls_at ! fm _ met (step_entry K y) (and_then ! (get ! refl) (no_more !)) (λ v.
      returned ! tt (StepEnded K) (step_clauses K) (step_entry K y) v (λ r ws is.
      lands_as ! refl refl (fits 𝓛 L y.0.0.0 v ((kept_lawful 𝓛 L y.0.0.0).typed r (v ∷ []) is)) $
      releases L ! fm release_met n y.0.0 y.0.1 y.0.3.0 (does K y.0.0 y.0.3) r v (and_then ! (get ! refl) (no_more !)) (λ u t is'.
      lands_as ! refl refl ((bare_lawful 𝓛 L y.0.0.0).typed t (u ∷ []) is').0 $
      returns ! (look_at ! 0 refl) $ free_all ! refl $ finishes K y u t ws)))))

  -- a constant and an argument that is moved
  pub by-unary : {X : Constant 𝓛} {A : Argument 𝓛 (suc n)} {K : Call (X ∷ []) (moved A ∷ [])} → Compiled K → StepMeets K → Releases K → Method K
  by-unary {X = X} {K = K} its met release_met = proved K its.closed (λ y₀ ws good.
      let fm = framed 𝓤 𝓛.H 𝓜 (tables 𝓤 𝓛.H 𝓜 𝓡 𝓡.env) in let y : Entry K = entry K y₀ ws in
      qed 𝓛 (raw (at_entry K y) ∷ []) ∵ begins K its.code _ _ $ alloc_all ! (λ l. pass_all ! refl ((tt, tt), good) $
      sets ! (addr ! (through ! refl (stop !))) refl (tt, tt) $
      sets ! (agg ! (and_then ! (lit ! X.is_byte) (no_more !))) refl X.good $ sets ! (of_opd ! (get ! refl)) refl good.0 $
      use1 𝓛 (raw (at_step K y)) (widens K y) $
      calls_at ! fm _ met (step_entry K y) (and_then ! (get ! refl) (and_then ! (get ! refl) (and_then ! (get ! refl) (no_more !)))) (λ v.
      returned ! tt (StepEnded K) (step_clauses K) (step_entry K y) v (λ r ws is.
      lands_as ! refl refl (fits 𝓛 L y.0.0.0 v ((kept_lawful 𝓛 L y.0.0.0).typed r (v ∷ []) is)) $
      releases L ! fm release_met n y.0.0 y.0.1 y.0.3.0 (does K y.0.0 y.0.3) r v (and_then ! (get ! refl) (no_more !)) (λ u t is'.
      lands_as ! refl refl ((bare_lawful 𝓛 L y.0.0.0).typed t (u ∷ []) is').0 $
      returns ! (look_at ! 0 refl) $ free_all ! refl $ finishes K y u t ws)))))

  -- a constant and an argument that is copied
  pub by-variadic : {X : Constant 𝓛} {A : Argument 𝓛 (suc n)} {K : Call (X ∷ []) (copied A ∷ [])} → Compiled K → StepMeets K → Releases K → Method K
  by-variadic {X = X} {K = K} its met release_met = proved K its.closed (λ y₀ ws good.
      let fm = framed 𝓤 𝓛.H 𝓜 (tables 𝓤 𝓛.H 𝓜 𝓡 𝓡.env) in let y : Entry K = entry K y₀ ws in
      qed 𝓛 (raw (at_entry K y) ∷ []) ∵ begins K its.code _ _ $ alloc_all ! (λ l. pass_all ! refl ((tt, tt), good) $
      sets ! (addr ! (through ! refl (stop !))) refl (tt, tt) $
      sets ! (agg ! (and_then ! (lit ! X.is_byte) (no_more !))) refl X.good $
      use1 𝓛 (raw (at_step K y)) (widens K y) $
      calls_at ! fm _ met (step_entry K y) (and_then ! (get ! refl) (and_then ! (get ! refl) (and_then ! (get ! refl) (no_more !)))) (λ v.
      returned ! tt (StepEnded K) (step_clauses K) (step_entry K y) v (λ r ws is.
      lands_as ! refl refl (fits 𝓛 L y.0.0.0 v ((kept_lawful 𝓛 L y.0.0.0).typed r (v ∷ []) is)) $
      releases L ! fm release_met n y.0.0 y.0.1 y.0.3.0 (does K y.0.0 y.0.3) r v (and_then ! (get ! refl) (no_more !)) (λ u t is'.
      lands_as ! refl refl ((bare_lawful 𝓛 L y.0.0.0).typed t (u ∷ []) is').0 $
      returns ! (look_at ! 0 refl) $ free_all ! refl $ finishes K y u t ws)))))

  -- a constant and two arguments that are moved
  pub by-binary : {X : Constant 𝓛} {A B : Argument 𝓛 (suc n)} {K : Call (X ∷ []) (moved A ∷ moved B ∷ [])} → Compiled K → StepMeets K → Releases K → Method K
  by-binary {X = X} {K = K} its met release_met = proved K its.closed (λ y₀ ws good.
      let fm = framed 𝓤 𝓛.H 𝓜 (tables 𝓤 𝓛.H 𝓜 𝓡 𝓡.env) in let y : Entry K = entry K y₀ ws in
      qed 𝓛 (raw (at_entry K y) ∷ []) ∵ begins K its.code _ _ $ alloc_all ! (λ l. pass_all ! refl ((tt, tt), good) $
      sets ! (addr ! (through ! refl (stop !))) refl (tt, tt) $
      sets ! (agg ! (and_then ! (lit ! X.is_byte) (no_more !))) refl X.good $ sets ! (of_opd ! (get ! refl)) refl good.0 $
      sets ! (of_opd ! (get ! refl)) refl good.1.0 $
      use1 𝓛 (raw (at_step K y)) (widens K y) $
      calls_at ! fm _ met (step_entry K y) (and_then ! (get ! refl) (and_then ! (get ! refl) (and_then ! (get ! refl) (and_then ! (get ! refl) (no_more !))))) (λ v.
      returned ! tt (StepEnded K) (step_clauses K) (step_entry K y) v (λ r ws is.
      lands_as ! refl refl (fits 𝓛 L y.0.0.0 v ((kept_lawful 𝓛 L y.0.0.0).typed r (v ∷ []) is)) $
      releases L ! fm release_met n y.0.0 y.0.1 y.0.3.0 (does K y.0.0 y.0.3) r v (and_then ! (get ! refl) (no_more !)) (λ u t is'.
      lands_as ! refl refl ((bare_lawful 𝓛 L y.0.0.0).typed t (u ∷ []) is').0 $
      returns ! (look_at ! 0 refl) $ free_all ! refl $ finishes K y u t ws)))))

  -- an argument that is moved, and one that is copied
  pub by-flagged : {A B : Argument 𝓛 (suc n)} {K : Call [] (moved A ∷ copied B ∷ [])} → Compiled K → StepMeets K → Releases K → Method K
  by-flagged {K = K} its met release_met = proved K its.closed (λ y₀ ws good.
      let fm = framed 𝓤 𝓛.H 𝓜 (tables 𝓤 𝓛.H 𝓜 𝓡 𝓡.env) in let y : Entry K = entry K y₀ ws in
      qed 𝓛 (raw (at_entry K y) ∷ []) ∵ begins K its.code _ _ $ alloc_all ! (λ l. pass_all ! refl ((tt, tt), good) $
      sets ! (addr ! (through ! refl (stop !))) refl (tt, tt) $
      sets ! (of_opd ! (get ! refl)) refl good.0 $
      use1 𝓛 (raw (at_step K y)) (widens K y) $
      calls_at ! fm _ met (step_entry K y) (and_then ! (get ! refl) (and_then ! (get ! refl) (and_then ! (get ! refl) (no_more !)))) (λ v.
      returned ! tt (StepEnded K) (step_clauses K) (step_entry K y) v (λ r ws is.
      lands_as ! refl refl (fits 𝓛 L y.0.0.0 v ((kept_lawful 𝓛 L y.0.0.0).typed r (v ∷ []) is)) $
      releases L ! fm release_met n y.0.0 y.0.1 y.0.3.0 (does K y.0.0 y.0.3) r v (and_then ! (get ! refl) (no_more !)) (λ u t is'.
      lands_as ! refl refl ((bare_lawful 𝓛 L y.0.0.0).typed t (u ∷ []) is').0 $
      returns ! (look_at ! 0 refl) $ free_all ! refl $ finishes K y u t ws)))))

  -- two constants and two arguments that are moved
  pub by-chosen-binary : {X Y : Constant 𝓛} {A B : Argument 𝓛 (suc n)} {K : Call (X ∷ Y ∷ []) (moved A ∷ moved B ∷ [])} → Compiled K → StepMeets K → Releases K → Method K
  by-chosen-binary {X = X} {Y = Y} {K = K} its met release_met = proved K its.closed (λ y₀ ws good.
      let fm = framed 𝓤 𝓛.H 𝓜 (tables 𝓤 𝓛.H 𝓜 𝓡 𝓡.env) in let y : Entry K = entry K y₀ ws in
      qed 𝓛 (raw (at_entry K y) ∷ []) ∵ begins K its.code _ _ $ alloc_all ! (λ l. pass_all ! refl ((tt, tt), good) $
      sets ! (addr ! (through ! refl (stop !))) refl (tt, tt) $
      sets ! (agg ! (and_then ! (lit ! X.is_byte) (no_more !))) refl X.good $ sets ! (agg ! (and_then ! (lit ! Y.is_byte) (no_more !))) refl Y.good $
      sets ! (of_opd ! (get ! refl)) refl good.0 $ sets ! (of_opd ! (get ! refl)) refl good.1.0 $
      use1 𝓛 (raw (at_step K y)) (widens K y) $
      calls_at ! fm _ met (step_entry K y) (and_then ! (get ! refl) (and_then ! (get ! refl) (and_then ! (get ! refl) (and_then ! (get ! refl) (and_then ! (get ! refl) (no_more !)))))) (λ v.
      returned ! tt (StepEnded K) (step_clauses K) (step_entry K y) v (λ r ws is.
      lands_as ! refl refl (fits 𝓛 L y.0.0.0 v ((kept_lawful 𝓛 L y.0.0.0).typed r (v ∷ []) is)) $
      releases L ! fm release_met n y.0.0 y.0.1 y.0.3.0 (does K y.0.0 y.0.3) r v (and_then ! (get ! refl) (no_more !)) (λ u t is'.
      lands_as ! refl refl ((bare_lawful 𝓛 L y.0.0.0).typed t (u ∷ []) is').0 $
      returns ! (look_at ! 0 refl) $ free_all ! refl $ finishes K y u t ws)))))

  -- two constants, an argument that is moved and one that is copied
  pub by-chosen-listed : {X Y : Constant 𝓛} {A B : Argument 𝓛 (suc n)} {K : Call (X ∷ Y ∷ []) (moved A ∷ copied B ∷ [])} → Compiled K → StepMeets K → Releases K → Method K
  by-chosen-listed {X = X} {Y = Y} {K = K} its met release_met = proved K its.closed (λ y₀ ws good.
      let fm = framed 𝓤 𝓛.H 𝓜 (tables 𝓤 𝓛.H 𝓜 𝓡 𝓡.env) in let y : Entry K = entry K y₀ ws in
      qed 𝓛 (raw (at_entry K y) ∷ []) ∵ begins K its.code _ _ $ alloc_all ! (λ l. pass_all ! refl ((tt, tt), good) $
      sets ! (addr ! (through ! refl (stop !))) refl (tt, tt) $
      sets ! (agg ! (and_then ! (lit ! X.is_byte) (no_more !))) refl X.good $ sets ! (agg ! (and_then ! (lit ! Y.is_byte) (no_more !))) refl Y.good $
      sets ! (of_opd ! (get ! refl)) refl good.0 $
      use1 𝓛 (raw (at_step K y)) (widens K y) $
      calls_at ! fm _ met (step_entry K y) (and_then ! (get ! refl) (and_then ! (get ! refl) (and_then ! (get ! refl) (and_then ! (get ! refl) (and_then ! (get ! refl) (no_more !)))))) (λ v.
      returned ! tt (StepEnded K) (step_clauses K) (step_entry K y) v (λ r ws is.
      lands_as ! refl refl (fits 𝓛 L y.0.0.0 v ((kept_lawful 𝓛 L y.0.0.0).typed r (v ∷ []) is)) $
      releases L ! fm release_met n y.0.0 y.0.1 y.0.3.0 (does K y.0.0 y.0.3) r v (and_then ! (get ! refl) (no_more !)) (λ u t is'.
      lands_as ! refl refl ((bare_lawful 𝓛 L y.0.0.0).typed t (u ∷ []) is').0 $
      returns ! (look_at ! 0 refl) $ free_all ! refl $ finishes K y u t ws)))))

  -- two constants and three arguments that are moved
  pub by-chosen-ternary : {X Y : Constant 𝓛} {A B C : Argument 𝓛 (suc n)} {K : Call (X ∷ Y ∷ []) (moved A ∷ moved B ∷ moved C ∷ [])} → Compiled K → StepMeets K → Releases K → Method K
  by-chosen-ternary {X = X} {Y = Y} {K = K} its met release_met = proved K its.closed (λ y₀ ws good.
      let fm = framed 𝓤 𝓛.H 𝓜 (tables 𝓤 𝓛.H 𝓜 𝓡 𝓡.env) in let y : Entry K = entry K y₀ ws in
      qed 𝓛 (raw (at_entry K y) ∷ []) ∵ begins K its.code _ _ $ alloc_all ! (λ l. pass_all ! refl ((tt, tt), good) $
      sets ! (addr ! (through ! refl (stop !))) refl (tt, tt) $
      sets ! (agg ! (and_then ! (lit ! X.is_byte) (no_more !))) refl X.good $ sets ! (agg ! (and_then ! (lit ! Y.is_byte) (no_more !))) refl Y.good $
      sets ! (of_opd ! (get ! refl)) refl good.0 $ sets ! (of_opd ! (get ! refl)) refl good.1.0 $
      sets ! (of_opd ! (get ! refl)) refl good.1.1.0 $
      use1 𝓛 (raw (at_step K y)) (widens K y) $
      calls_at ! fm _ met (step_entry K y) (and_then ! (get ! refl) (and_then ! (get ! refl) (and_then ! (get ! refl) (and_then ! (get ! refl) (and_then ! (get ! refl) (and_then ! (get ! refl) (no_more !))))))) (λ v.
      returned ! tt (StepEnded K) (step_clauses K) (step_entry K y) v (λ r ws is.
      lands_as ! refl refl (fits 𝓛 L y.0.0.0 v ((kept_lawful 𝓛 L y.0.0.0).typed r (v ∷ []) is)) $
      releases L ! fm release_met n y.0.0 y.0.1 y.0.3.0 (does K y.0.0 y.0.3) r v (and_then ! (get ! refl) (no_more !)) (λ u t is'.
      lands_as ! refl refl ((bare_lawful 𝓛 L y.0.0.0).typed t (u ∷ []) is').0 $
      returns ! (look_at ! 0 refl) $ free_all ! refl $ finishes K y u t ws)))))
