-- What the proofs of the calls that return a borrow share. Such a call is `release(self.step_x(..))`.
use Rattle.sql_parts.proofs.chains.Prelude.{qed, by, use0, fjoin, ◌∵◌, !, plain, no, yes, Goes-dropped, stay_dropped, ◌≡◌, ℕ, List, [], ◌∷◌, refl, sym, subst}
use Rattle.sql_parts.proofs.chains.Prelude.{MutBor, id⊢, named, Val, fact, ‵, raw, ◌⊛◌, some, later, ◌$◌, move, drop, use1, use2, split, join, await, pick}
use Rattle.sql_parts.proofs.chains.Prelude.{shows, MutRef, nothing, heard, peeks, a_type, calls_at, lasts, triple_of, Ura, Logic, sem, Item, Seq, Goal, Soaks}
use Rattle.sql_parts.proofs.chains.Prelude.{SProp, ent, sep, RattleType}
use mir.Syntax.{Ty, erased, Callee, Opd as Operand, Body, seq, call, Place, ty_bool}
use mir.Raw.{raw as raw_type}
use mir.Val.{has_ty, WT, vstruct, vint, vcons, vnil}
use Rattle.sql_parts.proofs.Imports.{T, Env, Calls, Loops, ◌⊑◌, ⊑_static, Lfts, Shares, Within, lft_at, toks, Goes, Is, Lawful, Typed, NamedLft, mut_Lawful}
use Rattle.sql_parts.proofs.Imports.{arg, param, layout, layouts, Laws, arg_laws, param_laws, w8, ltb, emp, ◌^◌, type_at, Slot, types_at, Denots, Valss, owns}
use Rattle.sql_parts.proofs.Imports.{Contract, Triple, Result, Ok, Err, IfErr, suc, Lft, Share}
use types.Kit.{runs, lands, Post}
use types.Run.{Opds}
use prog.Erase.{raw-raw}
use sound.WpLaws.{FmC}
use contract.Fact.{fact_i}
use denote.Exit.{Kept as Keeps}
use denote.Enum.Enum.{Enum-Lawful, Plainss}
use denote.Enum.Declared.{shape, Declared, variants, row as enum_row}
use denote.Struct.Recorded.{recorded_lawful}
use denote.Plain.{Boolean, bool_Lawful}
use denote.Slice.{ShrSlice, shr_slice_Lawful}
use denote.Enum.Laws.{makes}
use denote.Triple.End.{Kepts, Fins}
use denote.Triple.Clauses.{Ended, Clauses, Lasts, at_exit, closing}
use denote.Triple.Entry.{alive, Res}
use Rattle.std.specs.contracts.result.Result as RS
use Rattle.std.specs.Result.{result_map_both}
use base.Fraction.{full_share}
use Rattle.sql_parts.specs.{IsChangedSoThat, IsLoanChangedSoThat, IsUnchangedIfErr, IsUnchangedIfLoanErr}
use Rattle.sql_parts.specs.declared.error.SqlBuilderError.{SqlBuilderError}
use Rattle.sql_parts.specs.contracts.error.SqlBuilderError.{the_row as E}
use Rattle.sql_parts.proofs.error.SqlBuilderError.TheLaws as error_laws
use Rattle.sql_parts.specs.declared.loan.Loan.{Loan}
use Rattle.sql_parts.specs.contracts.loan.Loan as loan
use Rattle.sql_parts.proofs.loan.Loan.TheLaws as loan_laws
use Rattle.sql_parts.specs.contracts.loan.release.Key as release_code

abbrev pub Good : Ty → Val → Type 0
Good τ v = T (has_ty τ v) × WT v

-- a list of machine values that is one value
pub one : (τ : Ty) (vs : List Val) → Typed (τ ∷ []) vs → (v : Val) × ((vs ≡ v ∷ []) × Good τ v)
one τ [] t = absurd t
one τ (v ∷ []) t = (v, (refl, t.0))
one τ (v ∷ w ∷ vs) t = absurd t.1

-- a type whose values are one machine value each, of the type τ
abbrev pub Singly : RattleType → Ty → Type 0
Singly Q τ = (x : Q.Denot) (vs : List Val) → Is Q x vs → (v : Val) × ((vs ≡ v ∷ []) × Good τ v)

-- a lifetime as the types of signatures name it, and as those of locals do
abbrev pub at : Lft → NamedLft
at κ = record { mir = named 0; lft = κ }

abbrev pub in_a_local : NamedLft
in_a_local = record { mir = erased; lft = [] }

-- a type that is borrowed: its row and its laws, and that it holds no loan itself
pub record BorrowedType : Type 2 where
  pub row : RattleType
  pub laws : Laws row
  pub holds_no_loan : [] ⊑ row.lives

-- the type as a call of `release` is passed it, and the call's name
abbrev pub passed_row : BorrowedType → RattleType
passed_row L = arg (raw_type (layout L.row)) no L.row

abbrev pub passed_laws : (L : BorrowedType) → Laws (passed_row L)
passed_laws L = arg_laws (raw_type (layout L.row)) no L.row L.laws (raw-raw (layout L.row))

abbrev pub release_name : BorrowedType → Callee
release_name L = release_code.name (layouts (a_type ∷ []) (passed_row L, tt))

-- what a call does: what holds of the value that it leaves where it succeeds, and how it fails
pub record Effect (D : Type 0) : Type 1 where
  pub leaves : D → Type 0
  pub fails : SqlBuilderError → Type 0

module _ {M : Type 1} {𝓤 : Ura M} (𝓛 : Logic 𝓤) where
  result_Lawful : (A B : RattleType) → Lawful 𝓛 A → Lawful 𝓛 B → Lawful 𝓛 (RS.the_row A B)
  result_Lawful A B la lb = recorded_lawful _ _ _ ((RS.the_type A B).to_one) 𝓛 (Enum-Lawful 𝓛 (shape (RS.the_type A B)) tt ((la, tt), ((lb, tt), tt)))

  module _ (L : BorrowedType) where
    abbrev pub Kept : Lft → RattleType
    Kept κ = RS.the_row (loan.the_row (at κ) L.row) E

    abbrev pub Bare : Lft → RattleType
    Bare κ = RS.the_row (MutRef (named 0) κ L.row) E

    pub kept_lawful : (κ : Lft) → Lawful 𝓛 (Kept κ)
    kept_lawful κ = result_Lawful _ _ ((loan_laws.the_row_laws (at κ) L.row L.laws).lawful 𝓛) ((error_laws.the_row_laws).lawful 𝓛)

    pub bare_lawful : (κ : Lft) → Lawful 𝓛 (Bare κ)
    bare_lawful κ = result_Lawful _ _ (mut_Lawful 𝓛 (named 0) κ L.row) ((error_laws.the_row_laws).lawful 𝓛)

    -- a result with a loan in it goes into a local
    pub fits : (κ : Lft) (v : Val) → Typed (Kept κ).mir (v ∷ []) → Good (layout (RS.the_row (loan.the_row in_a_local L.row) E)) v
    fits κ v t = t.0

    abbrev pub Holds : Type 0
    Holds = Result (Loan L.row.Denot) SqlBuilderError

    abbrev pub Lends : Type 0
    Lends = Result (MutBor L.row.Denot) SqlBuilderError

    abbrev pub released : Holds → Lends
    released r = result_map_both (λ loan. loan.0) (λ error. error) r

    -- the clauses of `step_x`, and those of `x`
    module _ (s : MutBor L.row.Denot) (x : Effect L.row.Denot) where
      abbrev pub loan_says : Holds → SProp 𝓤
      loan_says r = sep 𝓤 (sem 𝓛 (IsUnchangedIfLoanErr L.row s r)) (sep 𝓤 (fact 𝓤 (IsLoanChangedSoThat s x.leaves r)) (fact 𝓤 (IfErr r x.fails)))

      abbrev pub says : Lends → SProp 𝓤
      says r = sep 𝓤 (sem 𝓛 (IsUnchangedIfErr L.row s r)) (sep 𝓤 (fact 𝓤 (IsChangedSoThat s x.leaves r)) (fact 𝓤 (IfErr r x.fails)))

      passes : (r : Holds) → ent 𝓤 (loan_says r) (says (released r))
      passes (Ok h) = id⊢ 𝓤 _
      passes (Err e) = id⊢ 𝓤 _

      pub passed : (r : Holds) (t : Lends) → t ≡ released r → ent 𝓤 (loan_says r) (says t)
      passed r t e = subst (λ (u : Lends). ent 𝓤 (loan_says r) (says u)) (sym e) (passes r)

    -- what `release` says, at the loan's lifetime and at that of the loans in what is borrowed
    abbrev pub release_ended : Ended
    release_ended = record {
      signature = record {
        lifetimes = 2;
        outlives = record { long = 1; long_ok = tt; short = named 0; short_ok = tt } ∷ [];
        params = plain (λ κs. Kept κs.0) ∷ [];
        result = plain (λ κs. Bare κs.0);
      };
      kept = (no, tt);
    }

    abbrev pub release_clauses : Clauses 𝓤 release_ended
    release_clauses κs a = record {
      ghost = Unit {0};
      requires = λ _. sep 𝓤 (fact 𝓤 (κs.1.0 ⊑ L.row.lives)) (emp 𝓤);
      ensures = λ _ r _. fact 𝓤 (r ≡ released a.0);
    }

    abbrev pub release_triple : Contract 𝓤
    release_triple = triple_of 𝓛 release_ended.signature (closing 𝓛 release_ended release_clauses)

    -- the call of `release` with r, which is the machine value v
    abbrev pub release_call : (κ : Lft) (q : Share) → Holds → Val → release_triple.Ghost
    release_call κ q r v = (((κ, ([], tt)), (q, (full_share, tt)), (⊑_static κ, tt), (r, tt), (v ∷ [], tt)), tt)

module _ {M : Type 1} {𝓤 : Ura M} {𝓛 : Logic 𝓤} {K : Type 0} {Γ : List (Item 𝓤)} {G : Goal 𝓤 𝓛.H} where
  -- what a call left: the result, the `ensures` and the tokens
  pub returned : K → Soaks G → (D : Ended) (c : Clauses 𝓤 D) (y : (triple_of 𝓛 D.signature (closing 𝓛 D c)).Ghost) (v : Val)
      → ((r : Res D.signature y.0.0) (ws : Lasts D y.0.0 y.0.3) → Is (type_at D.signature.result y.0.0) r (v ∷ [])
      → Seq K 𝓛 (‵ ((type_at D.signature.result y.0.0).own_val r (v ∷ [])) ∷ raw ((c y.0.0 y.0.3).ensures y.1 r (at_exit D y.0.0 y.0.3 ws)) ∷ raw
      (alive 𝓛 D.signature y.0.0 y.0.1) ∷ Γ) G)
      → Seq K 𝓛 (raw ((triple_of 𝓛 D.signature (closing 𝓛 D c)).post y v) ∷ Γ) G
  returned t z D c y v k =
      let Q = type_at D.signature.result y.0.0 in
      use1 𝓛 (later (some (λ (r : Res D.signature y.0.0). (raw (alive 𝓛 D.signature y.0.0 y.0.1) ⊛ ‵ (Q.own_val r (v ∷ []))) ⊛
      some (λ (ws : Lasts D y.0.0 y.0.3). ‵ (lasts D y.0.0 y.0.3 ws) ⊛ raw ((c y.0.0 y.0.3).ensures y.1 r (at_exit D y.0.0 y.0.3 ws)))))) (id⊢ 𝓤 _) $
      await t z $ pick t (λ r. split t $ split t $ move t (2 ∷ []) $ pick t (λ ws. split t $ drop t $ move t (2 ∷ []) $
      peeks t Q (Is Q) (shows 𝓛 Q) r (v ∷ []) (λ is. k r ws is)))

module _ (L : BorrowedType) {M : Type 1} {𝓤 : Ura M} {𝓛 : Logic 𝓤} {K : Type 0} {Γ : List (Item 𝓤)} {En : Env 𝓤 𝓛.H} {C : Calls 𝓤 𝓛.H} {Λ : Loops 𝓤 𝓛.H}
    {f : Callee} {xs : List Operand} {dest : Place} {q : Post 𝓤 𝓛.H} where
  -- the call of `release`
  pub releases : K → FmC 𝓤 𝓛.H 𝓛.laws C → {rest : Body}
      → Triple 𝓤 (C f) (release_triple 𝓛 L)
      → (n : ℕ) (κs : Lfts (suc n)) (qs : Shares (suc n)) (s : MutBor L.row.Denot) (x : Effect L.row.Denot) (r : Holds 𝓛 L) (v : Val)
      → Opds K 𝓛 (raw ((release_triple 𝓛 L).pre (release_call 𝓛 L κs.0 qs.0 r v)) ∷ raw (toks 𝓛 n κs.1 qs.1) ∷ raw (loan_says 𝓛 L s x r) ∷ Γ) En xs (v ∷ [])
      → ((u : Val) (t : Lends 𝓛 L) → Is (Bare 𝓛 L κs.0) t (u ∷ [])
      → Seq K 𝓛 (‵ ((Bare 𝓛 L κs.0).own_val t (u ∷ [])) ∷ raw (says 𝓛 L s x t) ∷ raw (toks 𝓛 (suc n) κs qs) ∷ Γ) (lands C Λ En dest u rest q))
      → Seq K 𝓛 (‵ ((Kept 𝓛 L κs.0).own_val r (v ∷ [])) ∷ raw (loan_says 𝓛 L s x r) ∷ raw (toks 𝓛 (suc n) κs qs) ∷ Γ)
      (runs C Λ En (seq (call f xs dest) rest) q)
  releases t fm met n κs qs s x r v os k =
      let O = release_triple 𝓛 L in
      let z : O.Ghost = release_call 𝓛 L κs.0 qs.0 r v in
      let A = 𝓛.A in
      move t (2 ∷ []) $ use1 𝓛 (raw (A.lft κs.0 qs.0) ⊛ raw (toks 𝓛 n κs.1 qs.1)) (id⊢ 𝓤 _) $ split t $
      -- [the token; the other tokens; the result; what is said]
      nothing t $ use0 𝓛 (raw (A.lft [] full_share)) (𝓛.lfts.lft-nil full_share) $ join t $ move t (1 ∷ 0 ∷ []) $ join t $
      nothing t $ move t (3 ∷ 0 ∷ []) $ join t $ move t (1 ∷ 0 ∷ []) $ join t $
      -- [what is owned; the other tokens; what is said]
      nothing t $ use0 𝓛 (raw (fact 𝓤 ([] ⊑ L.row.lives))) (fact_i 𝓤 ([] ⊑ L.row.lives) (emp 𝓤) L.holds_no_loan) $ join t $ move t (1 ∷ 0 ∷ []) $
      use2 𝓛 (raw (O.pre z)) (id⊢ 𝓤 _) $ calls_at t fm O met z os (λ u.
      returned t tt (release_ended 𝓛 L) (release_clauses 𝓛 L) z u (λ w ws is. move t (1 ∷ []) $ heard t _ (λ e.
      -- [the result; the token; the other tokens; what is said]
      move t (1 ∷ []) $ use1 𝓛 (raw (A.lft κs.0 qs.0) ⊛ raw (sep 𝓤 (A.lft [] full_share) (emp 𝓤))) (id⊢ 𝓤 _) $ split t $ move t (1 ∷ []) $ drop t $ move t
      (0 ∷ 2 ∷ []) $ join t $
      use1 𝓛 (raw (toks 𝓛 (suc n) κs qs)) (id⊢ 𝓤 _) $ move t (2 ∷ []) $ use1 𝓛 (raw (says 𝓛 L s x w)) (passed 𝓛 L s x r w e) $ move t (2 ∷ 0 ∷ 1 ∷ []) $ k u w
      is)))

-- an argument of m lifetimes: its type, whether `ended` keeps it, that its values are one machine value each, and that nothing is left of it
pub record Argument {M : Type 1} {𝓤 : Ura M} (𝓛 : Logic 𝓤) (m : ℕ) : Type 2 where
  pub row : Lfts m → RattleType
  pub kept : Keeps
  pub ty : Ty
  pub one : (κs : Lfts m) → Singly (row κs) ty
  pub goes : Goes 𝓛 m (plain row) kept (stay_dropped (plain row) kept)

-- a value of the i-th type parameter
abbrev pub generic : {M : Type 1} {𝓤 : Ura M} (𝓛 : Logic 𝓤) (m i : ℕ) (S : RattleType) → Laws S → Argument 𝓛 m
generic 𝓛 m i S LS = record {
  row = λ _. param i S;
  kept = no;
  ty = layout S;
  one = λ κs x vs is. one (layout S) vs (((param_laws i S LS).lawful 𝓛).typed x vs is);
  goes = Goes-dropped 𝓛 m (plain (λ _. param i S)) no (λ κs x w. refl);
}

-- a `&[S]` at the lifetime j, S being the i-th type parameter
abbrev pub slice : {M : Type 1} {𝓤 : Ura M} (𝓛 : Logic 𝓤) (m j : ℕ) (ok : Within m j) (i : ℕ) (S : RattleType) → Argument 𝓛 m
slice 𝓛 m j ok i S = record {
  row = λ κs. ShrSlice (named j) (lft_at m j ok κs) (param i S);
  kept = yes;
  ty = layout (ShrSlice (named j) [] (param i S));
  one = λ κs x vs is. one (layout (ShrSlice (named j) [] (param i S))) vs ((shr_slice_Lawful 𝓛 (named j) (lft_at m j ok κs) (param i S)).typed x vs is);
  goes = Goes-dropped 𝓛 m (plain (λ κs. ShrSlice (named j) (lft_at m j ok κs) (param i S))) yes (λ κs x w. refl);
}

-- a truth value
abbrev pub boolean : {M : Type 1} {𝓤 : Ura M} (𝓛 : Logic 𝓤) (m : ℕ) → Argument 𝓛 m
boolean 𝓛 m = record {
  row = λ _. Boolean;
  kept = yes;
  ty = ty_bool;
  one = λ κs x vs is. one ty_bool vs ((bool_Lawful 𝓛).typed x vs is);
  goes = Goes-dropped 𝓛 m (plain (λ _. Boolean)) yes (λ κs x w. refl);
}

-- a variant without fields of an enum whose values are its tags
pub record Constant {M : Type 1} {𝓤 : Ura M} (𝓛 : Logic 𝓤) : Type 2 where
  pub row : RattleType
  pub value : row.Denot
  pub tag : ℕ
  pub is_byte : T (ltb tag (2 ^ 8))
  pub good : Good (layout row) (vstruct (vcons (vint w8 tag) vnil))
  pub owned : ent 𝓤 (emp 𝓤) (sem 𝓛 (row.own_val value (vstruct (vcons (vint w8 tag) vnil) ∷ [])))

abbrev pub val_of : {M : Type 1} {𝓤 : Ura M} {𝓛 : Logic 𝓤} → Constant 𝓛 → Val
val_of C = vstruct (vcons (vint w8 C.tag) vnil)

pub record Variant (E : Declared) : Type 0 where
  pub value : E.D
  pub tag : ℕ
  pub is_byte : T (ltb tag (2 ^ 8))
  pub good : Good (layout (enum_row E)) (vstruct (vcons (vint w8 tag) vnil))
  pub is : Is (enum_row E) value (vstruct (vcons (vint w8 tag) vnil) ∷ [])

abbrev pub constant : {M : Type 1} {𝓤 : Ura M} (𝓛 : Logic 𝓤) (E : Declared) → Plainss (variants E) → Variant E → Constant 𝓛
constant 𝓛 E plainss V = record { row = enum_row E; value = V.value; tag = V.tag; is_byte = V.is_byte; good = V.good; owned = makes E plainss 𝓛 V.value _ V.is }

-- the constants, before the arguments
module _ {M : Type 1} {𝓤 : Ura M} (𝓛 : Logic 𝓤) {m : ℕ} where
  abbrev pub also : List (Constant 𝓛) → List (Slot m) → List (Slot m)
  also [] ss = ss
  also (C ∷ Cs) ss = plain (λ _. C.row) ∷ also Cs ss

  abbrev pub keeps : (Cs : List (Constant 𝓛)) (ss : List (Slot m)) → Kepts ss → Kepts (also Cs ss)
  keeps [] ss ks = ks
  keeps (C ∷ Cs) ss ks = (yes, keeps Cs ss ks)

  module _ (κs : Lfts m) where
    abbrev pub put : (Cs : List (Constant 𝓛)) (ss : List (Slot m)) → Denots (types_at ss κs) → Denots (types_at (also Cs ss) κs)
    put [] ss a = a
    put (C ∷ Cs) ss a = (C.value, put Cs ss a)

    abbrev pub puts : (Cs : List (Constant 𝓛)) (ss : List (Slot m)) → Valss (types_at ss κs) → Valss (types_at (also Cs ss) κs)
    puts [] ss vss = vss
    puts (C ∷ Cs) ss vss = (val_of C ∷ [], puts Cs ss vss)

    abbrev pub after : (Cs : List (Constant 𝓛)) (ss : List (Slot m)) (ks : Kepts ss) (a : Denots (types_at ss κs))
        → Fins κs (also Cs ss) (keeps Cs ss ks) (put Cs ss a) → Fins κs ss ks a
    after [] ss ks a ws = ws
    after (C ∷ Cs) ss ks a ws = after Cs ss ks a ws.1

    pub owned : (Cs : List (Constant 𝓛)) (ss : List (Slot m)) (a : Denots (types_at ss κs)) (vss : Valss (types_at ss κs))
        → ent 𝓤 (sem 𝓛 (owns (types_at ss κs) a vss)) (sem 𝓛 (owns (types_at (also Cs ss) κs) (put Cs ss a) (puts Cs ss vss)))
    owned [] ss a vss = id⊢ 𝓤 _
    owned (C ∷ Cs) ss a vss = qed 𝓛 (‵ (owns (types_at ss κs) a vss) ∷ []) ∵ use1 𝓛 (‵ (owns (types_at (also Cs ss) κs) (put Cs ss a) (puts Cs ss vss)))
        (owned Cs ss a vss) $
        use0 𝓛 (‵ (C.row.own_val C.value (val_of C ∷ []))) C.owned $ fjoin ! $ by ! (id⊢ 𝓤 _)
