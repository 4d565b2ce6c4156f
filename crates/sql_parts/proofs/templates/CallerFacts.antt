-- What a caller proves of a bound text: its segments and literals one after another.
use Rattle.sql_parts.proofs.Imports.{◌≡◌, ℕ, List, [], ◌∷◌, ◌++◌, Option, Some, None, option_map, Result, Ok, Err, IfOk, String, string_bytes, sym, ap, ◌∙◌}
use Rattle.sql_parts.proofs.Imports.{append_assoc, append-nil, length, map, subst, length-map, map-append, Marks}
use Rattle.std.specs.declared.dyn_box.DynBox.{DynBox}
use base.Stored.{Coded, Gv}
use denote.Param.Object.{Made}
use Rattle.sql_parts.specs.{LiteralValue, literal_text, Cycle, Resolved, Replacement, bound, listed, resolve, written}

-- the segments with the literals of the values between them, without an empty text at the end
abbrev pub in_turn : (Replacement → LiteralValue) → List ℕ → List (Replacement × List ℕ) → List ℕ
in_turn literals segment [] = segment
in_turn literals segment ((value, []) ∷ []) = segment ++ literal_text (literals value)
in_turn literals segment ((value, next) ∷ parts) = segment ++ (literal_text (literals value) ++ in_turn literals next parts)

-- a text is what is written of a template, where that is resolved
abbrev pub IsWritten : (Replacement → LiteralValue) → Option Resolved → List ℕ → Type 0
IsWritten literals None text = ⊥
IsWritten literals (Some resolved) text = text ≡ in_turn literals resolved.0 resolved.1

written-in_turn : (literals : Replacement → LiteralValue) (segment : List ℕ) (parts : List (Replacement × List ℕ))
    → written literals (segment, parts) ≡ in_turn literals segment parts
written-in_turn literals segment [] = append-nil segment
written-in_turn literals segment ((value, []) ∷ []) =
    ap (λ t. segment ++ t) (append-nil (literal_text (literals value) ++ []) ∙ append-nil (literal_text (literals value)))
written-in_turn literals segment ((value, byte ∷ next) ∷ []) = ap (λ t. segment ++ t) (append-nil (literal_text (literals value) ++ (byte ∷ next)))
written-in_turn literals segment ((value, []) ∷ (other ∷ parts)) =
    ap (λ t. segment ++ t) (append_assoc (literal_text (literals value)) [] _
    ∙ ap (λ t. literal_text (literals value) ++ t) (written-in_turn literals [] (other ∷ parts)))
written-in_turn literals segment ((value, byte ∷ next) ∷ (other ∷ parts)) =
    ap (λ t. segment ++ t) (append_assoc (literal_text (literals value)) (byte ∷ next) _
    ∙ ap (λ t. literal_text (literals value) ++ t) (written-in_turn literals (byte ∷ next) (other ∷ parts)))

-- what a binding call gives, segment by segment
pub bound_in_turn : {Z E : Type 0} (result : Result (String Z) E) (template : List ℕ) (marks : Marks) (literals : Replacement → LiteralValue)
    → IfOk result (λ s. Some (string_bytes s) ≡ bound template marks literals)
    → IfOk result (λ s. IsWritten literals (resolve template marks) (string_bytes s))
bound_in_turn (Err e) template marks literals says = tt
bound_in_turn {Z = Z} (Ok s) template marks literals says = by (resolve template marks) says
  where
    by : (resolved : Option Resolved) → Some (string_bytes s) ≡ option_map (written literals) resolved → IsWritten literals resolved (string_bytes s)
    by None is = cc
    by (Some resolved) is = let e : string_bytes s ≡ written literals resolved = cc in e ∙ written-in_turn literals resolved.0 resolved.1

-- What is read of boxes, one after another.
pub record Reads {B V : Type 0} (f : B → V) (boxes : List B) (values : List V) : Type 0 where
  pub read : map f boxes ≡ values

-- there is no box yet
pub reads_none : {B V : Type 0} {f : B → V} {boxes : List B} → boxes ≡ [] → Reads f boxes []
reads_none {f = f} is = record { read = ap (map f) is }

-- one more box is pushed: `literal` gives what is read of a value of the box's own type
pub reads_pushed : {I A Y V : Type 0} {F : I → Type 0} {c : (i : I) → F i → Gv} {at : I} {x y : Y} {f : DynBox I A F → V} {boxes more : List (DynBox I A F)}
    {values : List V}
    (b : DynBox I A F) (k : Coded Y) (literal : Y → V) → more ≡ boxes ++ b ∷ [] → Made c k.code at b.vtable b.value x → x ≡ y
    → ◌≡◌ {A = (T : Type 0) × ((T → Gv) × (T → V))} (F at, (c at, λ z. f (record b { vtable = at; value = z }))) (Y, (k.code, literal))
    → Reads f boxes values → Reads f more (values ++ literal y ∷ [])
reads_pushed {I} {A} {Y} {V} {F} {c} {at} {x} {y} {f} {boxes} {more} {values} b k literal pushed made is same reads =
    let reads_this : f b ≡ literal y =
    subst (λ (i : I). (z : F i) → c i z ≡ k.code x → f (record b { vtable = i; value = z }) ≡ literal x) (sym made.index)
    (subst (λ (r : (T : Type 0) × ((T → Gv) × (T → V))). (z : r.0) → r.1.0 z ≡ k.code x → r.1.1 z ≡ literal x) (sym same) (λ z e. ap literal (k.inj z x e)))
    b.value made.codes ∙ ap literal is in
    record { read = ap (map f) pushed ∙ map-append f boxes (b ∷ []) ∙ (λ i. reads.read i ++ reads_this i ∷ []) }

-- the boxes are borrowed
pub reads_borrowed : {B V : Type 0} {f : B → V} {borrowed boxes : List B} {values : List V} → borrowed ≡ boxes → Reads f boxes values → Reads f borrowed values
reads_borrowed {f = f} is reads = record { read = ap (map f) is ∙ reads.read }

-- what `binds` gives of arguments with these literals
pub binds_in_turn : {Z E B : Type 0} {literal : B → LiteralValue} {args : List B} {values : List LiteralValue} (result : Result (String Z) E)
    (template : List ℕ)
    → IfOk result (λ s. Some (string_bytes s) ≡ bound template (Cycle (length args)) (listed (map literal args)))
    → Reads literal args values
    → IfOk result (λ s. IsWritten (listed values) (resolve template (Cycle (length values))) (string_bytes s))
binds_in_turn {literal = literal} {args = args} {values = values} result template says reads =
    let count : length args ≡ length values = sym (length-map args literal) ∙ ap length reads.read in
    bound_in_turn result template (Cycle (length values)) (listed values)
    (subst (λ (n : ℕ). IfOk result (λ s. Some (string_bytes s) ≡ bound template (Cycle n) (listed values))) count
    (subst (λ (literals : List LiteralValue). IfOk result (λ s. Some (string_bytes s) ≡ bound template (Cycle (length args)) (listed literals))) reads.read
    says))
