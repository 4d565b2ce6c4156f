-- Depth and places of tokens in lists that are joined.
use Rattle.sql_builder.proofs.Imports.{◌≡◌, refl, sym, ◌∙◌, ap, subst, zero, suc, Bool, true, false, List, [], ◌∷◌, ◌++◌, map, ℤ, pos, negsuc, ℕ}
use Rattle.sql_builder.proofs.Imports.{and_parts, and_from, false≢true, suc_ℤ, suc-pred, pred-suc, Token, after, all_behind, at_end, change}
use Rattle.sql_builder.proofs.Imports.{closes_from, closes_from-is, is_at_least_0, is_zero, placed_from, as_placed, Nested, lowers, raises}

pub placed_from-append : (l : ℤ) (a b : List Token) → placed_from l (a ++ b) ≡ placed_from l a ++ placed_from (at_end l a) b
placed_from-append l [] b = refl
placed_from-append l (t ∷ a) b = ap (λ ms. as_placed (is_zero l) t ∷ ms) (placed_from-append (after l t) a b)

pub at_end-append : (l : ℤ) (a b : List Token) → at_end l (a ++ b) ≡ at_end (at_end l a) b
at_end-append l [] b = refl
at_end-append l (t ∷ a) b = at_end-append (after l t) a b

-- one deeper
step_up : (up down : Bool) (l : ℤ) → change up down (suc_ℤ l) ≡ suc_ℤ (change up down l)
step_up true down l = refl
step_up false true l = pred-suc l ∙ sym (suc-pred l)
step_up false false l = refl

pub after-suc : (l : ℤ) (t : Token) → after (suc_ℤ l) t ≡ suc_ℤ (after l t)
after-suc l t = step_up (raises t) (lowers t) l

at_end-suc : (l : ℤ) (a : List Token) → at_end (suc_ℤ l) a ≡ suc_ℤ (at_end l a)
at_end-suc l [] = refl
at_end-suc l (t ∷ a) = ap (λ k. at_end k a) (after-suc l t) ∙ at_end-suc (after l t) a

pub zero_from : (l : ℤ) → is_zero l ≡ true → l ≡ pos 0
zero_from (pos zero) h = refl
zero_from (pos (suc n)) h = absurd (false≢true h)
zero_from (negsuc n) h = absurd (false≢true h)

pub at_end-closes : (l : ℤ) (a : List Token) → closes_from l a ≡ true → at_end l a ≡ pos 0
at_end-closes l a h = zero_from (at_end l a) (and_parts _ _ (closes_from-is l a ∙ h)).1

not_top_level : (l : ℤ) → is_at_least_0 l ≡ true → is_zero (suc_ℤ l) ≡ false
not_top_level (pos n) h = refl
not_top_level (negsuc n) h = absurd (false≢true h)

pub high : (l : ℤ) → is_at_least_0 l ≡ true → is_at_least_0 (suc_ℤ l) ≡ true
high (pos n) h = refl
high (negsuc n) h = absurd (false≢true h)

-- the depth is at least 0 after each token
abbrev pub stays_from : ℤ → List Token → Bool
stays_from l ts = all_behind is_at_least_0 l ts

pub stays-both : (l : ℤ) (a b : List Token) → stays_from l a ≡ true → stays_from (at_end l a) b ≡ true → stays_from l (a ++ b) ≡ true
stays-both l [] b h k = k
stays-both l (t ∷ a) b h k = let both = and_parts _ _ h in and_from _ _ both.0 (stays-both (after l t) a b both.1 k)

pub stays-parts : (l : ℤ) (a b : List Token) → stays_from l (a ++ b) ≡ true → (stays_from l a ≡ true) × (stays_from (at_end l a) b ≡ true)
stays-parts l [] b h = (refl, h)
stays-parts l (t ∷ a) b h =
    let both = and_parts _ _ h in
    let more = stays-parts (after l t) a b both.1 in
    (and_from _ _ both.0 more.0, more.1)

pub stays-closes : (l : ℤ) (a : List Token) → closes_from l a ≡ true → stays_from l a ≡ true
stays-closes l a h = (and_parts _ _ (closes_from-is l a ∙ h)).0

pub closes-stays : (l : ℤ) (a : List Token) → stays_from l a ≡ true → at_end l a ≡ pos 0 → closes_from l a ≡ true
closes-stays l a h ends = sym (closes_from-is l a) ∙ and_from _ _ h (ap is_zero ends)

pub stays-high : (l : ℤ) (a : List Token) → is_at_least_0 l ≡ true → stays_from l a ≡ true → is_at_least_0 (at_end l a) ≡ true
stays-high l [] h stays = h
stays-high l (t ∷ a) h stays = let both = and_parts _ _ stays in stays-high (after l t) a both.0 both.1

-- one deeper
pub behind-suc : (test other : ℤ → Bool) → ((l : ℤ) → test l ≡ true → other (suc_ℤ l) ≡ true)
    → (l : ℤ) (a : List Token) → all_behind test l a ≡ true → all_behind other (suc_ℤ l) a ≡ true
behind-suc test other higher l [] h = refl
behind-suc test other higher l (t ∷ a) h =
    let both = and_parts (test (after l t)) (all_behind test (after l t) a) h in
    rw (after-suc l t, higher (after l t) both.0) (behind-suc test other higher (after l t) a both.1)

-- where all brackets close, at any depth
pub stays-up : (n : ℕ) (a : List Token) → closes_from (pos 0) a ≡ true → stays_from (pos n) a ≡ true
stays-up zero a h = stays-closes (pos 0) a h
stays-up (suc n) a h = behind-suc is_at_least_0 is_at_least_0 high (pos n) a (stays-up n a h)

pub ends-up : (n : ℕ) (a : List Token) → closes_from (pos 0) a ≡ true → at_end (pos n) a ≡ pos n
ends-up zero a h = at_end-closes (pos 0) a h
ends-up (suc n) a h = at_end-suc (pos n) a ∙ ap suc_ℤ (ends-up n a h)

-- above depth 0 no token is top-level
pub placed-above : (l : ℤ) (a : List Token) → is_at_least_0 l ≡ true → stays_from l a ≡ true → placed_from (suc_ℤ l) a ≡ map Nested a
placed-above l [] h stays = refl
placed-above l (t ∷ a) h stays =
    let both = and_parts (is_at_least_0 (after l t)) (stays_from (after l t) a) stays in
    rw (not_top_level l h, after-suc l t) (ap (λ ms. Nested t ∷ ms) (placed-above (after l t) a both.0 both.1))

-- where all brackets close there, none is
pub placed_from-suc : (l : ℤ) (a : List Token) → is_at_least_0 l ≡ true → closes_from l a ≡ true → placed_from (suc_ℤ l) a ≡ map Nested a
placed_from-suc l a h closes = placed-above l a h (stays-closes l a closes)

pub closes_from-append : (l : ℤ) (a b : List Token) → closes_from l a ≡ true → closes_from (pos 0) b ≡ true → closes_from l (a ++ b) ≡ true
closes_from-append l [] b h k = subst (λ m. closes_from m b ≡ true) (sym (zero_from l h)) k
closes_from-append l (t ∷ a) b h k =
    let both = and_parts (is_at_least_0 (after l t)) (closes_from (after l t) a) h in
    and_from _ _ both.0 (closes_from-append (after l t) a b both.1 k)
