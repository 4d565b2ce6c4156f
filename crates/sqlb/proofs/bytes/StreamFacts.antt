-- What is read behind the bytes of a buffer that are filled, and a text that is written in several writes.
use Rattle.sqlb.proofs.Imports.{◌≡◌, ℕ, ◌+◌, ◌≤◌, List, ◌++◌, length, take, take-add, append_assoc, ap, ap₂, ◌∙◌, arith, ◌-◌, ◌<◌, Bool, ◌∷◌, drop, get_or, sym}
use Rattle.sqlb.proofs.Imports.{subst, add-one, drop-cons, drop-append_seam, take-append_seam, take-append-le, take-take, take-append-drop, Option, Result, Err}
use Rattle.sqlb.proofs.Imports.{flat_map, StartsWith, Appends, Appends-trans, starts_with_rest, flat_map-append, common_steps, Fault, At, Memory, Read, Write}
use Rattle.sqlb.specs.{WritesOrFails}

behind_front : (front xs : List ℕ) (filled n : ℕ) → length front ≡ filled → take (filled + n) (front ++ xs) ≡ front ++ take n xs
behind_front front xs filled n is =
    rw (← is) (take-add (length front) n (front ++ xs) ∙ ap₂ (λ l r. l ++ take n r) (take-append_seam front xs) (drop-append_seam front xs))

pub read_behind : (front buf post rest : List ℕ) (filled n size : ℕ) → length front ≡ filled → n ≤ length buf → filled + length buf ≤ size
    → take (filled + n) (take size ((front ++ (buf ++ post)) ++ rest)) ≡ front ++ take n buf
read_behind front buf post rest filled n size is within fits =
    take-take (filled + n) size ((front ++ (buf ++ post)) ++ rest) (omega (arith, within, fits))
    ∙ ap (take (filled + n)) (append_assoc front (buf ++ post) rest ∙ ap (λ l. front ++ l) (append_assoc buf post rest))
    ∙ behind_front front (buf ++ (post ++ rest)) filled n is
    ∙ ap (λ l. front ++ l) (take-append-le n buf (post ++ rest) within)

-- what is written so far, and the rest of the text
abbrev pub Goes : Option (List ℕ) → Option (List ℕ) → List ℕ → List ℕ → Type 0
Goes old new text rest = (written : List ℕ) × Appends old new written × (text ≡ written ++ rest)

cut_at : (n : ℕ) (rest : List ℕ) → rest ≡ take n rest ++ drop n rest
cut_at n rest = grind (arith, common_steps)

-- a write that takes n bytes
pub goes_on : (a b c : Option (List ℕ)) (text rest : List ℕ) (n : ℕ) → Goes a b text rest → Appends b c (take n rest) → Goes a c text (drop n rest)
goes_on a b c text rest n progress now = (
  progress.0 ++ take n rest,
  Appends-trans a b c progress.0 (take n rest) progress.1 now,
  progress.2 ∙ ap (λ l. progress.0 ++ l) (cut_at n rest) ∙ sym (append_assoc progress.0 (take n rest) (drop n rest)),
)

-- the slice after n bytes
pub take_rest : (n : ℕ) (rest : List ℕ) → n ≤ length rest → take (length rest - n) (drop n rest) ≡ drop n rest
take_rest n rest h = grind (arith, common_steps)

-- a beginning of what comes next, after what is done
pub begins : (front part text more : List ℕ) → StartsWith text part → StartsWith (front ++ text ++ more) (front ++ part)
begins front part text more h =
    let left = drop (length part) text in
    let whole : front ++ text ++ more ≡ (front ++ part) ++ (left ++ more)
    = ap (λ t. front ++ t ++ more) (starts_with_rest text part h)
    ∙ ap (λ t. t ++ more) (sym (append_assoc front part left)) ∙ append_assoc (front ++ part) left more in
    subst (λ xs. StartsWith xs (front ++ part)) (sym whole) (take-append_seam (front ++ part) (left ++ more))

-- a write that fails in a part of a text fails the whole
pub fails_after : {T : Type 0} (a b c : Option (List ℕ)) (front text more whole : List ℕ) (fault : Fault) (result : Result T Fault) (failed : Bool)
    → Appends a b front → whole ≡ front ++ text ++ more
    → (part : List ℕ) × Appends b c part × WritesOrFails {T = Unit {0}} (Err fault) part text failed → result ≡ Err fault
    → (written : List ℕ) × Appends a c written × WritesOrFails result written whole failed
fails_after a b c front text more whole Write result failed f e w r =
    rw r (front ++ w.0, Appends-trans a b c front w.0 f w.1, (subst (λ all. StartsWith all (front ++ w.0)) (sym e) (begins front w.0 text more w.2.0), w.2.1))
fails_after a b c front text more whole Read result failed f e w r = absurd w.2
fails_after a b c front text more whole Memory result failed f e w r = absurd w.2
fails_after a b c front text more whole (At n reason) result failed f e w r = absurd w.2

-- the parts before one, that one, and the parts after it
pub parts_at : {X : Type 0} (f : X → List ℕ) (parts : List X) (i : ℕ) (d : X) → i < length parts
    → flat_map f parts ≡ flat_map f (take i parts) ++ f (get_or parts i d) ++ flat_map f (drop (i + 1) parts)
parts_at f parts i d h =
    let next : drop i parts ≡ get_or parts i d ∷ drop (i + 1) parts = rw add-one (drop-cons parts i d h) in
    ap (flat_map f) (sym (take-append-drop i parts)) ∙ flat_map-append f (take i parts) (drop i parts)
    ∙ ap (λ all. flat_map f (take i parts) ++ flat_map f all) next
    ∙ sym (append_assoc (flat_map f (take i parts)) (f (get_or parts i d)) (flat_map f (drop (i + 1) parts)))
