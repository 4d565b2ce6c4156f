-- One more step of a function that goes over a list: what it has written, how long that is, and where there is room for it.
use Rattle.sql_builder.proofs.Imports.{◌≡◌, ◌≢◌, ℕ, zero, suc, ◌+◌, ◌<◌, ◌≤◌, List, [], ◌∷◌, ◌++◌, length, length-append, flat_map, map, take, get_or, refl}
use Rattle.sql_builder.proofs.Imports.{sym, ap, ◌∙◌, append_assoc, arith, flat_map-append, append-nil, map-append, take_more}
use Rattle.sql_builder.specs.{extend_last, Fits, Prints}

-- one more element of a loop over xs, of which each adds h of its value
pub one_more : {X Y A : Type 0} (h : Y → List A) (v : X → Y) (xs : List X) (i : ℕ) (x : X) → i < length xs
    → x ≡ get_or xs i x
    → flat_map h (map v (take (i + 1) xs)) ≡ flat_map h (map v (take i xs)) ++ h (v x)
one_more h v xs i x l e =
    rw (take_more xs i x l) (rw (sym e)
    (rw (map-append v (take i xs) (x ∷ []), flat_map-append h (map v (take i xs)) (v x ∷ []))
    (rw (append-nil (h (v x))) refl)))

-- what comes of the elements before one, and of it, is no longer than what comes of all
pub within : {X A : Type 0} (h : X → List A) (xs : List X) (i : ℕ) (d : X) → i < length xs
    → length (flat_map h (take i xs)) + length (h (get_or xs i d)) ≤ length (flat_map h xs)
within h [] i d l = absurd (omega arith)
within h (y ∷ ys) zero d l = grind (arith, length-append (h y) (flat_map h ys))
within h (y ∷ ys) (suc i) d l =
    let later = within h ys i d (omega arith) in
    grind (arith, length-append (h y) (flat_map h ys), length-append (h y) (flat_map h (take i ys)), later)

-- the same of their values
pub within_values : {X Y A : Type 0} (h : Y → List A) (v : X → Y) (xs : List X) (i : ℕ) (x : X) → i < length xs → x ≡ get_or xs i x
    → length (flat_map h (map v (take i xs))) + length (h (v x)) ≤ length (flat_map h (map v xs))
within_values h v [] i x l e = absurd (omega arith)
within_values h v (y ∷ ys) zero x l e = rw e (grind (arith, length-append (h (v y)) (flat_map h (map v ys))))
within_values h v (y ∷ ys) (suc i) x l e =
    let later = within_values h v ys i x (omega arith) e in
    grind (arith, length-append (h (v y)) (flat_map h (map v ys)), length-append (h (v y)) (flat_map h (map v (take i ys))), later)

module _ {O : Type 0} (printed : O → List ℕ) (room : O → ℕ) (a b : List ℕ) where
  -- where there is room for two texts, there is room for the first
  pub room_first : (old : O) → Fits (room old) (a ++ b) → Fits (room old) a
  room_first old fits = grind (arith, length-append a b, fits)

  -- and for the second where the first was printed
  pub room_rest : (old new : O) → Fits (room old) (a ++ b) → Prints printed room old new a → Fits (room new) b
  room_rest old new fits did = grind (arith, length-append a b, fits, did.1)

  -- one text is printed, and then another
  pub prints_both : (old mid new : O) → Prints printed room old mid a → Prints printed room mid new b → Prints printed room old new (a ++ b)
  prints_both old mid new first second =
      (second.0 ∙ ap (λ t. t ++ b) first.0 ∙ append_assoc (printed old) a b, grind (arith, length-append a b, first.1, second.1))

-- what is printed of one more item
pub printed_push : {X A : Type 0} (h : X → List A) (xs : List X) (x : X) → flat_map h (xs ++ x ∷ []) ≡ flat_map h xs ++ h x
printed_push h xs x = flat_map-append h xs (x ∷ []) ∙ ap (◌++◌ (flat_map h xs)) (append-nil (h x))

-- and of a last item that goes on with t
pub printed_extended : (word t : List ℕ) (xs : List (List ℕ)) → length xs ≢ 0
    → flat_map (λ x. word ++ x) (extend_last t xs) ≡ flat_map (λ x. word ++ x) xs ++ t
printed_extended word t [] h = absurd (h refl)
printed_extended word t (x ∷ []) h = simp (append_assoc, append-nil)
printed_extended word t (x ∷ y ∷ xs) h =
    ap (◌++◌ (word ++ x)) (printed_extended word t (y ∷ xs) (λ e. omega (arith, e))) ∙ sym (append_assoc (word ++ x) (flat_map (λ x. word ++ x) (y ∷ xs)) t)
