-- Which of sixteen places have the first two bytes of a text.
use Rattle.sql_parts.proofs.Imports.{◌≡◌, ℕ, ◌+◌, ◌-◌, ◌%◌, ◌^◌, ◌<◌, ◌≤◌, cond, eqb, bit_and, Bool, true, false, List, [], ◌∷◌, map, length, get_or, replicate}
use Rattle.sql_parts.proofs.Imports.{w64, refl, sym, ap, ◌∙◌, subst, inl, inr, arith, ◌&&◌, bit_at, trailing_zeros, cases_lt, get_or-map, get_or_past}
use Rattle.sql_parts.proofs.Imports.{length-map, chunk, zip2, mask_l, top, Front}
use Rattle.std.proofs.lemmas.Nat.Bits.{bit_at-trailing_zeros, bit_at-zero}
use Rattle.std.proofs.lemmas.Simd.{bit_mask_l, get_or-chunk, get_or-zip2, length-chunk, length-zip2, map-map, mask_l-mod, zip2_splat}
use Rattle.sql_parts.specs.{has_front}

-- the lanes of two vectors side by side
abbrev pairs : List ℕ → List ℕ → List (ℕ × ℕ)
pairs xs ys = zip2 (λ x y. (x, y)) xs ys

zip2-maps : (h : ℕ → ℕ → ℕ) (f g : ℕ → ℕ) (xs ys : List ℕ) → zip2 h (map f xs) (map g ys) ≡ map (λ p. h (f p.0) (g p.1)) (pairs xs ys)
zip2-maps h f g [] ys = refl
zip2-maps h f g (x ∷ xs) [] = refl
zip2-maps h f g (x ∷ xs) (y ∷ ys) = ap (λ rest. h (f x) (g y) ∷ rest) (zip2-maps h f g xs ys)

-- a lane of a comparison
abbrev lane : ℕ → ℕ → ℕ
lane x y = cond (eqb x y) 255 0

abbrev both : ℕ → ℕ → ℕ × ℕ → Bool
both a b p = eqb p.0 a && eqb p.1 b

tops : (left right : Bool) → top 7 (bit_and (cond left 255 0) (cond right 255 0)) ≡ (left && right)
tops true true = refl
tops true false = refl
tops false true = refl
tops false false = refl

tested : (a b : ℕ) (xs ys : List ℕ) → length xs ≡ 16 → length ys ≡ 16
    → map (top 7) (zip2 bit_and (zip2 lane xs (replicate 16 a)) (zip2 lane ys (replicate 16 b))) ≡ map (both a b) (pairs xs ys)
tested a b xs ys long wide =
    (λ i. map (top 7) (zip2 bit_and (zip2_splat lane xs 16 a long i) (zip2_splat lane ys 16 b wide i)))
    ∙ ap (map (top 7)) (zip2-maps bit_and (λ x. lane x a) (λ y. lane y b) xs ys)
    ∙ map-map (top 7) (λ p. bit_and (lane p.0 a) (lane p.1 b)) (pairs xs ys)
    ∙ (λ i. map (λ p. tops (eqb p.0 a) (eqb p.1 b) i) (pairs xs ys))

-- what the code computes of the lanes
abbrev pub front_bits : Front → List ℕ → ℕ → ℕ
front_bits front text at =
    let first = zip2 lane (chunk at 16 text) (replicate 16 front.first) in
    let second = zip2 lane (chunk (at + front.gap) 16 text) (replicate 16 front.second) in
    mask_l (map (top 7) (zip2 bit_and first second)) % 2 ^ 64

module _ (front : Front) (text : List ℕ) (at : ℕ) (room : at + 16 + front.gap ≤ length text) where
  abbrev lanes : List (ℕ × ℕ)
  lanes = pairs (chunk at 16 text) (chunk (at + front.gap) 16 text)

  abbrev tests : List Bool
  tests = map (both front.first front.second) lanes

  long : length (chunk at 16 text) ≡ 16
  long = length-chunk at 16 text (omega arith)

  wide : length (chunk (at + front.gap) 16 text) ≡ 16
  wide = length-chunk (at + front.gap) 16 text (omega arith)

  count : length lanes ≡ 16
  count = length-zip2 (λ x y. (x, y)) (chunk at 16 text) (chunk (at + front.gap) 16 text) (long ∙ sym wide) ∙ long

  size : length tests ≡ 16
  size = length-map lanes (both front.first front.second) ∙ count

  mask : front_bits front text at ≡ mask_l tests
  mask =
      ap (λ ms. mask_l ms % 2 ^ 64) (tested front.first front.second (chunk at 16 text) (chunk (at + front.gap) 16 text) long wide)
      ∙ mask_l-mod tests 64 (omega (arith, size))

  pub front_bits-place : (k : ℕ) → k < 16 → bit_at (front_bits front text at) k ≡ cond (has_front front text (at + k)) 1 0
  front_bits-place k inside =
      let same : at + front.gap + k ≡ at + k + front.gap = omega arith in
      let test = both front.first front.second in
      let pair : get_or lanes k (0, 0) ≡ (get_or text (at + k) 0, get_or text (at + k + front.gap) 0) =
      get_or-zip2 (λ x y. (x, y)) (chunk at 16 text) (chunk (at + front.gap) 16 text) k 0 0 (0, 0) (omega (arith, long)) (omega (arith, wide))
      ∙ (λ n. (get_or-chunk at 16 text k 0 inside n, get_or-chunk (at + front.gap) 16 text k 0 inside n))
      ∙ ap (λ n. (get_or text (at + k) 0, get_or text n 0)) same in
      ap (λ m. bit_at m k) mask ∙ bit_mask_l tests k
      ∙ ap (λ b. cond b 1 0) (get_or-map test lanes k (0, 0) false (omega (arith, count)) ∙ ap test pair)

  pub front_bits-past : (k : ℕ) → 16 ≤ k → bit_at (front_bits front text at) k ≡ 0
  front_bits-past k past = ap (λ m. bit_at m k) mask ∙ bit_mask_l tests k ∙ ap (λ b. cond b 1 0) (get_or_past tests k false (omega (arith, size)))

abbrev bit : Bool → ℕ
bit b = cond b 1 0

set : (b : Bool) → bit b ≡ 1 → b ≡ true
set true is = refl
set false is = absurd (omega arith)

unset : (b : Bool) → bit b ≡ 0 → b ≡ false
unset true is = absurd (omega arith)
unset false is = refl

-- what the bits of the places from `at` on say of a test
module _ (bits : ℕ) (at : ℕ) (test : ℕ → Bool) (places : (k : ℕ) → k < 16 → bit_at bits k ≡ bit (test (at + k))) where
  fails : (k : ℕ) → at ≤ k → k < at + 16 → bit_at bits (k - at) ≡ 0 → test k ≡ false
  fails k from to is = let back : at + (k - at) ≡ k = omega arith in subst (λ n. test n ≡ false) back (unset _ (sym (places (k - at) (omega arith)) ∙ is))

  pub none-set : bits ≡ 0 → (k : ℕ) → at ≤ k → k < at + 16 → test k ≡ false
  none-set zero k from to = fails k from to (ap (λ n. bit_at n (k - at)) zero ∙ bit_at-zero (k - at))

  pub first-set : ((k : ℕ) → 16 ≤ k → bit_at bits k ≡ 0) → 0 < bits → bits < 2 ^ 64
      → let place = at + trailing_zeros w64 bits in (place < at + 16) × (test place ≡ true) × ((k : ℕ) → at ≤ k → k < place → test k ≡ false)
  first-set past some small =
      let lowest = bit_at-trailing_zeros w64 bits some small in
      let within : trailing_zeros w64 bits < 16 =
      elim (cases_lt (trailing_zeros w64 bits) 16) [ inl low ↦ low | inr out ↦ absurd (omega (arith, past (trailing_zeros w64 bits) out, lowest.1)) ] in (
        omega (arith, within),
        set _ (sym (places (trailing_zeros w64 bits) within) ∙ lowest.1),
        λ k from to. fails k from (omega (arith, within)) (lowest.2 (k - at) (omega arith)),
      )
