-- A bit for each byte of a block that is in a range.
use Rattle.sqlb.proofs.Imports.{◌≡◌, ℕ, ◌%◌, ◌^◌, ◌<◌, ◌⊎◌, Bool, true, false, ◌&&◌, cond, List, map, length, replicate, leb, bit_and, refl, ap, ◌∙◌, inl, inr}
use Rattle.sqlb.proofs.Imports.{arith, leb-true, leb-false, mask_l, top, zip2, is_in_range, IsInRange, length-map}
use Rattle.std.proofs.lemmas.Simd.{map-map, mask_l-mod, zip2_of_maps, zip2_splat, zip2_splat_left}

abbrev pub mask : ℕ → ℕ → List ℕ → ℕ
mask least most xs = mask_l (map (is_in_range least most) xs)

abbrev from_least : ℕ → ℕ → ℕ
from_least least x = cond (leb least x) 255 0

abbrev to_most : ℕ → ℕ → ℕ
to_most most x = cond (leb x most) 255 0

both_ends : (least most x : ℕ) → top 7 (bit_and (from_least least x) (to_most most x)) ≡ is_in_range least most x
both_ends least most x = by (leb least x) (leb x most)
  where
    by : (low high : Bool) → top 7 (bit_and (cond low 255 0) (cond high 255 0)) ≡ (low && high)
    by true true = refl
    by true false = refl
    by false true = refl
    by false false = refl

module _ (block : List ℕ) (long : length block ≡ 64) (least most : ℕ) where
  pub lanes_within : mask_l (map (top 7) (zip2 bit_and (zip2 (λ a b. cond (leb a b) 255 0) (replicate 64 least) block)
      (zip2 (λ a b. cond (leb a b) 255 0) block (replicate 64 most)))) % 2 ^ 64 ≡ mask least most block
  lanes_within =
      let low = zip2_splat_left (λ a b. cond (leb a b) 255 0) least 64 block long in
      let high = zip2_splat (λ a b. cond (leb a b) 255 0) block 64 most long in
      let both = zip2_of_maps bit_and (from_least least) (to_most most) block low high in
      ap (λ l. mask_l l % 2 ^ 64) (ap (map (top 7)) both ∙ map-map (top 7) _ block ∙ (λ i. map (λ x. both_ends least most x i) block))
      ∙ mask_l-mod _ 64 (omega (arith, length-map block (is_in_range least most), long))

-- the bit of one byte, as a number

abbrev pub number : Bool → ℕ
number b = cond b 1 0

abbrev pub bit : ℕ → ℕ → ℕ → ℕ
bit least most x = number (is_in_range least most x)

pub bit_is : (least most x : ℕ) → (IsInRange least most x × (bit least most x ≡ 1)) ⊎ (((x < least) ⊎ (most < x)) × (bit least most x ≡ 0))
bit_is least most x = by (leb least x) (leb x most) refl refl
  where
    by : (low high : Bool) → leb least x ≡ low → leb x most ≡ high
        → (IsInRange least most x × (number (low && high) ≡ 1)) ⊎ (((x < least) ⊎ (most < x)) × (number (low && high) ≡ 0))
    by true true l h = inl ((leb-true _ _ l, leb-true _ _ h), refl)
    by true false l h = inr (inr (leb-false _ _ h), refl)
    by false high l h = inr (inl (leb-false _ _ l), refl)
