-- How far the first byte of a text is that is one of two, by blocks.
use Rattle.sqlb.proofs.Imports.{◌≡◌, ◌≢◌, ℕ, ◌+◌, ◌%◌, ◌^◌, ◌≤◌, ◌<◌, Bool, true, false, ◌||◌, not, cond, List, map, length, take, drop, replicate, eqb, refl}
use Rattle.sqlb.proofs.Imports.{sym, ap, ◌∙◌, [], ◌∷◌, suc, inl, inr, cases_lt, arith, bit_or, position, Some, None, cond-true, cond-false, eq-eqb, ltb-false, ne_eqb, prefix_len-le-length}
use Rattle.sqlb.proofs.Imports.{position_or_len, length-map}
use lib.Count.{count_trailing_zeros}
use Rattle.std.specs.Simd.Lanes.{mask_l, top, zip2}
use Rattle.std.proofs.lemmas.List.Folds.{prefix_len-append}
use Rattle.std.proofs.lemmas.Simd.{chunk-drop, length-chunk, mask_l-mod, zip2_splat, zip2_of_maps, map-map, leading_from_mask_l, trailing_mask_l}
use Rattle.sqlb.specs.{is_or_feed}

-- the lanes that are equal to a byte
abbrev equal : ℕ → ℕ → ℕ
equal byte x = cond (eqb x byte) 255 0

is_end : (first x : ℕ) → top 7 (bit_or (equal first x) (equal 10 x)) ≡ is_or_feed first x
is_end first x = by (eqb x first) (eqb x 10)
  where
    by : (is feed : Bool) → top 7 (bit_or (cond is 255 0) (cond feed 255 0)) ≡ (is || feed)
    by true true = refl
    by true false = refl
    by false true = refl
    by false false = refl

-- no bit is set where no byte passes
none_set : (p : ℕ → Bool) (xs : List ℕ) → position_or_len p xs ≡ length xs → mask_l (map p xs) ≡ 0
none_set p [] e = refl
none_set p (x ∷ xs) e = by (p x) refl (none_set p xs)
  where
    starts : p x ≡ true → position_or_len p (x ∷ xs) ≡ 0
    starts is = rw is refl

    goes_on : p x ≡ false → position_or_len p (x ∷ xs) ≡ suc (position_or_len p xs)
    goes_on is = rw is (omega arith)

    by : (b : Bool) → p x ≡ b → (position_or_len p xs ≡ length xs → mask_l (map p xs) ≡ 0) → mask_l (p x ∷ map p xs) ≡ 0
    by true is none = absurd (omega (arith, e, starts is))
    by false is none = rw is (omega (arith, none (omega (arith, e, goes_on is))))

module _ (one : ℕ) (text : List ℕ) (at : ℕ) (room : at + 16 ≤ length text) where
  abbrev block : List ℕ
  block = take 16 (drop at text)

  -- the lanes that are compared with a byte
  abbrev lanes : ℕ → List ℕ
  lanes byte = zip2 (λ a b. cond (eqb a b) 255 0) block (replicate 16 byte)

  -- a bit for each byte of the block that is one of the two
  abbrev ends : ℕ
  ends = mask_l (map (top 7) (zip2 bit_or (lanes one) (lanes 10))) % 2 ^ 64

  long : length block ≡ 16
  long = length-chunk at 16 text room

  ends_are : ends ≡ mask_l (map (is_or_feed one) block)
  ends_are =
      let firsts = zip2_splat (λ a b. cond (eqb a b) 255 0) block 16 one long in
      let feeds = zip2_splat (λ a b. cond (eqb a b) 255 0) block 16 10 long in
      let either = zip2_of_maps bit_or (equal one) (equal 10) block firsts feeds in
      let tops = map-map (top 7) (λ x. bit_or (equal one x) (equal 10 x)) block in
      ap (λ l. mask_l l % 2 ^ 64) (ap (map (top 7)) either ∙ tops ∙ (λ i. map (λ x. is_end one x i) block))
      ∙ mask_l-mod (map (is_or_feed one) block) 64 (omega (arith, length-map block (is_or_feed one), long))

  pub run_without_end : ends ≡ 0 → position_or_len (is_or_feed one) block ≡ 16
  run_without_end none = leading_from_mask_l (is_or_feed one) block (sym ends_are ∙ none) ∙ long

  pub run_to_end : ends ≢ 0 → position_or_len (is_or_feed one) block ≡ count_trailing_zeros 64 ends
  run_to_end some = sym (ap (count_trailing_zeros 64) ends_are ∙ trailing_mask_l (is_or_feed one) 64 block (omega (arith, long)) (omega (arith, ends_are, some)))

  pub run_within : ends ≢ 0 → count_trailing_zeros 64 ends < 16
  run_within some =
      elim (cases_lt (position_or_len (is_or_feed one) block) 16) [
        | inl low ↦ omega (arith, low, run_to_end some)
        | inr out ↦ absurd (some (ends_are ∙ none_set (is_or_feed one) block (omega (arith, out, long, prefix_len-le-length (λ x. not (is_or_feed one x)) block))))
      ]

  abbrev behind : ℕ
  behind = position_or_len (is_or_feed one) (drop (at + 16) text)

  first : position_or_len (is_or_feed one) (drop at text)
      ≡ cond (eqb (position_or_len (is_or_feed one) block) (length block)) (length block + behind) (position_or_len (is_or_feed one) block)
  first = ap (position_or_len (is_or_feed one)) (chunk-drop at 16 text) ∙ prefix_len-append (λ x. not (is_or_feed one x)) block (drop (at + 16) text)

  -- the part ends in this block
  pub ends_in_block : (run : ℕ) → position_or_len (is_or_feed one) block ≡ run → run < 16 → position_or_len (is_or_feed one) (drop at text) ≡ run
  ends_in_block run is short =
      let apart : position_or_len (is_or_feed one) block ≢ length block = omega (arith, is, long) in
      first ∙ cond-false _ _ _ (ne_eqb _ _ apart) ∙ is

  -- the part goes on behind this block
  pub goes_past_block : position_or_len (is_or_feed one) block ≡ 16 → position_or_len (is_or_feed one) (drop at text) ≡ 16 + behind
  goes_past_block is = first ∙ cond-true _ _ _ (eq-eqb _ _ (is ∙ sym long)) ∙ ap (λ n. n + behind) long

-- where such a byte is found, or none
cond_some : (b : Bool) (x y : ℕ) → cond b (Some x) None ≡ Some y → x ≡ y
cond_some true x y e = cc
cond_some false x y e = cc

cond_none : (b : Bool) (x : ℕ) → cond b (Some x) None ≡ None → b ≡ false
cond_none true x e = cc
cond_none false x e = refl

pub found_end : (one : ℕ) (xs : List ℕ) (i : ℕ) → position (is_or_feed one) xs ≡ Some i → position_or_len (is_or_feed one) xs ≡ i
found_end one xs i e = cond_some _ _ i e

pub no_end : (one : ℕ) (xs : List ℕ) → position (is_or_feed one) xs ≡ None → position_or_len (is_or_feed one) xs ≡ length xs
no_end one xs e =
    let far : length xs ≤ position_or_len (is_or_feed one) xs = ltb-false _ _ (cond_none _ _ e) in
    omega (arith, far, prefix_len-le-length (λ x. not (is_or_feed one x)) xs)
