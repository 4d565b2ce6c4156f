-- Bytes that are UTF-8: a front of a text and what follows it, and a block of short characters, by the masks of their bytes.
use Rattle.sqlb.proofs.Imports.{◌≡◌, ℕ, ◌+◌, ◌-◌, ◌≤◌, List, length, take, take-add, drop, subst, arith, ◌*◌, ◌/◌, ◌%◌, ◌^◌, ◌<◌, ◌⊎◌, ◌≢◌, true, false, []}
use Rattle.sqlb.proofs.Imports.{◌∷◌, ◌++◌, map, get_or, refl, sym, ap, ◌∙◌, inl, inr, lt-ltb, le-leb, le-ltb, Fits, w8, IsUtf8, IsValidUpTo, IsCharBoundary}
use Rattle.sqlb.proofs.Imports.{drop-take, length-drop, length-take, take-append-drop, take_all, take-take, get_or-map, get_or_append_left, length-append}
use Rattle.sqlb.proofs.Imports.{length-map, take-append-le, IsCharBoundary-from_take, IsUtf8-append, IsUtf8-drop, IsUtf8-encode, IsUtf8-nil, IsUtf8-take}
use Rattle.sqlb.proofs.Imports.{encode_ascii, Each1, bit_at, is_in_range, IsInRange, cases_lt}
use lib.Utf8.{encode, low_scalar, next, scalar}
use Rattle.sqlb.specs.{BeginsText}
use Rattle.std.proofs.Math.Nat.{pow-succ'}
use Rattle.std.proofs.lemmas.Simd.{bit_mask_l, mask_l-lt}
use Rattle.sqlb.proofs.bytes.ByteMaskFacts.{bit, bit_is, mask, number}

pub text_more : (xs : List ℕ) (at run : ℕ) → IsUtf8 (take at xs) → IsUtf8 (take run (drop at xs)) → IsUtf8 (take (at + run) xs)
text_more xs at run front more = rw take-add (IsUtf8-append (take at xs) (take run (drop at xs)) front more)

pub block_more : (xs : List ℕ) (at run : ℕ) → run ≤ 64 → IsUtf8 (take at xs) → IsUtf8 (take run (take 64 (drop at xs))) → IsUtf8 (take (at + run) xs)
block_more xs at run within front more = text_more xs at run front (subst IsUtf8 (take-take run 64 (drop at xs) within) more)

pub whole_text : (xs : List ℕ) (at : ℕ) → IsUtf8 (take at xs) → IsUtf8 (drop at xs) → IsUtf8 xs
whole_text xs at front rest = subst IsUtf8 (take-append-drop at xs) (IsUtf8-append (take at xs) (drop at xs) front rest)

pub fault_after : (xs : List ℕ) (at n : ℕ) → at ≤ length xs → IsUtf8 (take at xs) → IsValidUpTo (drop at xs) n → IsValidUpTo xs (at + n)
fault_after xs at n within front fault = record {
  short = omega (arith, fault.short, length-drop at xs);
  front = text_more xs at n front fault.front;
  longest = λ m more text.
      (
      let sum : at + (m - at) ≡ m = omega (arith, more) in
      let start : IsUtf8 (take at (take m xs)) = rw (take-take at m xs (omega (arith, more))) front in
      let boundary = IsCharBoundary-from_take (take m xs) at text (omega (arith, more, within, length-take m xs)) start in
      fault.longest (m - at) (omega (arith, more)) (rw (← drop-take at (m - at) xs, sum) (IsUtf8-drop (take m xs) at text boundary))
      );
}

pub no_fault : (xs : List ℕ) (n : ℕ) → IsUtf8 xs → IsValidUpTo xs n → ⊥
no_fault xs n text fault = fault.longest (length xs) fault.short (rw (take_all (length xs) xs (omega arith)) text)

-- a character in front of a text

encode_two : (c : ℕ) → 128 ≤ c → c < 2048 → encode c ≡ (192 + c / 64) ∷ next c ∷ []
unfolding encode
encode_two c low high = rw (le-ltb c 128 low, lt-ltb c 2048 high) refl

encode_three : (c : ℕ) → 2048 ≤ c → c < 65536 → encode c ≡ (224 + c / 4096) ∷ next (c / 64) ∷ next c ∷ []
unfolding encode
encode_three c low high = rw (le-ltb c 128 (omega (arith, low)), le-ltb c 2048 low, lt-ltb c 65536 high) refl

any_scalar : (c : ℕ) → (c < 55296) ⊎ ((57344 ≤ c) × (c < 1114112)) → scalar c ≡ true
any_scalar c (inl low) = low_scalar c low
any_scalar c (inr high) = rw (le-ltb c 55296 (omega arith), le-leb 57344 c high.0, lt-ltb c 1114112 high.1) refl

char_before : (c : ℕ) (front xs : List ℕ) → scalar c ≡ true → encode c ≡ front → IsUtf8 xs → IsUtf8 (front ++ xs)
char_before c front xs ok is utf8 = subst (λ l. IsUtf8 (l ++ xs)) is (IsUtf8-append (encode c) xs (IsUtf8-encode c ok) utf8)

one_before : (x : ℕ) (xs : List ℕ) → x < 128 → IsUtf8 xs → IsUtf8 (x ∷ xs)
one_before x xs ascii utf8 = char_before x (x ∷ []) xs (low_scalar x (omega arith)) (encode_ascii x ascii) utf8

abbrev IsTwo : ℕ → Type 0
IsTwo x = IsInRange 194 223 x

abbrev IsThree : ℕ → Type 0
IsThree x = IsInRange 225 239 x × (x ≢ 237)

abbrev IsTail : ℕ → Type 0
IsTail x = IsInRange 128 191 x

two_before : (x y : ℕ) (xs : List ℕ) → IsTwo x → IsTail y → IsUtf8 xs → IsUtf8 (x ∷ y ∷ xs)
two_before x y xs first tail utf8 =
    let c = (x - 192) * 64 + (y - 128) in
    let p : 192 + c / 64 ≡ x = omega arith in
    let q : next c ≡ y = omega arith in
    char_before c (x ∷ y ∷ []) xs (low_scalar c (omega arith)) (encode_two c (omega arith) (omega arith) ∙ (λ k. p k ∷ q k ∷ [])) utf8

three_before : (x y z : ℕ) (xs : List ℕ) → IsThree x → IsTail y → IsTail z → IsUtf8 xs → IsUtf8 (x ∷ y ∷ z ∷ xs)
three_before x y z xs first second last utf8 =
    let c = (x - 224) * 4096 + (y - 128) * 64 + (z - 128) in
    let p : 224 + c / 4096 ≡ x = omega arith in
    let q : next (c / 64) ≡ y = omega arith in
    let r : next c ≡ z = omega arith in
    let ok : (c < 55296) ⊎ ((57344 ≤ c) × (c < 1114112)) = elim (cases_lt x 237) [ inl low ↦ inl (omega arith) | inr high ↦ inr (omega arith, omega arith) ] in
    char_before c (x ∷ y ∷ z ∷ []) xs (any_scalar c ok) (encode_three c (omega arith) (omega arith) ∙ (λ k. p k ∷ q k ∷ r k ∷ [])) utf8

-- q, above the bits of a mask

abbrev above : List ℕ → ℕ → ℕ
above [] q = q
above (x ∷ xs) q = 2 * above xs q

above_is : (xs : List ℕ) (q : ℕ) → above xs q ≡ 2 ^ length xs * q
above_is [] q = omega arith
above_is (x ∷ xs) q = rw (above_is xs q, pow-succ' 2 (length xs)) (omega arith)

abbrev pub high : List ℕ → ℕ
high = mask 128 255

abbrev pub twos : List ℕ → ℕ
twos = mask 194 223

abbrev pub threes : List ℕ → ℕ
threes = mask 225 239

abbrev pub tails : List ℕ → ℕ
tails = mask 128 191

-- no byte begins a character of four bytes, and none has a rule of its own for what follows
pub record AreShort (xs : List ℕ) : Type 0 where
  pub all : high xs ≡ twos xs + threes xs + tails xs
  pub none : mask 237 237 xs ≡ 0

short_after : (x : ℕ) (xs : List ℕ) → x < 256 → AreShort (x ∷ xs) → AreShort xs
short_after x xs small short = record {
  all = omega (arith, small, short.all, bit_is 128 255 x, bit_is 194 223 x, bit_is 225 239 x, bit_is 128 191 x);
  none = omega (arith, short.none);
}

-- front and xs are UTF-8, but for a last character whose end is missing
abbrev Begins : List ℕ → List ℕ → Type 0
Begins front xs = (end : List ℕ) × IsUtf8 (front ++ (xs ++ end))

-- one byte more completes front
abbrev LacksOne : List ℕ → Type 0
LacksOne front = (y : ℕ) → IsTail y → (xs : List ℕ) → IsUtf8 xs → IsUtf8 (front ++ y ∷ xs)

-- q stands for the bits that are shifted out of a block
module _ (q : ℕ) where
  -- behind each first byte are its tails, and the first of them go on with what is before xs
  abbrev Follow : List ℕ → ℕ → Type 0
  Follow xs owed = tails xs + above xs q ≡ 2 * twos xs + 6 * threes xs + owed

  texts : (xs : List ℕ) → Each1 (Fits w8) xs → AreShort xs
      → (Follow xs 0 → Begins [] xs) × ((front : List ℕ) → LacksOne front → Follow xs 1 → Begins front xs)
      × ((x : ℕ) → IsThree x → Follow xs 3 → Begins (x ∷ []) xs)
  texts [] fits short = (
    λ follow. ([], IsUtf8-nil),
    λ front lacks follow. (128 ∷ [], lacks 128 (omega arith, omega arith) [] IsUtf8-nil),
    λ x first follow. (128 ∷ 128 ∷ [], three_before x 128 128 [] first (omega arith, omega arith) (omega arith, omega arith) IsUtf8-nil),
  )
  texts (y ∷ ys) fits short =
      let small = fits.0.fits in
      let none = short.none in
      let all = short.all in
      let high = bit_is 128 255 y in
      let two = bit_is 194 223 y in
      let three = bit_is 225 239 y in
      let tail = bit_is 128 191 y in
      let other = bit_is 237 237 y in
      let after = texts ys fits.1 (short_after y ys small short) in (
        λ follow.
            elim (cases_lt y 128) [
              | inl ascii ↦ (let t = after.0 (omega arith) in (t.0, one_before y (ys ++ t.0) ascii t.1))
              | inr wide ↦ elim (cases_lt y 224) [
                | inl narrow ↦ after.1 (y ∷ []) (λ z last xs. two_before y z xs (omega arith, omega arith) last) (omega arith)
                | inr wider ↦ after.2 y ((omega arith, omega arith), omega arith) (omega arith)
              ]
            ],
        λ front lacks follow. (let t = after.0 (omega arith) in (t.0, lacks y (omega arith, omega arith) (ys ++ t.0) t.1)),
        λ x first follow. after.1 (x ∷ y ∷ []) (λ z last xs. three_before x y z xs first (omega arith, omega arith) last) (omega arith),
      )

-- the parts of the mask of all bytes beyond ASCII
parts : (xs : List ℕ) → (twos xs + threes xs + tails xs ≤ high xs) × (mask 237 237 xs ≤ threes xs)
parts [] = (omega arith, omega arith)
parts (x ∷ xs) =
    let high = bit_is 128 255 x in
    let two = bit_is 194 223 x in
    let three = bit_is 225 239 x in
    let tail = bit_is 128 191 x in
    let other = bit_is 237 237 x in
    let more = parts xs in
    (omega arith, omega arith)

pub ascii : (xs : List ℕ) → Each1 (Fits w8) xs → high xs ≡ 0 → IsUtf8 xs
ascii [] fits none = IsUtf8-nil
ascii (x ∷ xs) fits none =
    let high = bit_is 128 255 x in
    let small = fits.0.fits in
    one_before x xs (omega arith) (ascii xs fits.1 (omega arith))

module _ (block : List ℕ) (fits : (length block ≡ 64) × Each1 (Fits w8) block) where
  pub masks_fit : twos block + threes block + tails block < 2 ^ 64
  masks_fit =
      let above = mask_l-lt (map (is_in_range 128 255) block) in
      omega (arith, parts block, subst (λ n. high block < 2 ^ n) (length-map block (is_in_range 128 255) ∙ fits.0) above)

  pub wide_begins : AreShort block → tails block ≡ ((twos block + threes block) * 2 % 2 ^ 64 + threes block * 4 % 2 ^ 64) % 2 ^ 64 → BeginsText block
  wide_begins short follow =
      let q = (2 * twos block + 6 * threes block) / 2 ^ 64 in
      let out : above block q ≡ 2 ^ 64 * q = above_is block q ∙ ap (λ k. 2 ^ k * q) fits.0 in
      (texts q block fits.1 short).0 (omega (arith, follow, out))

  pub narrow_begins : high block ≡ twos block + tails block → tails block ≡ twos block * 2 % 2 ^ 64 → BeginsText block
  narrow_begins narrow follow =
      let part = parts block in
      let short : AreShort block = record { all = omega arith; none = omega arith } in
      wide_begins short (omega (arith, follow))

  -- a character begins at a byte that goes on with none
  boundary : (n : ℕ) (end : List ℕ) → n < 64 → bit_at (tails block) n ≡ 0 → IsCharBoundary (block ++ end) n
  boundary n end inside none =
      let here : n < length block = omega (arith, inside, fits.0) in
      let same = get_or_append_left block end 0 n here in
      let bit : bit 128 191 (get_or block n 0) ≡ 0
      = ap number (sym (get_or-map (is_in_range 128 191) block n 0 false here)) ∙ sym (bit_mask_l (map (is_in_range 128 191) block) n) ∙ none in
      (omega (arith, here, length-append block end), λ _ high. omega (arith, bit, high, same, bit_is 128 191 (get_or block n 0)))

  pub whole_chars : BeginsText block → (n : ℕ) → n < 64 → (0 < n → bit_at (tails block) n ≡ 0) → IsUtf8 (take n block)
  whole_chars text n inside none =
      elim (cases_lt 0 n) [
        | inl some ↦
            rw (take-append-le n block text.0 (omega (arith, inside, fits.0)))
            at (IsUtf8-take (block ++ text.0) n text.1 (boundary n text.0 inside (none some)))
        | inr empty ↦ (let is : n ≡ 0 = omega (arith, empty) in rw is IsUtf8-nil)
      ]
