-- The digits of a number, two or nineteen at a time.
use Rattle.sql_parts.proofs.Imports.{◌≡◌, ℕ, zero, suc, ◌+◌, ◌-◌, ◌*◌, ◌/◌, ◌%◌, ◌^◌, ◌<◌, ◌≤◌, Bool, true, ◌&&◌, T, eqb, List, [], ◌∷◌, ◌++◌, length, get_or}
use Rattle.sql_parts.proofs.Imports.{refl, ap, ◌∙◌, inl, inr, arith, lit<, mul_assoc, mul_comm, mul-le-mul_left, mul-one, ℤ, pos, negsuc, FitsSigned, false}
use Rattle.sql_parts.proofs.Imports.{int_le, true≢false, unsigned_abs, eq-zero-or-pos, eqb→eq, append_assoc, append-nil, length-append, sym, decimal}
use Rattle.sql_parts.proofs.Imports.{signed_decimal, decimal_digit, IsAscii-decimal_wide, w128, IsAscii}
use Rattle.std.proofs.lemmas.Fmt.{decimal_step, decimal_step_wide, length-decimal-le_wide}
use Rattle.std.proofs.lemmas.Str.Ascii.{IsAscii-cons}
use lib.Dec.{leb-zero}
use lib.Ieee.Fits.{and_l, and_r}
use Rattle.sql_parts.specs.{last_digits}
use Rattle.sql_parts.specs.declared.decimal.TheConstants.{PAIRS}

-- two digits
abbrev pub pair : ℕ → List ℕ
pair p = (48 + p / 10) ∷ (48 + p % 10) ∷ []

abbrev are_pairs : ℕ → Bool
are_pairs zero = true
are_pairs (suc p) = (eqb (get_or PAIRS (p * 2) 0) (48 + p / 10) && eqb (get_or PAIRS (p * 2 + 1) 0) (48 + p % 10)) && are_pairs p

below : (n p : ℕ) → T (are_pairs n) → p < n → (get_or PAIRS (p * 2) 0 ≡ 48 + p / 10) × (get_or PAIRS (p * 2 + 1) 0 ≡ 48 + p % 10)
below zero p are h = absurd (omega arith)
below (suc n) p are h =
    elim (eq-zero-or-pos (n - p)) [
      | inl last ↦ let e : p ≡ n = omega arith in let a = and_l _ (are_pairs n) are in rw e (eqb→eq _ _ (and_l _ _ a), eqb→eq _ _ (and_r _ _ a))
      | inr more ↦ below n p (and_r _ (are_pairs n) are) (omega arith)
    ]

-- the table has each pair
pub in-table : (p : ℕ) → p < 100 → (get_or PAIRS (p * 2) 0 ≡ 48 + p / 10) × (get_or PAIRS (p * 2 + 1) 0 ≡ 48 + p % 10)
in-table p h = below 100 p tt h

pub one-digit : (n : ℕ) → n < 10 → length (decimal n) ≡ 1
one-digit n h = ap length (decimal_digit n h)

pub decimal-two : (n : ℕ) → 10 ≤ n → n < 100 → decimal n ≡ pair n
decimal-two n lo hi = rw (decimal_step n lo (omega arith), decimal_digit (n / 10) (omega arith))

pub two-digits : (n : ℕ) → 10 ≤ n → n < 100 → length (decimal n) ≡ 2
two-digits n lo hi = ap length (decimal-two n lo hi)

-- the last two digits
pub decimal-pair : (n : ℕ) → 100 ≤ n → n < 2 ^ 64 → decimal n ≡ decimal (n / 100) ++ pair (n % 100)
decimal-pair n lo hi =
    let a : n / 10 / 10 ≡ n / 100 = omega arith in
    let b : n / 10 % 10 ≡ n % 100 / 10 = omega arith in
    let c : n % 10 ≡ n % 100 % 10 = omega arith in
    rw (decimal_step n (omega arith) hi, decimal_step (n / 10) (omega arith) (omega arith), append_assoc, a, b, ← c)

pub length-pair : (n : ℕ) → 100 ≤ n → n < 2 ^ 64 → length (decimal n) ≡ length (decimal (n / 100)) + 2
length-pair n lo hi = ap length (decimal-pair n lo hi) ∙ length-append _ _

-- four more of the last digits
pub last-four : (count n : ℕ) → last_digits (suc (suc (suc (suc count)))) n ≡ last_digits count (n / 10000) ++ last_digits 4 (n % 10000)
last-four count n =
    let a : n / 10 / 10 / 10 / 10 ≡ n / 10000 = omega arith in
    let b : n / 10 / 10 / 10 % 10 ≡ n % 10000 / 10 / 10 / 10 % 10 = omega arith in
    let c : n / 10 / 10 % 10 ≡ n % 10000 / 10 / 10 % 10 = omega arith in
    let d : n / 10 % 10 ≡ n % 10000 / 10 % 10 = omega arith in
    let e : n % 10 ≡ n % 10000 % 10 = omega arith in
    rw (append_assoc, append_assoc, append_assoc, a, b, c, d, ← e)

length-last : (count n : ℕ) → length (last_digits count n) ≡ count
length-last zero n = refl
length-last (suc count) n = length-append (last_digits count (n / 10)) ((48 + n % 10) ∷ []) ∙ omega (arith, length-last count (n / 10))

power-some : (count : ℕ) → 0 < 10 ^ count
power-some zero = lit< tt
power-some (suc count) = omega (arith, power-some count, mul_comm (10 ^ count) 10)

mul-le-mul-power : (n p : ℕ) → 0 < p → n ≤ n * p
mul-le-mul-power n p some = omega (arith, mul-le-mul_left n some, mul-one n)

times-ten : (n p q : ℕ) → p ≡ 10 * q → n * p ≡ 10 * (n * q)
times-ten n p q is = ap (λ m. n * m) is ∙ sym (mul_assoc n 10 q) ∙ ap (λ m. m * q) (mul_comm n 10) ∙ mul_assoc 10 n q

-- a number is its first digits and its last ones
decimal-last : (count high low power : ℕ) → power ≡ 10 ^ count → 0 < high → low < power → high * power + low < 10 ^ 64
    → decimal (high * power + low) ≡ decimal high ++ last_digits count low
decimal-last zero high low power is some small fits =
    let one : power ≡ 1 = is in
    let e : high * power + low ≡ high = rw one (omega arith) in ap decimal e ∙ sym (append-nil (decimal high))
decimal-last (suc count) high low power is some small fits =
    let rest = 10 ^ count in
    let step : 10 ^ suc count ≡ 10 * rest = omega arith in
    let more : power ≡ 10 * rest = is ∙ step in
    let most : high * power ≡ 10 * (high * rest) = times-ten high power rest more in
    let first : (high * power + low) / 10 ≡ high * rest + low / 10 = omega arith in
    let last : (high * power + low) % 10 ≡ low % 10 = omega arith in
    let long : high ≤ high * rest = mul-le-mul-power high rest (power-some count) in
    decimal_step_wide (high * power + low) (omega arith) fits
    ∙ (λ i. decimal (first i) ++ ((48 + last i) ∷ []))
    ∙ ap (λ text. text ++ ((48 + low % 10) ∷ [])) (decimal-last count high (low / 10) rest refl some (omega arith) (omega arith))
    ∙ append_assoc (decimal high) (last_digits count (low / 10)) ((48 + low % 10) ∷ [])

pub decimal-base : (n high : ℕ) → high ≡ n / 10000000000000000000 → 2 ^ 64 ≤ n → n < 2 ^ 128
    → decimal n ≡ decimal high ++ last_digits 19 (n - high * 10000000000000000000)
decimal-base n high is lo hi =
    let whole : high * 10000000000000000000 + (n - high * 10000000000000000000) ≡ n = omega arith in
    ap decimal (sym whole) ∙ decimal-last 19 high (n - high * 10000000000000000000) 10000000000000000000 refl (omega arith) (omega arith) (omega arith)

pub length-base : (n high : ℕ) → high ≡ n / 10000000000000000000 → 2 ^ 64 ≤ n → n < 2 ^ 128 → length (decimal n) ≡ length (decimal high) + 19
length-base n high is lo hi =
    ap length (decimal-base n high is lo hi) ∙ length-append (decimal high) (last_digits 19 (n - high * 10000000000000000000))
    ∙ omega (arith, length-last 19 (n - high * 10000000000000000000))

pub longest : (n : ℕ) → n < 2 ^ 128 → length (decimal n) ≤ 39
longest n h = length-decimal-le_wide 39 n (omega arith) (omega arith) (omega arith)

pub minus-first : (z : ℤ) → int_le (pos 0) z ≡ false → 45 ∷ decimal (unsigned_abs z) ≡ signed_decimal z
minus-first (pos n) e = absurd (true≢false (sym (leb-zero n) ∙ e))
minus-first (negsuc n) e = refl

pub ascii-signed : (z : ℤ) → FitsSigned w128 z → IsAscii (signed_decimal z)
ascii-signed (pos n) h = let fits = h.sfits in IsAscii-decimal_wide n (omega arith)
ascii-signed (negsuc n) h = let fits = h.sfits in IsAscii-cons 45 _ (omega arith) (IsAscii-decimal_wide (suc n) (omega arith))

pub ascii-prefixed : (prefix n : ℕ) → prefix < 128 → n < 2 ^ 128 → IsAscii (prefix ∷ decimal n)
ascii-prefixed prefix n ascii fits = IsAscii-cons prefix _ ascii (IsAscii-decimal_wide n (omega arith))
