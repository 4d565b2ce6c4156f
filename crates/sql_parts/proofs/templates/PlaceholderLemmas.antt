-- What the methods of a text say of numbers and names behind a sign.
use Rattle.sql_parts.proofs.Imports.{◌≡◌, ℕ, zero, suc, ◌+◌, ◌-◌, ◌*◌, ◌<◌, ◌≤◌, Bool, true, false, List, length, get_or, take, drop, Option, sym, ap, ◌∙◌}
use Rattle.sql_parts.proofs.Imports.{subst, arith, ne_eqb, length-take, digit_value, is_ascii_digit, position_or_len, before_first, after_first, ◌==◌, IsUtf8}
use Rattle.sql_parts.proofs.Imports.{IsCharBoundary, digits_value, nat_tests, digits_value_more, IsCharBoundary-after_ascii}
use Rattle.sql_parts.specs.{IsNumber, Holds, Named, named}

pub some-by-test : (n : ℕ) (test : Bool) → test ≡ (n == 0) → test ≡ false → 0 < n
some-by-test n test is fails = grind (arith, nat_tests, is, fails)

-- a name up to a closing colon
pub named-some : (behind name rest : List ℕ) → position_or_len (λ byte. byte == 58) behind < length behind → name ≡ before_first (λ byte. byte == 58) behind
    → rest ≡ after_first (λ byte. byte == 58) behind → 0 < length name → (Holds (Named name) ≡ (named behind).0) × (rest ≡ drop (named behind).1 behind)
named-some behind name rest inside is left some =
    let end = position_or_len (λ byte. byte == 58) behind in
    let within : length name ≡ end = rw (is, length-take) (omega arith) in
    rw (ne_eqb end (length behind) (λ e. omega arith), ne_eqb end 0 (λ e. omega arith)) (ap (λ n. Holds (Named n)) is, left)

digit-range : (byte : ℕ) → is_ascii_digit byte ≡ true → (48 ≤ byte) × (byte ≤ 57)
digit-range byte is = (grind (arith, nat_tests), grind (arith, nat_tests))

digit-value : (byte : ℕ) → is_ascii_digit byte ≡ true → digit_value byte ≡ byte - 48
digit-value byte is = let range = digit-range byte is in grind (arith, nat_tests, range.0, range.1)

-- the number with one more digit
pub number-more : (found : Option ℕ) (text : List ℕ) (i : ℕ) → i < length text → is_ascii_digit (get_or text i 0) ≡ true
    → IsNumber found (digits_value 10 (take i text) * 10 + (get_or text i 0 - 48)) → IsNumber found (digits_value 10 (take (i + 1) text))
number-more found text i inside digit is =
    subst (λ n. IsNumber found n) (sym (digits_value_more 10 text i inside ∙ ap (λ d. digits_value 10 (take i text) * 10 + d) (digit-value _ digit))) is

-- a text may be cut behind digits
pub cut-behind : (text : List ℕ) (n : ℕ) → IsUtf8 text → n ≤ length text → ((i : ℕ) → i < n → is_ascii_digit (get_or text i 0) ≡ true) → 0 < n
    → IsCharBoundary text n
cut-behind text zero utf8 within digits some = absurd (omega arith)
cut-behind text (suc n) utf8 within digits some =
    let range : (48 ≤ get_or text n 0) × (get_or text n 0 ≤ 57) = digit-range (get_or text n 0) (digits n (omega arith)) in
    let next : n + 1 ≡ suc n = omega arith in
    subst (IsCharBoundary text) next (IsCharBoundary-after_ascii text n utf8 (omega arith) (omega (arith, range.1)))
