-- The decimal digits of a number, written from the last one on into the end of a list of 20.
use Rattle.sqlb.proofs.Imports.{◌≡◌, ◌≢◌, ℕ, ◌+◌, ◌-◌, ◌/◌, ◌%◌, ◌<◌, ◌≤◌, ◌^◌, List, [], ◌∷◌, ◌++◌, length, drop, set, ap, sym, ◌∙◌, arith, append_assoc}
use Rattle.sqlb.proofs.Imports.{decimal, length-append, length-drop, lit<, drop-set, decimal_digit, decimal_step, decimal_is_IsNumeral, length-decimal-le}

-- while a digit is left to write, there is room for it
pub room : (digits : List ℕ) (start rest number : ℕ) → length digits ≡ 20 → start ≤ 20 → rest < 2 ^ 64 → number < 2 ^ 64
    → decimal rest ++ drop start digits ≡ decimal number → 1 ≤ start
room digits start rest number len within small small' progress =
    let sizes : length (decimal rest) + length (drop start digits) ≡ length (decimal number)
    = sym (length-append (decimal rest) (drop start digits)) ∙ ap length progress in
    let wide : number < 10 ^ 20 = omega arith in
    omega (arith, sizes, length-drop start digits, len, (decimal_is_IsNumeral rest small).0.0, length-decimal-le 20 number (lit< tt) wide small')

-- a digit in front of those that are written
put_digit : (digits : List ℕ) (start digit : ℕ) → length digits ≡ 20 → 1 ≤ start → start ≤ 20
    → drop (start - 1) (set digits (start - 1) digit) ≡ digit ∷ drop start digits
put_digit digits start digit len some within =
    let again : start - 1 + 1 ≡ start = omega arith in
    drop-set digits (start - 1) digit (omega arith) ∙ ap (λ n. digit ∷ drop n digits) again

pub last_digit : (digits : List ℕ) (start rest number : ℕ) → length digits ≡ 20 → 1 ≤ start → start ≤ 20 → rest / 10 ≡ 0
    → decimal rest ++ drop start digits ≡ decimal number → drop (start - 1) (set digits (start - 1) (48 + rest % 10)) ≡ decimal number
last_digit digits start rest number len some within last progress =
    let small : rest < 10 = omega arith in
    let digit : rest % 10 ≡ rest = omega arith in
    put_digit digits start (48 + rest % 10) len some within ∙ ap (λ n. (48 + n) ∷ drop start digits) digit
    ∙ ap (λ l. l ++ drop start digits) (sym (decimal_digit rest small)) ∙ progress

pub next_digit : (digits : List ℕ) (start rest number : ℕ) → length digits ≡ 20 → 1 ≤ start → start ≤ 20 → rest < 2 ^ 64 → rest / 10 ≢ 0
    → decimal rest ++ drop start digits ≡ decimal number → decimal (rest / 10) ++ drop (start - 1) (set digits (start - 1) (48 + rest % 10)) ≡ decimal number
next_digit digits start rest number len some within small more progress =
    let large : 10 ≤ rest = omega arith in
    ap (λ l. decimal (rest / 10) ++ l) (put_digit digits start (48 + rest % 10) len some within)
    ∙ sym (append_assoc (decimal (rest / 10)) ((48 + rest % 10) ∷ []) (drop start digits))
    ∙ ap (λ l. l ++ drop start digits) (sym (decimal_step rest large small)) ∙ progress
