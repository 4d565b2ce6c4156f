-- The decimal text of a number is what `Display` writes of it, for every integer type.
use Rattle.sql_parts.proofs.Imports.{◌≡◌, ℕ, zero, suc, ◌+◌, ◌%◌, ◌/◌, ◌<◌, ◌^◌, List, [], ◌∷◌, ◌++◌, map, ℤ, sym, ap, ◌∙◌, arith, pos, negsuc, FitsSigned}
use Rattle.sql_parts.proofs.Imports.{codes, if◌then◌else◌, w128, decimal, signed_decimal, digits_of, decimal_digit, digits_of_step, map_push, ne_eqb}
use Rattle.std.proofs.lemmas.Fmt.{decimal_by_steps_wide}
use Rattle.sql_parts.specs.{decimal_text, number_text}

-- the digits of a number that is not 0, as bytes
abbrev glyphs : ℕ → List ℕ
glyphs n = map (λ digit. 48 + digit) (digits_of 10 n)

-- by the number's digits, from the first on
decimal-glyphs : (n : ℕ) → n < 10 ^ 64 → 0 < n → decimal n ≡ glyphs n
decimal-glyphs n small = decimal_by_steps_wide (λ m text. 0 < m → text ≡ glyphs m)
    (λ m l some. let none : m / 10 ≡ 0 = omega arith in let last : m % 10 ≡ m = omega arith in
    sym (ap (map (λ digit. 48 + digit)) (digits_of_step 10 m (omega arith) some ∙ (λ i. digits_of 10 (none i) ++ (last i ∷ [])))))
    (λ m text l before some. ap (λ front. front ++ ((48 + m % 10) ∷ [])) (before (omega arith))
    ∙ sym (map_push (λ digit. 48 + digit) (digits_of 10 (m / 10)) (m % 10)) ∙ ap (map (λ digit. 48 + digit)) (sym (digits_of_step 10 m (omega arith) some)))
    n small

-- an unsigned number
pub unsigned_text : (n : ℕ) → n < 2 ^ 128 → decimal n ≡ decimal_text n
unsigned_text zero small = decimal_digit 0 (omega arith)
unsigned_text (suc n) small =
    decimal-glyphs (suc n) (omega arith) (omega arith)
    ∙ sym (ap (λ test. if test then codes "0" else glyphs (suc n)) (ne_eqb (suc n) 0 (λ e. omega arith)))

-- a signed number
pub signed_text : (number : ℤ) → FitsSigned w128 number → signed_decimal number ≡ number_text number
signed_text (pos n) fits = unsigned_text n (omega arith)
signed_text (negsuc n) fits = ap (λ text. 45 ∷ text) (unsigned_text (suc n) (omega arith))
