use Rattle.std.proofs.Common.{◌≡◌, ℕ, suc, ◌-◌, ◌<◌, Bool, List, [], ◌∷◌, ◌∙◌, sym, ap, arith, length, get_or}
use Rattle.sql_parts.specs.Tokens.{ends_with, is_separator}
use Rattle.sql_parts.proofs.lex.ends_apart.Goals as goal

-- the last byte of a text, by its place
ends-last : (test : ℕ → Bool) (text : List ℕ) (byte : ℕ) → 0 < length text → byte ≡ get_or text (length text - 1) 0 → ends_with test text ≡ test byte
ends-last test [] byte some is = absurd (omega arith)
ends-last test (last ∷ []) byte some is = ap test (sym is)
ends-last test (other ∷ next ∷ text) byte some is =
    let at : length (other ∷ next ∷ text) - 1 ≡ suc (length (next ∷ text) - 1) = omega arith in
    ends-last test (next ∷ text) byte (omega arith) (is ∙ ap (λ i. get_or (other ∷ next ∷ text) i 0) at)

pub returns-in-Some : goal.returns-in-Some
returns-in-Some c =
    let item = c.in-Some.ensures.item in
    c.is_separator.ensures ∙ sym (ends-last is_separator c.as_bytes.result.now c.in-Some.byte.now item.3.0 (item.3.1 0))
    ∙ ap (ends_with is_separator) c.as_bytes.ensures.value
