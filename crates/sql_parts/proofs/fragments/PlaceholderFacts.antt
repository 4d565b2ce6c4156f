-- A placeholder is a symbol and a number, and so an operand.
use Rattle.sql_parts.proofs.Imports.{◌≡◌, ℕ, pos, ◌∷◌, [], refl, ap, ◌∙◌, not, list_any, Style}
use Rattle.sql_parts.specs.{whole, ServesAsOperand, placeholder_text, prefix, decimal_text, Symbol, Word, is_open, tokens}
use Rattle.sql_parts.specs.declared.parameter.Style.TheVariants as style
use Rattle.sql_parts.proofs.fragments.OperandFacts.{Inert, decimal-inert, inert, serves}
use Rattle.sql_parts.proofs.tokens.{tokens-rule, literal-is}

prefix-inert : (style : Style) → Inert (Symbol (prefix style))
prefix-inert style.Question = inert _ refl
prefix-inert style.Dollar = inert _ refl

-- its tokens
pub placeholder-tokens : (style : Style) (number : ℕ) → tokens (placeholder_text style number) ≡ Symbol (prefix style) ∷ Word (decimal_text number) ∷ []
placeholder-tokens style.Question number = tokens-rule 63 (decimal_text number) ∙ ap (λ ts. Symbol 63 ∷ ts) (literal-is (whole (pos number)))
placeholder-tokens style.Dollar number = tokens-rule 36 (decimal_text number) ∙ ap (λ ts. Symbol 36 ∷ ts) (literal-is (whole (pos number)))

-- the placeholder of each number
pub placeholder-serves : (style : Style) (number : ℕ) → ServesAsOperand (placeholder_text style number)
placeholder-serves style number =
    let are = placeholder-tokens style number in
    serves (placeholder_text style number) (Symbol (prefix style) ∷ Word (decimal_text number) ∷ []) are refl (prefix-inert style, (decimal-inert number, tt))
    (ap (λ ts. not (list_any is_open ts)) are)
