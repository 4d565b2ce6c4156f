-- Worked rows of placeholders: what the definitions give, by computing.
use Rattle.sql_parts.proofs.Imports.{code, ◌≡◌, ◌^◌, [], ◌∷◌, codes, refl, arith, ap, sym, ◌∙◌, decimal, Question, Dollar}
use Rattle.std.specs.Fmt.{digits}
use Rattle.sql_parts.proofs.bytes.{unsigned_text}
use Rattle.sql_parts.specs.{placeholder_text, Symbol, Word, tokens}

placeholder_text-question : placeholder_text Question 1 ≡ codes "?1"
placeholder_text-question = refl

placeholder_text-dollar : placeholder_text Dollar 12 ≡ codes "$12"
placeholder_text-dollar = refl

ten-digits : decimal (2 ^ 32) ≡ codes "4294967296"
unfolding digits
ten-digits = refl

placeholder_text-ten-digits : placeholder_text Dollar (2 ^ 32) ≡ codes "$4294967296"
placeholder_text-ten-digits = ap (λ text. code "$" ∷ text) (sym (unsigned_text (2 ^ 32) (omega arith)) ∙ ten-digits)

tokens-question : tokens (codes "?1") ≡ Symbol (code "?") ∷ Word (codes "1") ∷ []
tokens-question = refl

tokens-dollar : tokens (codes "$12") ≡ Symbol (code "$") ∷ Word (codes "12") ∷ []
tokens-dollar = refl
