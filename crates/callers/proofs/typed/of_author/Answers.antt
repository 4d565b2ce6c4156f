-- The statement of an author differs from that of none in the text of a string alone.
use Rattle.std.proofs.Common.{◌≡◌, ◌∷◌, Ok, List, [], ap, codes, refl, subst, sym, ℕ, string_bytes}
use Rattle.std.proofs.lemmas.Result.{IfOk-weaker}
use Rattle.sql_parts.specs.StringTexts.{outline}
use Rattle.sql_parts.specs.Tokens.{Token, tokens}
use Rattle.sql_builder.specs.Calls.{Sql}
use Rattle.sql_builder.proofs.interference.OutlineLemmas.{equation-outline}
use Rattle.sql_typed.specs.Fits.{Made}
use Rattle.sql_typed.specs.Printed.{DifferInStrings}
use Rattle.callers.specs.TypedSearches.{asked_of_author}
use Rattle.callers.proofs.typed.of_author.Goals as goal

differ : (one other : List ℕ) → DifferInStrings Sql (asked_of_author one) (asked_of_author other)
differ one other =
    ap (λ (condition : List Token). Ok (tokens (codes "SELECT ") ∷ tokens (codes "*") ∷ tokens (codes " FROM ") ∷ tokens (codes "books") ∷ tokens (codes " WHERE ")
    ∷ condition ∷ tokens (codes ";") ∷ []))
    (equation-outline (codes "author") one other refl)

pub returns : goal.returns
returns c = record {
  same = IfOk-weaker c.sql.result _
      (λ s. outline (string_bytes s) ≡ tokens (codes "SELECT * FROM books WHERE author = '';"))
      (λ s printed. let same = printed.no_interference (asked_of_author [])
      (subst (λ (made : Made). DifferInStrings Sql made (asked_of_author [])) (sym c.in_ok-books.ensures.made) (differ c.args.author.now [])) in sym (cc same))
      c.sql.ensures.printed;
}
