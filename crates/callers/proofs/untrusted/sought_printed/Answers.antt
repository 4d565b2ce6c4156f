use Rattle.std.proofs.Common.{◌≡◌, [], ◌∷◌, List, ℕ, Option, None, Some, codes, option_map, true, refl}
use Rattle.std.specs.Prelude.{IsNone}
use Rattle.sql_builder.specs.Builder.{ClauseTexts, started, with_condition}
use Rattle.sql_builder.specs.Calls.{CallText, Cond, SelectFrom, Sql}
use Rattle.sql_builder.specs.declared.condition.Condition.TheVariants.{Compare}
use Rattle.sql_builder.specs.Layout.{sql_error}
use Rattle.sql_builder.specs.Shape.{HasClosedFragments}
use Rattle.sql_builder.specs.declared.condition.Family.TheVariants.{And}
use Rattle.sql_builder.specs.declared.condition.Relation.TheVariants.{Eq}
use Rattle.sql_parts.specs.Operands.{ServesAsOperand}
use Rattle.sql_parts.specs.Quoting.{quoted}
use Rattle.sql_parts.specs.Tokens.{closed}
use Rattle.sql_builder.proofs.for_callers.ChainLemmas.{Chain, chain_closed, chain_next, chain_start}
use Rattle.sql_builder.proofs.for_callers.ErrorLemmas.{call_keeps}
use Rattle.callers.specs.Columns.{by_author}
use Rattle.callers.proofs.untrusted.sought_printed.Goals as goal

-- a condition on a column's text between quotes, and the calls of each case
abbrev asked : List ℕ → List ℕ → CallText
asked column text = Cond And (Compare Eq column (quoted text))

abbrev calls : List ℕ → Option (List ℕ) → List CallText
calls title None = asked (codes "title") title ∷ []
calls title (Some author) = asked (codes "title") title ∷ asked (codes "author") author ∷ []

abbrev of_title : List ℕ → ClauseTexts
of_title title = with_condition And (Compare Eq (codes "title") (quoted title)) (started (SelectFrom (codes "books")))

made : (title : List ℕ) (author : Option (List ℕ)) (r : ClauseTexts) → r ≡ by_author author (of_title title)
    → Chain (SelectFrom (codes "books")) (calls title author) r
made title None r is = chain_next (asked (codes "title") title) is (chain_start (SelectFrom (codes "books")) refl)
made title (Some author) r is =
    chain_next (asked (codes "author") author) is
    (chain_next (asked (codes "title") title) refl (chain_start (SelectFrom (codes "books")) refl))

one : (q : List ℕ) → closed q ≡ true → HasClosedFragments (SelectFrom (codes "books")) (Cond And (Compare Eq (codes "title") q) ∷ []) Sql
one q is = rw is refl

two : (q p : List ℕ) → closed q ≡ true → closed p ≡ true
    → HasClosedFragments (SelectFrom (codes "books")) (Cond And (Compare Eq (codes "title") q) ∷ Cond And (Compare Eq (codes "author") p) ∷ []) Sql
two q p is also = rw is (rw also refl)

fragments : ((text : List ℕ) → ServesAsOperand (quoted text)) → (title : List ℕ) (author : Option (List ℕ))
    → HasClosedFragments (SelectFrom (codes "books")) (calls title author) Sql
fragments law title None = one (quoted title) (law title).is_closed
fragments law title (Some author) = two (quoted title) (quoted author) (law title).is_closed (law author).is_closed

keeps : (author : Option (List ℕ)) (r : ClauseTexts) → IsNone (sql_error r) → IsNone (sql_error (by_author author r))
keeps None r none = none
keeps (Some author) r none = call_keeps (asked (codes "author") author) r refl none

pub returns-clause-closed : goal.returns-clause-closed
returns-clause-closed c =
    let author = option_map (λ s. s.now) c.args.author in
    chain_closed Sql c.sql.result (made c.args.title.now author _ c.in_ok-builder.ensures.made) c.sql.ensures.text c.sql.ensures.error
    (fragments c.literals_are_operands.ensures.quote c.args.title.now author)

pub returns-clause-memory : goal.returns-clause-memory
returns-clause-memory c = c.sql.ensures.memory (rw c.in_ok-builder.ensures.made (keeps (option_map (λ s. s.now) c.args.author) _ refl))

pub returns-clause-text : goal.returns-clause-text
returns-clause-text c = rw c.in_ok-builder.ensures.made at c.sql.ensures.text
