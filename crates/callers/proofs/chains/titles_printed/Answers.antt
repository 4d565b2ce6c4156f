use Rattle.std.proofs.Common.{ℕ, Option, None, Some, refl}
use Rattle.std.specs.Prelude.{IsNone}
use Rattle.sql_builder.specs.Builder.{ClauseTexts}
use Rattle.sql_builder.specs.Calls.{Limit}
use Rattle.sql_builder.specs.Layout.{sql_error}
use Rattle.sql_parts.specs.Text.{decimal_text}
use Rattle.sql_builder.proofs.for_callers.ErrorLemmas.{call_keeps}
use Rattle.callers.specs.Columns.{limited}
use Rattle.callers.proofs.chains.titles_printed.Goals as goal

limited_keeps : (most : Option ℕ) (r : ClauseTexts) → IsNone (sql_error r) → IsNone (sql_error (limited most r))
limited_keeps None r none = none
limited_keeps (Some most) r none = call_keeps (Limit (decimal_text most)) r refl none

pub returns-clause-text : goal.returns-clause-text
returns-clause-text c = rw c.in_ok-builder.ensures.made at c.sql.ensures.text

pub returns-clause-memory : goal.returns-clause-memory
returns-clause-memory c =
    c.sql.ensures.memory (rw c.in_ok-builder.ensures.made (limited_keeps c.args.most _ refl))
