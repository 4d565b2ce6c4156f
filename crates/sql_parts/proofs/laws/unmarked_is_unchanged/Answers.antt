use Rattle.std.proofs.Common.{refl}
use Rattle.sql_parts.specs.Templates.{Cycle, First}
use Rattle.sql_parts.proofs.templates.UnchangedTextFacts.{without-prefix}
use Rattle.sql_parts.proofs.laws.unmarked_is_unchanged.Goals as goal

pub returns : goal.returns
returns c = record {
  bind = λ text literals. without-prefix First 63 text literals refl;
  binds = λ count text literals. without-prefix (Cycle count) 63 text literals refl;
}
