use Rattle.sql_builder.proofs.Imports.{sym, ◌∙◌, ap, blank, Single, between-tokens}
use Rattle.sql_builder.proofs.interference.{condition-outline, equation-outline, fragments-apart, outlines-decide}
use Rattle.sql_builder.proofs.laws.quoted_fragments_do_not_interfere.Goals as goal

pub returns : goal.returns
returns c = record {
  lists = fragments-apart;
  builders = outlines-decide;
  conditions = condition-outline;
  equations = equation-outline;
  quotes = λ one other. ap blank (between-tokens Single one) ∙ sym (ap blank (between-tokens Single other));
}
