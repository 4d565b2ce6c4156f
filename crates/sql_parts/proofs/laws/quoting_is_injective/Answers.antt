use Rattle.sql_parts.proofs.bytes.DoublingLemmas.{doubled-injective, enclosed-injective}
use Rattle.sql_parts.proofs.laws.quoting_is_injective.Goals as goal

pub returns-clause-esc : goal.returns-clause-esc
returns-clause-esc c = doubled-injective 39

pub returns-clause-quote : goal.returns-clause-quote
returns-clause-quote c = enclosed-injective 39 39

pub returns-clause-baquote : goal.returns-clause-baquote
returns-clause-baquote c = enclosed-injective 96 96

pub returns-clause-brquote : goal.returns-clause-brquote
returns-clause-brquote c = enclosed-injective 91 93

pub returns-clause-dquote : goal.returns-clause-dquote
returns-clause-dquote c = enclosed-injective 34 34
