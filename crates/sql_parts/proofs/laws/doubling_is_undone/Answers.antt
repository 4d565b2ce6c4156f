use Rattle.sql_parts.proofs.templates.UnchangedTextFacts.{names-doubled, nums-doubled}
use Rattle.sql_parts.proofs.laws.doubling_is_undone.Goals as goal

pub returns : goal.returns
returns c = record { bind_nums = nums-doubled; bind_names = names-doubled }
