use Rattle.sql_parts.proofs.templates.BoundTextFacts.{bound_texts-ignored}
use Rattle.sql_builder.specs.Interference.{blank_clauses}
use Rattle.sql_builder.proofs.interference.BlankClauseLemmas.{blank_clauses-ignore}
use Rattle.sql_builder.proofs.laws.string_texts_begin_no_clause.Goals as goal

pub returns : goal.returns
returns c = record { tokens = blank_clauses-ignore; bound = bound_texts-ignored blank_clauses blank_clauses-ignore }
