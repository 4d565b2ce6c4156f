use Rattle.sql_parts.proofs.Imports.{length, length-map}
use Rattle.sql_parts.specs.{blank_token}
use Rattle.sql_parts.proofs.fragments.{ignores}
use Rattle.sql_parts.proofs.templates.{bound_texts-ignored}
use Rattle.sql_parts.proofs.laws.bound_texts_keep_the_count.Goals as goal

pub returns : goal.returns
returns c = record { count = bound_texts-ignored length (ignores length (λ ts. length-map ts blank_token)) }
