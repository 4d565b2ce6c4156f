use Rattle.sql_builder.specs.{finish_view, text_at}
use Rattle.sql_builder.proofs.calls.printed_length.Given as goal

abbrev pub ghost-of : goal.ghost-of
ghost-of a = text_at (finish_view a.from.now.1.now) a.from.now.0.now
