use Rattle.sql_builder.proofs.interference.StatementReaderLemmas.{bytes-marked, closed-open, fragments-alike, no_texts-decide}
use Rattle.sql_builder.proofs.interference.StatementReaderLemmas.{no_texts-decide_printed, plain-printed, printed-alike, printed-marked, statements-alike}
use Rattle.sql_builder.proofs.laws.readers_ignore_quoted_texts.Goals as goal

pub returns : goal.returns
returns c = record {
  statements = statements-alike;
  printed = printed-alike;
  bytes = bytes-marked;
  printed_bytes = printed-marked;
  fragments = fragments-alike;
  closed = closed-open;
  plain = plain-printed;
  no_texts = no_texts-decide;
  no_texts_printed = no_texts-decide_printed;
}
