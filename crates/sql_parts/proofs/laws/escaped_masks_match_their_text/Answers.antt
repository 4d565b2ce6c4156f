use Rattle.sql_parts.proofs.bytes.LikeMaskFacts.{escape-low, escape-plain, matches-end, matches-inside, matches-start, matches-text}
use Rattle.sql_parts.specs.Like.{escape_character}
use Rattle.sql_parts.proofs.laws.escaped_masks_match_their_text.Goals as goal

pub returns : goal.returns
returns c = record {
  exact = λ escape text other. matches-text (escape_character escape) text other (escape-low escape);
  begins = λ escape text other. matches-start (escape_character escape) text other (escape-low escape) (escape-plain escape);
  ends = λ escape text other. matches-end (escape_character escape) text other (escape-low escape) (escape-plain escape);
  contains = λ escape text other. matches-inside (escape_character escape) text other (escape-low escape) (escape-plain escape);
}
