use Rattle.sql_parts.specs.declared.delimiters.Quotes.TheVariants.{Back, Double, Single, Square}
use Rattle.sql_parts.proofs.tokens.ReaderLemmas.{inside-until_end, leads-as_none, stays-inside}
use Rattle.sql_parts.proofs.laws.literals_end_for_any_reader.Goals as goal

pub returns : goal.returns
returns c = record {
  quote = leads-as_none Single;
  baquote = leads-as_none Back;
  brquote = leads-as_none Square;
  dquote = leads-as_none Double;
  esc = leads-as_none Single;
  quote_inside = inside-until_end Single;
  baquote_inside = inside-until_end Back;
  brquote_inside = inside-until_end Square;
  dquote_inside = inside-until_end Double;
  esc_inside = inside-until_end Single;
  esc_stays = stays-inside Single;
}
