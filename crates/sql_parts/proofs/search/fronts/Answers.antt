use Rattle.sql_parts.proofs.bytes.LaneLemmas.{front_bits-past, front_bits-place}
use Rattle.sql_parts.proofs.search.fronts.Goals as goal

pub returns : goal.returns
returns c = record {
  places = front_bits-place c.args.front c.args.bytes.now c.args.at c.requires.room;
  within = front_bits-past c.args.front c.args.bytes.now c.args.at c.requires.room;
}
