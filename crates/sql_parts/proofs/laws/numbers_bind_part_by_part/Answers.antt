use Rattle.sql_parts.proofs.Imports.{refl, not-true}
use Rattle.sql_parts.specs.{Nums}
use Rattle.sql_parts.proofs.templates.{placeholder-bound, texts-apart, without-prefix}
use Rattle.sql_parts.proofs.laws.numbers_bind_part_by_part.Goals as goal

pub returns : goal.returns
returns c = record {
  bound = λ count literals text. refl;
  parts = λ count literals one other clear. texts-apart count literals one other (not-true _ clear);
  unmarked = λ count text literals all. without-prefix (Nums count) 36 text literals refl all;
  placeholders = λ count before literals within. placeholder-bound count before literals within;
}
