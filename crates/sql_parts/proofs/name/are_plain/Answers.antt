use Rattle.sql_parts.proofs.Imports.{rules, tests, sym, ◌∙◌, Global, String, string_bytes, list_all-map}
use Rattle.std.proofs.lemmas.Iterator.{YieldsList-from_slice}
use Rattle.std.proofs.lemmas.Iterator.Search.{all_from_yields_List}
use Rattle.sql_parts.specs.{is_plain}
use Rattle.sql_parts.proofs.name.are_plain.Goals as goal

pub returns : goal.returns
returns c =
    all_from_yields_List (λ (part : String Global). is_plain (string_bytes part)) _ _ c.all.result c.all.ensures.ran
    (YieldsList-from_slice c.args.parts.now cc) (λ x b q k. search (rules, tests))
    ∙ sym (list_all-map is_plain (λ part. string_bytes part) c.args.parts.now)
