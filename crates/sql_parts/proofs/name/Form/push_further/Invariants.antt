use Rattle.sql_parts.proofs.Imports.{◌≡◌, ◌++◌, map, take, codes, flat_map, string_bytes}
use Rattle.sql_parts.specs.{written_in, texts}
use Rattle.sql_parts.proofs.name.Form.push_further.Given as goal

abbrev pub invariant-loop-part : goal.invariant-loop-part
invariant-loop-part l =
    string_bytes l.out
    ≡ string_bytes l.initial.out ++ flat_map (λ part. codes "." ++ part) (map (written_in l.self) (texts (take l.part-index l.parts)))
