use Rattle.sql_typed.proofs.Imports.{◌≡◌, ◌++◌, codes, map, string_bytes, take, flat_map, byte_units, in_brackets}
use Rattle.sql_typed.proofs.condition.joined.Given as goal

abbrev pub invariant-loop-condition : goal.invariant-loop-condition
invariant-loop-condition l =
    string_bytes l.text
    ≡ codes "(" ++ (in_brackets byte_units (string_bytes l.first.text)
    ++ flat_map (λ item. l.word ++ item) (map (in_brackets byte_units) (map (λ c. string_bytes c.text) (take l.condition-index l.further))))
