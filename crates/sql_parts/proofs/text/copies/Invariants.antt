use Rattle.std.proofs.Common.{◌≡◌, map, take}
use Rattle.sql_parts.specs.Text.{texts}
use Rattle.sql_parts.proofs.text.copies.Given as goal

abbrev pub invariant-loop-item : goal.invariant-loop-item
invariant-loop-item g l = texts l.copied.items ≡ map g.S.ToText.text (take l.item-index l.items)
