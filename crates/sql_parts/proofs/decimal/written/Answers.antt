use Rattle.sql_parts.proofs.Imports.{◌-◌, arith, drop, length, length-drop, subst, sym, IsAscii, take_all, IsUtf8-from_ascii}
use Rattle.sql_parts.proofs.decimal.written.Goals as goal

pub from_utf8_unchecked-requires : goal.from_utf8_unchecked-requires
from_utf8_unchecked-requires c =
    let text = c.args.text.now in
    let whole = take_all (length text - c.args.start) (drop c.args.start text) (omega (arith, length-drop c.args.start text)) in
    IsUtf8-from_ascii _ (subst IsAscii (sym whole) c.requires.ascii)
