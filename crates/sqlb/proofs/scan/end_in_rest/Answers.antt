use Rattle.sqlb.proofs.Imports.{◌+◌, ◌∙◌, arith, ap, sym, drop, length-drop}
use Rattle.sqlb.proofs.bytes.{found_end, no_end, take_rest}
use Rattle.sqlb.proofs.scan.end_in_rest.Goals as goal

pub returns-in-Some : goal.returns-in-Some
returns-in-Some c =
    let found = rw (take_rest c.args.from c.args.text.now c.requires) at (sym c.find_end.ensures ∙ c.in-Some.is) in
    ap (λ n. c.args.from + n) (sym (found_end c.args.first (drop c.args.from c.args.text.now) c.in-Some.count found))

pub returns-in-None : goal.returns-in-None
returns-in-None c =
    let none = rw (take_rest c.args.from c.args.text.now c.requires) at (sym c.find_end.ensures ∙ c.in-None.is) in
    omega (arith, no_end c.args.first (drop c.args.from c.args.text.now) none, length-drop c.args.from c.args.text.now)
