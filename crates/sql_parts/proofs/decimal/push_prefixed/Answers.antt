use Rattle.sql_parts.proofs.Imports.{arith, length-decimal-le}
use Rattle.sql_parts.proofs.decimal.push_prefixed.Goals as goal

pub push_by-requires-clause-fits : goal.push_by-requires-clause-fits
push_by-requires-clause-fits c = omega (arith, length-decimal-le 1 c.args.number (omega arith) (omega arith) (omega arith))

pub push_by-requires-in-10-to-99-clause-fits : goal.push_by-requires-in-10-to-99-clause-fits
push_by-requires-in-10-to-99-clause-fits c = omega (arith, length-decimal-le 2 c.args.number (omega arith) (omega arith) (omega arith))

pub push_by-requires-in-100-to-999-clause-fits : goal.push_by-requires-in-100-to-999-clause-fits
push_by-requires-in-100-to-999-clause-fits c = omega (arith, length-decimal-le 3 c.args.number (omega arith) (omega arith) (omega arith))

pub push_by-requires-in_default-clause-fits : goal.push_by-requires-in_default-clause-fits
push_by-requires-in_default-clause-fits c = omega (arith, length-decimal-le 20 c.args.number (omega arith) (omega arith) (omega arith))
