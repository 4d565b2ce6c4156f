use Rattle.std.proofs.Common.{refl, rules}
use Rattle.sql_parts.proofs.fragments.KeywordLemmas.{sign-plain, sign-role}
use Rattle.sql_parts.specs.declared.roles.Role.TheVariants as role
use Rattle.sql_parts.proofs.roles.symbol_role.Goals as goal

pub returns-in-40 : goal.returns-in-40
returns-in-40 c = sign-role c.args.sign role.Raises 40 c.in-40.is refl

pub returns-in-41 : goal.returns-in-41
returns-in-41 c = sign-role c.args.sign role.Lowers 41 c.in-41.is refl

pub returns-in-44 : goal.returns-in-44
returns-in-44 c = sign-role c.args.sign role.Parts 44 c.in-44.is refl

pub returns-in-59 : goal.returns-in-59
returns-in-59 c = sign-role c.args.sign role.Breaks 59 c.in-59.is refl

pub returns-in_default : goal.returns-in_default
returns-in_default c = sign-plain c.args.sign (search rules) (search rules) (search rules) (search rules)
