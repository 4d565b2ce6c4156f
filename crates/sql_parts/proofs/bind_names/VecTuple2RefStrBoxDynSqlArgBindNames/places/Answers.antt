use Rattle.sql_parts.proofs.bind_names.VecTuple2RefStrBoxDynSqlArgBindNames.places.Goals as goal

pub returns-clause-places : goal.returns-clause-places
returns-clause-places g c = rw c.as_slice.ensures.value at c.places_of.ensures.places
