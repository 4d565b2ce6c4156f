use Rattle.sql_parts.proofs.bind_names.RefSliceTuple2RefStrBoxDynSqlArgBindNames.places.Goals as goal

pub returns-clause-places : goal.returns-clause-places
returns-clause-places g c = rw c.whole.ensures at c.places_of.ensures.places
