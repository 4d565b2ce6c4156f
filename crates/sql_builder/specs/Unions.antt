-- Queries that a UNION can't take as they are.
use Rattle.std.specs.Prelude.{◌==◌, ◌||◌, Bool, is_some, length, not}
use Rattle.sql_builder.specs.Clauses.{Clauses}

-- a query has a UNION, an ORDER BY, a LIMIT or an OFFSET, which behind another query's UNION would be of the whole
abbrev pub needs_brackets : {T : Type 0} → Clauses T → Bool
needs_brackets r = not (length r.unions == 0) || not (length r.order_fields == 0) || is_some r.limit || is_some r.offset
