-- What the code notes of a statement, so that it needn't keep the calls.
use Rattle.std.specs.Prelude.{◌&&◌, ◌||◌, not, if◌then◌else◌, Option, None, Some}
use Rattle.std.specs.List.{list_any}
use Rattle.sql_builder.specs.Calls.{CallText, is_join}
use Rattle.sql_typed.specs.Faults.{has_early_constraint, is_constraint, is_filter, is_filtered, is_order, is_returning, is_union}
use Rattle.sql_typed.specs.Fits.{Made}
use Rattle.sql_typed.specs.declared.error.Error.{Error}
use Rattle.sql_typed.specs.declared.error.Error.TheVariants.{NoCondition, NoJoin, OrderBesideUnion}
use Rattle.sql_typed.specs.declared.marks.Marks.{Marks}

-- what is noted of these calls
abbrev pub marks_of : Made → Marks
marks_of made = record {
  has_filter = is_filtered made;
  has_join = list_any is_join made.calls;
  has_stray_constraint = has_early_constraint made.calls;
  has_union = list_any is_union made.calls;
  has_order = list_any is_order made.calls;
  has_returning = list_any is_returning made.calls;
}

-- and of one more call
abbrev pub noted : CallText → Marks → Marks
noted c m = record {
  has_filter = is_filter c || m.has_filter;
  has_join = is_join c || m.has_join;
  has_stray_constraint = (is_constraint c && not m.has_join) || m.has_stray_constraint;
  has_union = is_union c || m.has_union;
  has_order = is_order c || m.has_order;
  has_returning = is_returning c || m.has_returning;
}

-- why a statement with these marks isn't printed
abbrev pub fault : Marks → Option Error
fault m = if not m.has_filter then Some NoCondition
    else if m.has_stray_constraint then Some NoJoin
    else if m.has_union && m.has_order then Some OrderBesideUnion else None
