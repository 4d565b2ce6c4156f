-- Calls whose raw texts are fit.
use Rattle.std.specs.Prelude.{Bool, false}
use Rattle.std.specs.List.{list_all}
use Rattle.sql_builder.specs.Calls.{CallText, call_raw_texts}
use Rattle.sql_builder.specs.RawFragments.{is_fit}

-- each raw text of a call is fit, its fields too where they are in no brackets
abbrev pub call_fits : CallText → Bool
call_fits call = list_all is_fit (call_raw_texts false call)
