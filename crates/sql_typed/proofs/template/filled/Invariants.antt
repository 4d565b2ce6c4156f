use Rattle.sql_typed.proofs.Imports.{◌≡◌, ◌++◌, drop, string_bytes, filled, texts}
use denote.Shadow.{shadow}
use denote.Text.{Utf8}
use Rattle.sql_typed.proofs.template.filled.Given as goal

abbrev pub invariant-loop-operand : goal.invariant-loop-operand
invariant-loop-operand l = record {
  utf8 : shadow (Utf8 l.rest);
  is_filled : string_bytes l.text ++ filled (texts (drop l.operand-index l.operands)) l.rest ≡ filled (texts l.operands) l.template;
}
