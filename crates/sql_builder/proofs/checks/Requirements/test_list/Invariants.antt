use Rattle.sql_builder.proofs.Imports.{◌≡◌, ◌+◌, ◌≤◌, length, map, texts}
use Rattle.sql_builder.specs.{field_text, texts_test}
use Rattle.sql_builder.proofs.checks.Requirements.test_list.Given as goal

abbrev pub invariant-loop-rest : goal.invariant-loop-rest
invariant-loop-rest l = record {
  within : l.index + length l.rest ≤ l.fn.first + length l.fn.items;
  same : texts_test l.self.bare l.self.place l.index (map (field_text l.encloses) (texts l.rest))
      ≡ texts_test l.self.bare l.self.place l.fn.first (map (field_text l.encloses) (texts l.fn.items));
}

abbrev pub decreases-loop-rest : goal.decreases-loop-rest
decreases-loop-rest l = length l.rest
