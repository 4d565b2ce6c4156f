use Rattle.sql_parts.proofs.Imports.{shadow, Utf8, ◌≡◌, ◌++◌, Some, length, map, cut, value_of}
use Rattle.std.specs.String.{string_bytes}
use Rattle.sql_parts.specs.{first_error, marked, marks, positional_text}
use Rattle.sql_parts.proofs.positional.Positional.push_marked.Given as goal

abbrev pub invariant-loop-found : goal.invariant-loop-found
invariant-loop-found g l = record {
  utf8 : shadow (Utf8 l.rest);
  text : string_bytes l.self.text ++ marked (cut l.style l.rest) ≡ string_bytes l.initial.self.text ++ positional_text l.style l.sql;
  values : map (λ value. Some value.now) l.self.values.items ++ map (value_of l.values) (marks l.style l.rest)
      ≡ map (λ value. Some value.now) l.initial.self.values.items ++ map (value_of l.values) (marks l.style l.sql);
  same : first_error l.values (marks l.style l.rest) ≡ first_error l.values (marks l.style l.sql);
}

abbrev pub decreases-loop-found : goal.decreases-loop-found
decreases-loop-found g l = length l.rest
