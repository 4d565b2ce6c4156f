use Rattle.sql_parts.proofs.Imports.{◌≡◌, ◌∙◌, ◌&&◌, Bool, ap, arith, common_steps, eqb, false, rules, sym, and-false, if◌then◌else◌}
use Rattle.sql_parts.specs.{is_clause_word, is_dialect_word, Token, tokens}
use Rattle.sql_parts.proofs.fragments.DepthFacts.{has_top_level-is, top_level-read}
use Rattle.sql_parts.proofs.lex.has_clause.Goals as goal
use Rattle.sql_parts.proofs.lex.has_clause.Goals.{else-is_top_level-via-then-is_top_level+else-begins_clause, else-is_top_level-via-else-is_top_level}

pub loop-role-init : goal.loop-role-init
loop-role-init c = record {
  text = search rules;
  raised = search rules;
  lowered = search rules;
  same = rw c.start-depth.ensures
      (sym (has_top_level-is (λ token. if c.args.dialect then is_dialect_word token else is_clause_word token) (tokens c.args.text.now)));
}

pub loop-role-preserved : goal.loop-role-preserved
loop-role-preserved c =
    let test : Token → Bool = λ token. if c.args.dialect then is_dialect_word token else is_clause_word token in
    let old = c.loop-role.depth in
    let found = c.in-Some.ensures.token in
    let depth = c.behind-depth.ensures found.0 found.1 in
    let plain : (test found.0 && eqb old.raised old.lowered) ≡ false = elim c.else-is_top_level.branch [
      | else-is_top_level-via-then-is_top_level+else-begins_clause w ↦ ap (λ b. b && eqb old.raised old.lowered)
          (sym (w.begins_clause.ensures found.0 found.1) ∙ w.if-begins_clause.false)
      | else-is_top_level-via-else-is_top_level w ↦ ap (λ b. test found.0 && b) (sym c.is_top_level.ensures ∙ w.if-is_top_level.false) ∙ and-false (test found.0)
    ] in
    let read = top_level-read test old.raised old.lowered found.0 (tokens c.loop-role.rest.now) (tokens c.in-Some.behind.now) found.2 in
    record {
      text = search rules;
      raised = search rules;
      lowered = search rules;
      same = rw depth (sym (rw plain at read) ∙ c.loop-role.invariant.same);
    }

pub returns-then-begins_clause : goal.returns-then-begins_clause
returns-then-begins_clause c =
    let found = c.in-Some.ensures.token in
    let read = top_level-read (λ token. if c.args.dialect then is_dialect_word token else is_clause_word token) c.loop-role.depth.raised
    c.loop-role.depth.lowered found.0 (tokens c.loop-role.rest.now) (tokens c.in-Some.behind.now) found.2 in
    grind (arith, common_steps, read)
