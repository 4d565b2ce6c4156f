use Rattle.sql_parts.proofs.Imports.{◌≡◌, ◌∙◌, ◌+◌, ◌&&◌, ◌||◌, Bool, arith, codes, common_steps, nat_tests, eqb, leb, false, rules, sym, true}
use Rattle.sql_parts.specs.{is_whole, is_word, is_barred, lowers, raises, weight, Token, tokens}
use Rattle.sql_parts.proofs.fragments.DepthFacts.{balances-end, balances-is, balances-read}
use Rattle.sql_parts.proofs.lex.is_balanced_as.Goals as goal

pub loop-role-init : goal.loop-role-init
loop-role-init c =
    let barred : Token → Bool = is_barred c.args.bare c.args.typed c.args.operand in
    let first : Token → Bool = λ token. c.args.operand && is_word (codes "NOT") token in
    record {
      text = search rules;
      raised = search rules;
      lowered = search rules;
      same = rw c.start-depth.ensures (balances-is barred first (tokens c.args.text.now));
    }

pub loop-role-preserved : goal.loop-role-preserved
loop-role-preserved c = record {
  text = search rules;
  raised = search rules;
  lowered = search rules;
  same =
      let barred : Token → Bool = is_barred c.args.bare c.args.typed c.args.operand in
      let first : Token → Bool = λ token. c.args.operand && is_word (codes "NOT") token in
      let old = c.loop-role.depth in
      let found = c.in-Some.ensures.token in
      let depth = c.behind-depth.ensures found.0 found.1 in
      let plain : ((c.loop-role.is_empty && first found.0) || (eqb old.raised old.lowered && barred found.0)) ≡ false = grind (arith, common_steps) in
      let fits : (is_whole found.0 && leb (old.lowered + weight lowers found.0) (old.raised + weight raises found.0)) ≡ true =
      grind (arith, common_steps, nat_tests, depth) in
      let read = balances-read barred first c.loop-role.is_empty old.raised old.lowered found.0 (tokens c.loop-role.rest.now) (tokens c.in-Some.behind.now)
      found.2 in
      rw depth (sym (rw (plain, fits) at read) ∙ c.loop-role.invariant.same);
}

pub returns-then-bars_first : goal.returns-then-bars_first
returns-then-bars_first c =
    let found = c.in-Some.ensures.token in
    let read = balances-read (is_barred c.args.bare c.args.typed c.args.operand) (λ token. c.args.operand && is_word (codes "NOT") token)
    c.loop-role.is_empty c.loop-role.depth.raised c.loop-role.depth.lowered found.0 (tokens c.loop-role.rest.now) (tokens c.in-Some.behind.now) found.2 in
    grind (arith, common_steps, read)

pub returns-then-not-is_whole : goal.returns-then-not-is_whole
returns-then-not-is_whole c =
    let found = c.in-Some.ensures.token in
    let depth = c.behind-depth.ensures found.0 found.1 in
    let read = balances-read (is_barred c.args.bare c.args.typed c.args.operand) (λ token. c.args.operand && is_word (codes "NOT") token)
    c.loop-role.is_empty c.loop-role.depth.raised c.loop-role.depth.lowered found.0 (tokens c.loop-role.rest.now) (tokens c.in-Some.behind.now) found.2 in
    grind (arith, common_steps, read, depth)

pub returns-else-not-is_empty : goal.returns-else-not-is_empty
returns-else-not-is_empty c = grind (arith, balances-end)

pub returns-then-not-is_empty : goal.returns-then-not-is_empty
returns-then-not-is_empty c = grind (arith, balances-end)
