use Rattle.sql_parts.proofs.Imports.{◌∙◌, None, Some, rules, ap, sym, split_parts, strip_prefix_char}
use Rattle.sql_parts.specs.{behind_bytes}
use Rattle.sql_parts.proofs.tokens.{inside-closed, inside-none, inside-twice, taken}
use Rattle.sql_parts.proofs.tokenizer.behind_quote.Goals as goal

pub loop-behind-preserved : goal.loop-behind-preserved
loop-behind-preserved c =
    let cut = split_parts c.args.delimiter c.loop-behind.rest.now (Some (c.in-Some.field-0-0, c.in-Some.behind)) c.in-Some.ensures.cases c.requires.one_byte in
    let twice = strip_prefix_char c.args.delimiter c.in-Some.behind.now (Some c.in-Some-strip_prefix.more) c.in-Some-strip_prefix.ensures.cases
    c.requires.one_byte in (
      search rules,
      sym (inside-twice c.args.delimiter c.loop-behind.rest.now c.in-Some.field-0-0.now c.in-Some.behind.now c.in-Some-strip_prefix.more.now
          cut.0 twice cut.1) ∙ c.loop-behind.invariant.1,
    )

pub returns-in-None : goal.returns-in-None
returns-in-None c =
    let cut = split_parts c.args.delimiter c.loop-behind.rest.now (Some (c.in-Some.field-0-0, c.in-Some.behind)) c.in-Some.ensures.cases c.requires.one_byte in
    let single = strip_prefix_char c.args.delimiter c.in-Some.behind.now None c.in-None.ensures.cases c.requires.one_byte in
    sym (inside-closed c.args.delimiter c.loop-behind.rest.now c.in-Some.field-0-0.now c.in-Some.behind.now cut.0 single cut.1) ∙ c.loop-behind.invariant.1

pub returns : goal.returns
returns c =
    let none = split_parts c.args.delimiter c.loop-behind.rest.now None c.in_default.ensures.cases c.requires.one_byte in
    ap (λ found. behind_bytes c.loop-behind.rest.now (taken found)) (sym (inside-none c.args.delimiter c.loop-behind.rest.now none)) ∙ c.loop-behind.invariant.1
