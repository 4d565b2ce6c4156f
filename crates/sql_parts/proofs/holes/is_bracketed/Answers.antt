use Rattle.sql_parts.proofs.Imports.{◌∙◌, None, Some, arith, sym, strip_prefix_char, strip_suffix_char}
use Rattle.sql_parts.proofs.templates.{bracketed, unbracketed-end, unbracketed-front}
use Rattle.sql_parts.proofs.holes.is_bracketed.Goals as goal

pub returns-in_default : goal.returns-in_default
returns-in_default c = sym (unbracketed-front c.args.text.now (strip_prefix_char 40 c.args.text.now None c.in_default.ensures.cases (omega arith)))

pub returns-in-Some-strip_suffix : goal.returns-in-Some-strip_suffix
returns-in-Some-strip_suffix c =
    let front = strip_prefix_char 40 c.args.text.now (Some c.in-Some.behind) c.in-Some.ensures.cases (omega arith) in
    let end = strip_suffix_char 41 c.in-Some.behind.now (Some c.in-Some-strip_suffix.inner) c.in-Some-strip_suffix.ensures.cases (omega arith) in
    c.is_balanced.ensures ∙ sym (bracketed c.args.text.now c.in-Some.behind.now c.in-Some-strip_suffix.inner.now front end)

pub returns-in-None : goal.returns-in-None
returns-in-None c =
    let front = strip_prefix_char 40 c.args.text.now (Some c.in-Some.behind) c.in-Some.ensures.cases (omega arith) in
    sym (unbracketed-end c.args.text.now c.in-Some.behind.now front
    (strip_suffix_char 41 c.in-Some.behind.now None c.in-None.ensures.cases (omega arith)))
