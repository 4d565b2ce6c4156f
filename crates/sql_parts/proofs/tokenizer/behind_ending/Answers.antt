use Rattle.std.proofs.Common.{◌++◌, ◌∙◌, sym, ap}
use Rattle.sql_parts.specs.Tokenizer.{behind_bytes}
use Rattle.sql_parts.proofs.tokens.FirstTokenLemmas.{reach-found, reach-none}
use Rattle.sql_parts.proofs.tokenizer.behind_ending.Goals as goal

pub returns-in-Some : goal.returns-in-Some
returns-in-Some c =
    let cut = c.in-Some.ensures.cases in
    let is = cut.2.1.split ∙ (λ i. c.args.ending.now ++ sym cut.4 i) in
    sym (reach-found c.args.ending.now c.args.text.now cut.0 c.in-Some.behind.now c.requires.some cut.2.0 is)

pub returns-in-None : goal.returns-in-None
returns-in-None c = ap (behind_bytes c.args.text.now) (sym (reach-none c.args.ending.now c.args.text.now c.in-None.ensures.cases))
