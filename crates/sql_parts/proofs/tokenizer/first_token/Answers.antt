use Rattle.std.proofs.Common.{◌≡◌, ◌∷◌, ◌∙◌, drop, sym, arith, rules}
use Rattle.sql_parts.proofs.tokens.FirstTokenLemmas.{found-none, found-token, read-finds}
use Rattle.sql_parts.proofs.tokenizer.first_token.Goals as goal

pub returns-in-Some-token-clause-token : goal.returns-in-Some-token-clause-token
returns-in-Some-token-clause-token c =
    let front : c.loop-first.rest.now ≡ c.in-Some.first.now ∷ drop 1 c.loop-first.rest.now = search rules in
    let finds = read-finds c.in-Some.first.now c.loop-first.rest.now c.read.result front c.read.ensures in
    let found = found-token c.loop-first.rest.now c.read.result c.in-Some-token.token finds.0 c.in-Some-token.is in
    (found.0, found.1, sym c.loop-first.invariant.2 ∙ found.2)

pub returns-in-Some-token-clause-shorter : goal.returns-in-Some-token-clause-shorter
returns-in-Some-token-clause-shorter c =
    let front : c.loop-first.rest.now ≡ c.in-Some.first.now ∷ drop 1 c.loop-first.rest.now = search rules in
    let finds = read-finds c.in-Some.first.now c.loop-first.rest.now c.read.result front c.read.ensures in
    omega (arith, finds.1, c.loop-first.invariant.1)

pub loop-first-smaller : goal.loop-first-smaller
loop-first-smaller c =
    let front : c.loop-first.rest.now ≡ c.in-Some.first.now ∷ drop 1 c.loop-first.rest.now = search rules in
    (read-finds c.in-Some.first.now c.loop-first.rest.now c.read.result front c.read.ensures).1

pub loop-first-preserved : goal.loop-first-preserved
loop-first-preserved c =
    let front : c.loop-first.rest.now ≡ c.in-Some.first.now ∷ drop 1 c.loop-first.rest.now = search rules in
    let finds = read-finds c.in-Some.first.now c.loop-first.rest.now c.read.result front c.read.ensures in (
      search rules,
      omega (arith, finds.1, c.loop-first.invariant.1),
      found-none c.loop-first.rest.now c.read.result finds.0 c.in_default-token.is
          ∙ c.loop-first.invariant.2,
    )
