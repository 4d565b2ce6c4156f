use Rattle.sql_parts.proofs.Imports.{arith, inl, inr, cases_lt}
use Rattle.sql_parts.specs.{has_front}
use Rattle.sql_parts.proofs.bytes.{first-set, none-set}
use Rattle.sql_parts.proofs.search.next_place.Goals as goal

pub returns-then-found-ne0 : goal.returns-then-found-ne0
returns-then-found-ne0 c =
    let found = first-set c.fronts-found.result c.loop-at.at (λ k. has_front c.args.front c.args.bytes.now k) c.fronts-found.ensures.places
    c.fronts-found.ensures.within (omega arith) c.fronts-found.type_inv in (
      omega arith,
      omega (arith, found.0),
      λ k from to. elim (cases_lt k c.loop-at.at) [ inl early ↦ c.loop-at.invariant.before k from early | inr late ↦ found.2 k late to ],
      found.1,
    )

pub loop-at-preserved : goal.loop-at-preserved
loop-at-preserved c =
    let none = none-set c.fronts-found.result c.loop-at.at (λ k. has_front c.args.front c.args.bytes.now k) c.fronts-found.ensures.places
    c.if-found-ne0.false in
    record {
      start = omega arith;
      within = omega arith;
      before = λ k from to. elim (cases_lt k c.loop-at.at) [ inl early ↦ c.loop-at.invariant.before k from early | inr late ↦ none k late to ];
    }
