use Rattle.sql_parts.proofs.Imports.{◌∷◌, ◌∙◌, ◌&&◌, ap, false, not, reverse, subst, sym, true}
use Rattle.sql_parts.specs.{HasRole, open_ranges}
use Rattle.sql_parts.proofs.fragments.{all-and, all-joined, all-up, all_from, popped, pushed, unmoved}
use Rattle.sql_parts.proofs.dangling.OpenRanges.read.Goals as goal

pub returns-in_ok-push-in-Raises-clause-reads : goal.returns-in_ok-push-in-Raises-clause-reads
returns-in_ok-push-in-Raises-clause-reads c = λ defined is ts.
    let old = c.args.self.now in
    let has = subst (λ role. HasRole role defined) c.in-Raises.is is in
    ap (λ outside. all_from (false ∷ outside) ts) (pushed old.waits old.outside.items c.push.new.self.items c.in_ok-push-in-Raises.ensures.items)
    ∙ sym (all-up (open_ranges old) defined ts has.raising)

pub returns-in-Lowers-clause-reads : goal.returns-in-Lowers-clause-reads
returns-in-Lowers-clause-reads c = λ defined is ts.
    let old = c.args.self.now in
    let left = c.pop.new.self in
    let has = subst (λ role. HasRole role defined) c.in-Lowers.is is in
    ap (λ waits. not old.waits && all_from (waits ∷ reverse left.items) ts) c.unwrap_or-self.ensures
    ∙ popped old.waits c.pop.result old.outside.items left.items old.outside.len left.len defined ts has.raising has.lowering c.pop.ensures.items
    old.outside.ok.0 c.pop.ensures.cases

pub returns-in-And-clause-reads : goal.returns-in-And-clause-reads
returns-in-And-clause-reads c = λ defined is ts.
    let old = c.args.self.now in
    let has = subst (λ role. HasRole role defined) c.in-And.is is in
    sym (all-and old.waits (reverse old.outside.items) defined ts has.and)

pub returns-in-Or-clause-reads : goal.returns-in-Or-clause-reads
returns-in-Or-clause-reads c = λ defined is ts.
    let old = c.args.self.now in
    let has = subst (λ role. HasRole role defined) c.in-Or.is is in
    sym (all-joined old.waits (reverse old.outside.items) defined ts false has.raising has.lowering has.and has.joining has.between)

pub returns-in-Between-clause-reads : goal.returns-in-Between-clause-reads
returns-in-Between-clause-reads c = λ defined is ts.
    let old = c.args.self.now in
    let has = subst (λ role. HasRole role defined) c.in-Between.is is in
    sym (all-joined old.waits (reverse old.outside.items) defined ts true has.raising has.lowering has.and has.joining has.between)

pub returns-in_default-clause-reads : goal.returns-in_default-clause-reads
returns-in_default-clause-reads c = λ defined is ts.
    let old = c.args.self.now in
    let any = c.in_default in
    sym (unmoved old.waits (reverse old.outside.items) c.args.role defined ts is any.not-Raises any.not-Lowers any.not-And any.not-Or any.not-Between)
