use Rattle.sql_parts.proofs.Imports.{◌∙◌, ◌&&◌, ap, not, sym, true, beq, list_any}
use Rattle.sql_parts.proofs.fragments.{none-waits}
use Rattle.sql_parts.proofs.dangling.OpenRanges.is_empty.Goals as goal

pub returns-then-not-self : goal.returns-then-not-self
returns-then-not-self c =
    let held = c.args.self.now in
    ap not c.contains.ensures.value
    ∙ ap (λ outside. not (list_any (λ waits. beq waits true) outside)) c.deref.ensures.value
    ∙ ap (λ waits. not waits && not (list_any (λ other. beq other true) held.outside.items)) (sym c.if-not-self.true)
    ∙ none-waits held.waits held.outside.items
