use Rattle.std.proofs.Common.{◌≡◌, ◌++◌, List, ℕ, codes, string_bytes, IfOk, refl, subst}
use Rattle.std.specs.contracts.alloc.Global as memory
use Rattle.std.specs.contracts.impls.GlobalAllocator.TheImpl as impl
use Rattle.std.specs.contracts.string.String as text
use Rattle.sql_parts.specs.Literal.{words}
use Rattle.sql_parts.specs.Quoting.{quoted}
use Rattle.sql_parts.proofs.templates.CallerFacts.{binds_in_turn, reads_borrowed, reads_none, reads_pushed}
use Rattle.callers.proofs.values.sold_in.Goals as goal

abbrev condition : List ℕ → List ℕ → List ℕ
condition title shop = codes "title = " ++ (quoted title ++ (codes " AND shop = " ++ quoted shop))

pub returns-clause-text : goal.returns-clause-text
returns-clause-text c =
    subst (λ title. IfOk c.binds.result (λ s. string_bytes s ≡ condition title c.args.shop.now)) c.in_ok-from_str.ensures.ok
    (subst (λ shop. IfOk c.binds.result (λ s. string_bytes s ≡ condition (string_bytes c.in_ok-from_str.field-0) shop)) c.in_ok-from_str-2.ensures.ok
    (binds_in_turn c.binds.result (codes "title = ? AND shop = ?") c.binds.ensures.text
    (reads_borrowed c.as_slice.ensures.value
    (reads_pushed c.into_dyn_box-in_ok-new-2.result (text.the_row memory.the_row impl.ghosts).coded (λ s. words (string_bytes s)) c.in_ok-push-2.ensures.items
    c.into_dyn_box-in_ok-new-2.ensures.1 c.in_ok-new-2.ensures.ok refl
    (reads_pushed c.into_dyn_box.result (text.the_row memory.the_row impl.ghosts).coded (λ s. words (string_bytes s)) c.in_ok-push.ensures.items
    c.into_dyn_box.ensures.1 c.in_ok-new.ensures.ok refl
    (reads_none c.new-args.ensures.items))))))
