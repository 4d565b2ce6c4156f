use Rattle.sql_builder.proofs.Imports.{◌≡◌, refl, string_bytes, true, ap, ◌∙◌}
use Rattle.sql_builder.specs.{with_condition, with_condition_bytes, Like, condition_bytes}
use Rattle.sql_builder.proofs.pieces.{step_adds_condition}
use Rattle.sql_builder.proofs.builder.SqlBuilder.step_not_like.Goals as goal

pub returns : goal.returns
returns g c =
    let condition = Like true c.args.percent (g.S.ToText.text c.args.field) (g.T.ToText.text c.args.mask) in
    let text : string_bytes c.in_ok-text.text ≡ condition_bytes condition =
    rw (c.as_str.ensures.value, c.in_ok-field.ensures.text, c.as_str-2.ensures.value, c.in_ok-mask.ensures.text) at c.in_ok-text.ensures.made in
    let added : c.push_condition.new.self ≡ with_condition c.args.family condition c.args.self.now =
    c.in_ok-push_condition.ensures ∙ ap (λ bytes. with_condition_bytes c.args.family bytes c.args.self.now) text in (
      (refl, (λ w. refl), tt),
      record { unchanged = tt; changed = (refl, step_adds_condition c.args.family condition c.args.self.now c.push_condition.new.self added); memory = tt },
    )
