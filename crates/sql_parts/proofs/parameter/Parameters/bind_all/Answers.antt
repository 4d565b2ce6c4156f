use Rattle.sql_parts.proofs.Imports.{◌≡◌, suc, ◌+◌, [], ◌∷◌, arith, ap, length, refl, take, append_assoc, length-append, take_more}
use Rattle.sql_parts.proofs.parameters.{next-number}
use Rattle.sql_parts.proofs.parameter.Parameters.bind_all.Goals as goal

pub loop-value-preserved : goal.loop-value-preserved
loop-value-preserved g c =
    let style = c.args.self.now.style in
    let before = c.reserve.new.self.items in
    let given = c.args.given.now in
    let index = c.loop-value.value-index in
    let value = c.value-item.result in
    let more = take_more given index value c.loop-value-test.true in
    let so-far = ap length c.loop-value.invariant.values in
    let number : c.len-number.result ≡ suc (length before + length (take index given)) =
    grind (arith, length-append, so-far, c.len-number.ensures, c.push_reserved.ensures.len, c.loop-value.self.values.ok.0) in
    record {
      style = c.loop-value.invariant.style;
      values = rw (c.push_reserved.ensures.items, c.loop-value.invariant.values, more, ← c.value-item.is) (append_assoc before (take index given) (value ∷ []));
      places = rw (c.push_reserved-in-loop-value.ensures.items, c.loop-value.invariant.places, more, ← c.value-item.is, next-number style (length before) (take index given) value, number, c.loop-value.invariant.style) refl;
      values_room = grind (arith, c.push_reserved.ensures.len, c.push_reserved.ensures.capacity, c.loop-value.invariant.values_room);
      places_len = rw (c.loop-value.invariant.places_len) at c.push_reserved-in-loop-value.ensures.len;
      places_room = grind (arith, c.push_reserved-in-loop-value.ensures.capacity, c.loop-value.invariant.places_room);
    }
