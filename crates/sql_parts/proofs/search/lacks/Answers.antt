use Rattle.sql_parts.proofs.Imports.{◌≡◌, ◌∙◌, arith, eqb, eqb-true, false, get_or, sym, w8, eq-eqb, false≢true, chunk}
use Rattle.std.proofs.lemmas.Simd.{bitmask_splat, length-chunk, none_from_empty_mask}
use Rattle.sql_parts.proofs.search.lacks.Goals as goal

pub returns : goal.returns
returns c none k from to is =
    let bytes = c.args.bytes.now in
    let empty = sym (bitmask_splat w8 eqb (chunk c.args.at 64 bytes) 64 c.args.byte (length-chunk c.args.at 64 bytes (omega (arith, c.requires)))
    (omega arith)) ∙ eqb-true _ _ none in
    let differs : eqb (get_or bytes k 0) c.args.byte
    ≡ false = none_from_empty_mask (λ byte. eqb byte c.args.byte) bytes c.args.at 64 0 (omega (arith, c.requires)) empty k from (omega (arith, to)) in
    false≢true (sym differs ∙ eq-eqb _ _ is)
