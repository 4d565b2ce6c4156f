use Rattle.std.proofs.lemmas.List.{take_rest}
use Rattle.sqlb.proofs.bytes.Utf8Facts.{fault_after, whole_text}
use Rattle.sqlb.proofs.utf8.from_utf8.Goals as goal

pub from_utf8_unchecked-requires : goal.from_utf8_unchecked-requires
from_utf8_unchecked-requires c = whole_text c.args.bytes.now c.text_prefix-at.result c.text_prefix-at.ensures.text (rw take_rest at c.in-Ok.ensures.cases.1)

pub returns-in-Err : goal.returns-in-Err
returns-in-Err c =
    let fault = rw take_rest at c.in-Err.ensures.cases.1 in
    rw c.valid_up_to.ensures (fault_after c.args.bytes.now c.text_prefix-at.result _ c.text_prefix-at.ensures.within c.text_prefix-at.ensures.text fault)
