use contract.BorrowLft.{⊑_meet, ⊑_static}
use Rattle.sql_builder.proofs.ghost_list.GhostList.append.Goals as goal

-- what is passed lives long enough
pub of-requires : goal.of-requires
of-requires g c κs within = (within.1.0, search (⊑_meet, ⊑_static, within.0.0, within.0.1, within.1.1) depth 12)
