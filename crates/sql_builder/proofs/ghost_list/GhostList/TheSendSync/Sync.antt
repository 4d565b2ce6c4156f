use Rattle.sql_builder.proofs.Imports.{RattleType, IsSync, part_keyless, owning_send, sendable, the_row, the_type}

pub sync : (T : RattleType) → IsSync T → IsSync (the_row T)
sync T t = record { shared = λ d b o κ q. part_keyless (the_row T) (owning_send (the_type T) (search sendable, tt) (λ d. tt) (λ k x w. tt)) q d b o }
