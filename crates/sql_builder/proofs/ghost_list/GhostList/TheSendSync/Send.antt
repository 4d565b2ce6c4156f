use Rattle.sql_builder.proofs.Imports.{RattleType, IsSend, owning_send, sendable, the_row, the_type}

pub send : (T : RattleType) → IsSend T → IsSend (the_row T)
send T t = owning_send (the_type T) (search sendable, tt) (λ d. tt) (λ k x w. tt)
