pub mod ConditionRows
pub mod FaultRows
pub mod WholeRows
