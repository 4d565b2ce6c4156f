pub mod ConstantFacts
pub mod MethodLemmas
