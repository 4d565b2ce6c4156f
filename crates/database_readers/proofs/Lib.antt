pub mod AsMeantLemmas
pub mod ReaderRows
