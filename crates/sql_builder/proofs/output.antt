pub mod LoopFacts
pub mod PrintingLemmas
-- Each name of these files, for one line of imports.
unfoldable pub use LoopFacts.*
unfoldable pub use PrintingLemmas.*
