pub mod ConditionLemmas
pub mod QuotedMaskFacts
-- Each name of these files, for one line of imports.
unfoldable pub use ConditionLemmas.*
unfoldable pub use QuotedMaskFacts.*
