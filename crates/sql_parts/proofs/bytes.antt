pub mod ByteFacts
pub mod DecimalFacts
pub mod DigitLemmas
pub mod DoublingLemmas
pub mod EscapingLemmas
pub mod LaneLemmas
pub mod LikeMaskFacts
pub mod SplitLemmas
-- Each name of these files, for one line of imports.
unfoldable pub use ByteFacts.*
unfoldable pub use DecimalFacts.*
unfoldable pub use DigitLemmas.*
unfoldable pub use DoublingLemmas.*
unfoldable pub use EscapingLemmas.*
unfoldable pub use LaneLemmas.*
unfoldable pub use LikeMaskFacts.*
unfoldable pub use SplitLemmas.*
