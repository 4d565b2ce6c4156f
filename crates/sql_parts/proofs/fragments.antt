pub mod BetweenLemmas
pub mod DepthFacts
pub mod KeywordLemmas
pub mod ViolationLemmas
pub mod OpenRangeLemmas
pub mod OperandFacts
pub mod PlaceholderFacts
pub mod SideLemmas
pub mod StringTextFacts
-- Each name of these files, for one line of imports.
unfoldable pub use BetweenLemmas.*
unfoldable pub use DepthFacts.*
unfoldable pub use KeywordLemmas.*
unfoldable pub use ViolationLemmas.*
unfoldable pub use OpenRangeLemmas.*
unfoldable pub use OperandFacts.*
unfoldable pub use PlaceholderFacts.*
unfoldable pub use SideLemmas.*
unfoldable pub use StringTextFacts.*
pub use Rattle.sql_parts.proofs.fragments.ViolationLemmas.{serves}
