pub mod AtomLemmas
pub mod CombinedLemmas
pub mod ConditionGroupLemmas
pub mod ConnectiveLemmas
pub mod FormLemmas
pub mod TruthLemmas
pub mod WhereLemmas
-- Each name of these files, for one line of imports.
unfoldable pub use AtomLemmas.*
unfoldable pub use CombinedLemmas.*
unfoldable pub use ConditionGroupLemmas.*
unfoldable pub use ConnectiveLemmas.*
unfoldable pub use FormLemmas.*
unfoldable pub use TruthLemmas.*
unfoldable pub use WhereLemmas.*
