pub mod AutomatonFacts
pub mod AutomatonLemmas
pub mod BackslashFacts
pub mod FirstTokenLemmas
pub mod JoinFacts
pub mod LiteralFacts
pub mod NameFacts
pub mod ReaderLemmas
pub mod SeamLemmas
pub mod TokenFacts
pub mod TokenReaderLemmas
-- Each name of these files, for one line of imports.
unfoldable pub use AutomatonFacts.*
unfoldable pub use AutomatonLemmas.*
unfoldable pub use BackslashFacts.*
unfoldable pub use FirstTokenLemmas.*
unfoldable pub use JoinFacts.*
unfoldable pub use LiteralFacts.*
unfoldable pub use NameFacts.*
unfoldable pub use ReaderLemmas.*
unfoldable pub use SeamLemmas.*
unfoldable pub use TokenFacts.*
unfoldable pub use TokenReaderLemmas.*
