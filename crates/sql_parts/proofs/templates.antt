pub mod ApartFacts
pub mod BoundReaderLemmas
pub mod BoundSeamLemmas
pub mod BoundTextFacts
pub mod CallerFacts
pub mod HoleFacts
pub mod PairLemmas
pub mod PlaceholderLemmas
pub mod ResolveLemmas
pub mod UnchangedTextFacts
-- Each name of these files, for one line of imports.
unfoldable pub use ApartFacts.*
unfoldable pub use BoundReaderLemmas.*
unfoldable pub use BoundSeamLemmas.*
unfoldable pub use BoundTextFacts.*
unfoldable pub use CallerFacts.*
unfoldable pub use HoleFacts.*
unfoldable pub use PairLemmas.*
unfoldable pub use PlaceholderLemmas.*
unfoldable pub use ResolveLemmas.*
unfoldable pub use UnchangedTextFacts.*
