pub mod AllFacts
pub mod GroupLemmas
pub mod PushLemmas
-- Each name of these files, for one line of imports.
unfoldable pub use AllFacts.*
unfoldable pub use GroupLemmas.*
unfoldable pub use PushLemmas.*
