pub mod MarkLemmas
pub mod PlaceholderLemmas
-- Each name of these files, for one line of imports.
unfoldable pub use MarkLemmas.*
unfoldable pub use PlaceholderLemmas.*
