pub mod ClauseWordLemmas
pub mod InsertLemmas
pub mod LayoutLemmas
pub mod NestingLemmas
pub mod ReadBackLemmas
pub mod SectionLemmas
pub mod SubqueryLemmas
-- Each name of these files, for one line of imports.
unfoldable pub use ClauseWordLemmas.*
unfoldable pub use InsertLemmas.*
unfoldable pub use LayoutLemmas.*
unfoldable pub use NestingLemmas.*
unfoldable pub use ReadBackLemmas.*
unfoldable pub use SectionLemmas.*
unfoldable pub use SubqueryLemmas.*
