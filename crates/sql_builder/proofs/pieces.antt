pub mod ClauseShapeLemmas
pub mod LayoutMapLemmas
pub mod LayoutPropertyLemmas
pub mod LayoutShapeLemmas
pub mod PartLemmas
pub mod ShapeLemmas
-- Each name of these files, for one line of imports.
unfoldable pub use ClauseShapeLemmas.*
unfoldable pub use LayoutMapLemmas.*
unfoldable pub use LayoutPropertyLemmas.*
unfoldable pub use LayoutShapeLemmas.*
unfoldable pub use PartLemmas.*
unfoldable pub use ShapeLemmas.*
