pub mod BalancedFacts
pub mod DepthFacts
pub mod PartFacts
pub mod WhereTokenFacts
-- Each name of these files, for one line of imports.
unfoldable pub use BalancedFacts.*
unfoldable pub use DepthFacts.*
unfoldable pub use PartFacts.*
unfoldable pub use WhereTokenFacts.*
