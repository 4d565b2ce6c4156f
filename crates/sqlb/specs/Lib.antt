pub mod Arguments
pub mod Fault
pub mod Lines
pub mod Names
pub mod Output
pub mod RunResults
pub mod Script
pub mod Streams
pub mod Utf8
pub mod Watched
-- Each name of these files, for one line of imports.
unfoldable pub use Arguments.*
unfoldable pub use Fault.*
unfoldable pub use Lines.*
unfoldable pub use Names.*
unfoldable pub use Output.*
unfoldable pub use RunResults.*
unfoldable pub use Script.*
unfoldable pub use Streams.*
unfoldable pub use Utf8.*
unfoldable pub use Watched.*
