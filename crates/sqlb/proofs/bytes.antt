pub mod ArgumentFacts
pub mod ByteMaskFacts
pub mod DecimalFacts
pub mod LineFacts
pub mod ScanFacts
pub mod StreamFacts
pub mod Utf8Facts
-- Each name of these files, for one line of imports.
unfoldable pub use ArgumentFacts.*
unfoldable pub use ByteMaskFacts.*
unfoldable pub use DecimalFacts.*
unfoldable pub use LineFacts.*
unfoldable pub use ScanFacts.*
unfoldable pub use StreamFacts.*
unfoldable pub use Utf8Facts.*
