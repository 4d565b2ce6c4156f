pub mod CommandFacts
pub mod OutputRows
pub mod PrefixFacts
pub mod PrintFacts
pub mod ProgressFacts
pub mod ResultFacts
pub mod ScriptFacts
-- Each name of these files, for one line of imports.
unfoldable pub use CommandFacts.*
unfoldable pub use OutputRows.*
unfoldable pub use PrefixFacts.*
unfoldable pub use PrintFacts.*
unfoldable pub use ProgressFacts.*
unfoldable pub use ResultFacts.*
unfoldable pub use ScriptFacts.*
