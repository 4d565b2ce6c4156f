pub mod BoundCallLemmas
pub mod BesideStatementLemmas
pub mod BoundStatementLemmas
pub mod LaterCallLemmas
pub mod NextCallLemmas
pub mod RunLemmas
pub mod StatementLawLemmas
-- Each name of these files, for one line of imports.
unfoldable pub use BoundCallLemmas.*
unfoldable pub use BesideStatementLemmas.*
unfoldable pub use BoundStatementLemmas.*
unfoldable pub use LaterCallLemmas.*
unfoldable pub use NextCallLemmas.*
unfoldable pub use RunLemmas.*
unfoldable pub use StatementLawLemmas.*
