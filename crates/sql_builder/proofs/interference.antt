pub mod BlankClauseLemmas
pub mod OutlineLemmas
pub mod QuotedTextLemmas
pub mod StatementReaderLemmas
-- Each name of these files, for one line of imports.
unfoldable pub use BlankClauseLemmas.*
unfoldable pub use OutlineLemmas.*
unfoldable pub use QuotedTextLemmas.*
unfoldable pub use StatementReaderLemmas.*
