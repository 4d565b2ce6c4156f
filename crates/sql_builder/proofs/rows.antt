pub mod BoundStatementRows
pub mod ConditionRows
pub mod InsertRows
pub mod InterferenceRows
pub mod MeaningRows
pub mod PrintedRows
pub mod RawTextRows
pub mod ReaderRows
pub mod StatementLawRows
-- Each name of these files, for one line of imports.
unfoldable pub use BoundStatementRows.*
unfoldable pub use ConditionRows.*
unfoldable pub use InsertRows.*
unfoldable pub use InterferenceRows.*
unfoldable pub use MeaningRows.*
unfoldable pub use PrintedRows.*
unfoldable pub use RawTextRows.*
unfoldable pub use ReaderRows.*
unfoldable pub use StatementLawRows.*
