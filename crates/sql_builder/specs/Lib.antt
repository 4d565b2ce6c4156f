pub mod BesideStatements
pub mod BoundStatements
pub mod Builder
pub mod Calls
pub mod BuilderLoans
pub mod Clauses
pub mod Combined
pub mod Concat
pub mod Condition
pub mod Filters
pub mod FitCalls
pub mod RawFragments
pub mod RawTexts
pub mod TextTests
pub mod InvalidTexts
pub mod Inserts
pub mod Interference
pub mod BuilderLaws
pub mod Layout
pub mod Meaning
pub mod TokenParts
pub mod Unions
pub mod Phrases
pub mod Printed
pub mod PrintedLists
pub mod Reading
pub mod Shape
pub mod Statement
pub mod StatementLaws
pub mod StatementReaders
pub mod Steps
pub mod Subqueries
pub mod Pieces
pub mod Truths
pub mod WhereTokens
-- Each name of these files, for one line of imports.
unfoldable pub use BesideStatements.*
unfoldable pub use BoundStatements.*
unfoldable pub use Builder.*
unfoldable pub use Calls.*
unfoldable pub use Clauses.*
unfoldable pub use Combined.*
unfoldable pub use Concat.*
unfoldable pub use Condition.*
unfoldable pub use Filters.*
unfoldable pub use FitCalls.*
unfoldable pub use RawFragments.*
unfoldable pub use RawTexts.*
unfoldable pub use TextTests.*
unfoldable pub use InvalidTexts.*
unfoldable pub use Inserts.*
unfoldable pub use Interference.*
unfoldable pub use BuilderLaws.*
unfoldable pub use Layout.*
unfoldable pub use Meaning.*
unfoldable pub use TokenParts.*
unfoldable pub use Unions.*
unfoldable pub use Phrases.*
unfoldable pub use Printed.*
unfoldable pub use PrintedLists.*
unfoldable pub use Reading.*
unfoldable pub use Shape.*
unfoldable pub use Statement.*
unfoldable pub use StatementLaws.*
unfoldable pub use StatementReaders.*
unfoldable pub use Steps.*
unfoldable pub use Subqueries.*
unfoldable pub use Pieces.*
unfoldable pub use Truths.*
unfoldable pub use WhereTokens.*
pub use Rattle.sql_builder.specs.Phrases.{in_brackets}
pub use Rattle.sql_builder.specs.TokenParts.{parts_at}
-- what the contracts here cite of the library below, for callers that list this one alone
pub use Rattle.sql_parts.specs.Backslash
pub use Rattle.sql_parts.specs.StringTexts
pub use Rattle.sql_parts.specs.Error
pub use Rattle.sql_parts.specs.Fragments
pub use Rattle.sql_parts.specs.Loans
pub use Rattle.sql_parts.specs.Like
pub use Rattle.sql_parts.specs.Literal
pub use Rattle.sql_parts.specs.Name
pub use Rattle.sql_parts.specs.Operands
pub use Rattle.sql_parts.specs.Pairs
pub use Rattle.sql_parts.specs.Placeholders
pub use Rattle.sql_parts.specs.Quoting
pub use Rattle.sql_parts.specs.ReaderLaws
pub use Rattle.sql_parts.specs.Readers
pub use Rattle.sql_parts.specs.Templates
pub use Rattle.sql_parts.specs.TokenReader
pub use Rattle.sql_parts.specs.Tokens
pub use Rattle.sql_parts.specs.NameLoans
pub use Rattle.sql_parts.specs.TextLaws
pub use Rattle.sql_parts.specs.Text
pub use Rattle.sql_parts.specs.declared.error.SqlBuilderError
pub use Rattle.sql_parts.specs.declared.like.LikeEscape
