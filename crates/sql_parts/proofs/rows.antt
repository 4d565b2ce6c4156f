pub mod BackslashRows
pub mod BoundTextRows
pub mod FragmentRows
pub mod HoleRows
pub mod LikeRows
pub mod LiteralRows
pub mod ViolationRows
pub mod NameRows
pub mod OperandRows
pub mod ParameterRows
pub mod PositionalRows
pub mod ReaderRows
pub mod TemplateRows
pub mod TextRows
pub mod TokenRows
-- Each name of these files, for one line of imports.
unfoldable pub use BackslashRows.*
unfoldable pub use BoundTextRows.*
unfoldable pub use FragmentRows.*
unfoldable pub use HoleRows.*
unfoldable pub use LikeRows.*
unfoldable pub use LiteralRows.*
unfoldable pub use ViolationRows.*
unfoldable pub use NameRows.*
unfoldable pub use OperandRows.*
unfoldable pub use ParameterRows.*
unfoldable pub use PositionalRows.*
unfoldable pub use ReaderRows.*
unfoldable pub use TemplateRows.*
unfoldable pub use TextRows.*
unfoldable pub use TokenRows.*
