pub mod ChainCallLemmas
pub mod LoanLemmas
pub mod NameCallLemmas
pub mod Prelude
pub mod VariantLemmas
-- Each name of these files, for one line of imports.
unfoldable pub use Prelude.*
unfoldable pub use VariantLemmas.*
