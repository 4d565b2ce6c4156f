pub mod ClauseFacts
pub mod FitLemmas
pub mod FitListLemmas
pub mod InsertFitLemmas
pub mod NeutralLemmas
pub mod PassLemmas
pub mod PreservationLemmas
pub mod PropertyLemmas
pub mod TextTestLemmas
pub mod InvalidTextLemmas
-- Each name of these files, for one line of imports.
unfoldable pub use ClauseFacts.*
unfoldable pub use FitLemmas.*
unfoldable pub use FitListLemmas.*
unfoldable pub use InsertFitLemmas.*
unfoldable pub use NeutralLemmas.*
unfoldable pub use PassLemmas.*
unfoldable pub use PreservationLemmas.*
unfoldable pub use PropertyLemmas.*
unfoldable pub use TextTestLemmas.*
unfoldable pub use InvalidTextLemmas.*
pub use Rattle.sql_builder.proofs.fragments.FitLemmas.{balanced_fragments}
