pub mod ChainLemmas
pub mod ErrorLemmas
pub mod SoundCallLemmas
-- Each name of these files, for one line of imports.
unfoldable pub use ChainLemmas.*
unfoldable pub use ErrorLemmas.*
unfoldable pub use SoundCallLemmas.*
