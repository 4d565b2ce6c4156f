pub mod bytes
pub mod chains
pub mod fragments
pub mod parameters
pub mod rows
pub mod templates
pub mod tokens
pub mod Imports
