pub mod bytes
pub mod outcomes
pub mod Imports
