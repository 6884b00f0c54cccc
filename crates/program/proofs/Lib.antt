-- What holds of all programs.
pub mod Laws
pub mod Lists
pub mod Lifted
pub mod Like
pub mod Keeps
