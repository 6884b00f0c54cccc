-- What is proved of listings and maps.
pub mod Digits
pub mod ReadBack
pub mod Spaced
pub mod Text
pub mod Judged
pub mod Printed
pub mod Front
pub mod Once
pub mod Examples
pub mod Fixed
pub mod Covered
pub mod Counted
pub mod Tiled
pub mod Drawn
