-- What `snaplist` prints: decimals, lines, the text of a file, and what a call answers. What `snapmap` draws: fixed texts, a lent
-- output with room for them and what is added to it, what a file says of pages, and the map.
pub mod Decimals
pub mod Listing
pub mod Texts
pub mod Writer
pub mod Pages
pub mod Map
