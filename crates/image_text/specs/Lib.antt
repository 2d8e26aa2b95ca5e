-- The definitions that the contracts of image_text speak of.
pub mod Assembled
pub mod Images
pub mod Listings
pub mod Listed
