pub mod NewElements
pub mod Before
pub mod Words
pub mod Tellings
pub mod InputPlaces
pub mod private
