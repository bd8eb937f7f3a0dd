pub mod Tournaments
pub mod KeptTimes
pub mod FirstDues
pub mod MarkedPlaces
pub mod SortedPlaces
pub mod InOrder
