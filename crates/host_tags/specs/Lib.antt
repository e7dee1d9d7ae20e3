pub mod EachFlight
pub mod Marks
pub mod Masks
pub mod Numbers
pub mod Slots
