pub mod Gscr
pub mod Pscr
