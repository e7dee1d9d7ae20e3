pub mod ActsBack
pub mod DigitCounts
pub mod Digits
pub mod HeadLemmas
pub mod KeptLemmas
pub mod LastLemmas
pub mod LinesBack
pub mod NameLemmas
pub mod NumberLemmas
pub mod PartLemmas
pub mod Pasts
pub mod StampLemmas
pub mod StepsBack
pub mod TextsBack
mod Walks
pub mod Words
pub mod WordsBack
