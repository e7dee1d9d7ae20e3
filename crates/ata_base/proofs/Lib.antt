pub mod EachLemmas
pub mod MaskLemmas
pub mod RegsLemmas
pub mod Truth
