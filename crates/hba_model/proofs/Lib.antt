mod BitLemmas
mod TagLemmas
