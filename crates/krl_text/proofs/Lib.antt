pub mod BytesLemmas
pub mod Digits
pub mod PairsLemmas
pub mod LinesLemmas
pub mod WritingLemmas
