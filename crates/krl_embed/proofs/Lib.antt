pub mod Held
pub mod RecordsKept
pub mod Framing
pub mod RowsLemmas
pub mod PartsLemmas
pub mod Commanding
pub mod Acting
pub mod KeptLemmas
pub mod Crosses
pub mod Shared
pub mod Loans
pub mod PageLemmas
pub mod FilledLemmas
mod CallLemmas
mod ClientCallLemmas
