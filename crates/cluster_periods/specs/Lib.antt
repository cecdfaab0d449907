pub mod Slots
pub mod Periods
pub mod Record
pub mod RecordLaws
pub mod Laws
