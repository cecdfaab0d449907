pub mod Event
pub mod Text
pub mod Live
pub mod Taking
pub mod Seen
pub mod Standing
