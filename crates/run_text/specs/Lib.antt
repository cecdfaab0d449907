pub mod Text
pub mod NodeText
pub mod PeriodText
pub mod ClockText
pub mod TraceText
pub mod StormText
