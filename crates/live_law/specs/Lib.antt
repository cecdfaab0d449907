pub mod Received
pub mod Periods
pub mod Events
pub mod Living
pub mod Run
pub mod Cluster
