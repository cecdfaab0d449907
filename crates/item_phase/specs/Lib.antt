pub mod Settled
pub mod Noted
pub mod Listening
pub mod Laws
