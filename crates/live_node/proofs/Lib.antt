mod Splitting
mod Told
mod Keeping
mod Deciding
mod Held
mod Taking
