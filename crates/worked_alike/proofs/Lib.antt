mod Paths
mod Rounds
mod Standing
mod Told
