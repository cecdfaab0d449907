mod ByChannel
mod Owns
mod Senders
mod Spelling
mod Voting
mod Judging
