pub mod SoFar
pub mod Making
pub mod Talks
mod Telling
mod NodeNotes
mod Filled
mod FilledBeliefs
mod Phasing
mod GroupedBy
mod ClaimSteps
mod ClaimsSettled
mod RowSteps
mod RowsSettled
pub mod Beginnings
pub mod Hearings
pub mod Endings
mod Openings
mod Goings
mod Voting
mod Voters
mod Alike
mod Voted
