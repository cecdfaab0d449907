mod SameStates
mod Free
mod Views
