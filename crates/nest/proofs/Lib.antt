-- Laws that the proofs here and in the crates above cite.
pub mod Numbers
pub mod Owners
pub mod Judging
pub mod Values
pub mod Nesting
pub mod Stacks
pub mod Events
pub mod Kept
pub mod Standing
pub mod Noting
pub mod Bodies
pub mod Moving
pub mod Ending
pub mod Runs
pub mod Closing
pub mod Filling
