pub mod Comes
pub mod Found
pub mod Next
pub mod NextStep
