pub mod Limits
pub mod Plan
pub mod Rules
pub mod Counts
pub mod CountLaws
