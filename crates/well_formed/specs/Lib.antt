pub mod Runs
pub mod WellFormed
pub mod InOrder
pub mod RunWords
pub mod RunLaws
pub mod InOrderLaws
pub mod PlaceLaws
