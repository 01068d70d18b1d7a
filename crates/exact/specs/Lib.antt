pub mod Hopeless
pub mod ExactRun
pub mod ExactRefused
pub mod ExactAccepted
pub mod Exact
pub mod Verdict
