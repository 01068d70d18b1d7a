pub mod Loop
pub mod LoopLaws
