pub mod WindowSums
pub mod Overfull
pub mod Rising
pub mod RisingLaws
pub mod OverfullLaws
