pub mod Acceptance
pub mod Analysis
pub mod Work
pub mod Borders
pub mod WorkLaws
pub mod AlongLaws
pub mod BorderLaws
pub mod AnalysisLaws
