pub mod Spares
pub mod Work
pub mod InLayout
pub mod InLayoutLaws
pub mod Debt
pub mod RowLaws
pub mod DebtLaws
pub mod WorkLaws
