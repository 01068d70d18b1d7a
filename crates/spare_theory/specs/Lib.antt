pub mod Promise
pub mod Chain
pub mod Spares
pub mod CountLaws
pub mod TableLaws
pub mod ChainLaws
pub mod SpareLaws
pub mod WorseLaws
