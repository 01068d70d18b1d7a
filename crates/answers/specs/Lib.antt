pub mod Answer
pub mod AnswerLaws
pub mod RefusalLaws
pub mod SliceLaws
