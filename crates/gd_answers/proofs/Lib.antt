pub mod Answer
pub mod TextAnswers
