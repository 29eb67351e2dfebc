pub mod AsmAnswers
pub mod CodeBytes
pub mod Paging
