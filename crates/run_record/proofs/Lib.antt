pub mod Options
pub mod Cuts
pub mod FieldTexts
pub mod WordTexts
pub mod LineTexts
pub mod HeaderTexts
pub mod RecordTexts
pub mod LineLoops
