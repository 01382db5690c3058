pub mod Below
pub mod FieldLaws
pub mod ByteLaws
pub mod StateLaws
pub mod NumLaws
pub mod WordSums
pub mod Facts
