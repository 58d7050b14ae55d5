pub mod BodyLaws
pub mod FieldLaws
pub mod CountLaws
pub mod Faults
