pub mod OneRecord
pub mod Left
pub mod Count
pub mod FieldFacts
pub mod FirstRefusals
pub mod WrittenRecords
