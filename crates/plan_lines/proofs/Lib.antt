pub mod PlainNodes
pub mod PlainLines
pub mod PlainSteps
pub mod PlainItems
pub mod PlainDone
