pub mod Ranks
pub mod Refusal
pub mod Rows
pub mod CertificateText
pub mod Rules
pub mod private
