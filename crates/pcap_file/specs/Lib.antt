pub mod Pcap
pub mod Refusal
pub mod Written
pub mod Timed
pub mod CaptureOf
pub mod private
