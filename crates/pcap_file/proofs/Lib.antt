pub mod Packets
pub mod Captures
pub mod FramesOf
