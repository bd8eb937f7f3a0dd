pub mod Lines
pub mod Row
pub mod Reading
pub mod Capture
pub mod Numbers
pub mod Steps
pub mod private
