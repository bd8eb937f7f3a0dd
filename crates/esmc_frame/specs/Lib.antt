pub mod Parts
pub mod Frame
pub mod Reading
pub mod Numbers
pub mod private
