pub mod Replay
pub mod NodeText
pub mod FromNetwork
pub mod Brought
pub mod SentFrames
pub mod private
