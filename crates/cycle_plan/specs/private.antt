-- What no public clause rests on: who reads contracts alone need not read it.
pub mod Agreed
pub mod BoundParts
pub mod Greatest
pub mod Inputs
pub mod Latest
pub mod Mosts
pub mod Numbers
pub mod Peeling
pub mod GoingBack
pub mod Tops
