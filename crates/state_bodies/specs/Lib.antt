pub mod Bodies
pub mod BodiesLaws
pub mod BodiesTyped
pub mod FileBuffer
pub mod FileBufferLaws
