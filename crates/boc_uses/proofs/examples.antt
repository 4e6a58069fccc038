-- Small bodies.
pub mod Bodies
