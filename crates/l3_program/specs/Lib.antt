pub mod Check
pub mod Demo
pub mod Program
pub mod Promise
pub mod Status
pub mod Words
pub use Rattle.l3_encoder.specs.Encoded
pub use Rattle.l3_stream.specs.Deviation
