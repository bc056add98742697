pub use Rattle.l3_commit.specs.Encoding
pub mod Silence
pub mod Silent
