pub mod SilentSpectrum
pub mod SilentUnits
pub mod SilentFrames
pub mod SilentStream
