pub mod BodyLemmas
pub mod ChunkForms
pub mod ChunkLemmas
pub mod FileLemmas
pub mod HeadLemmas
pub mod OpenLemmas
pub mod PcmLemmas
pub mod RangeLemmas
pub mod SampleLemmas
pub mod TailLemmas
mod GoneLemmas
mod HoldLemmas
mod ReadLemmas
mod WindowLemmas
mod SoundLemmas
pub mod DemoFileLemmas
pub mod DemoSampleLemmas
pub mod DemoValueLemmas
