pub mod Fits
pub mod Lacking
pub mod Counts
mod Rebuilt
mod SumLemmas
mod CompressLemmas
mod CodedLemmas
