-- The demo's file is never refused, and what is told of its stream.
use Rattle.std.proofs.Common.{◌≡◌, ◌∙◌, ℕ, ◌≤◌, List, [], refl}
use Rattle.std.specs.Prelude.{IsSomeAnd, Option, Some, None, Result, Ok, Err}
use Rattle.sha2.specs.Sha256.{sha256}
use Rattle.l3_base.specs.declared.rate.Rate.{Rate}
use Rattle.l3_commit.specs.declared.report.Report.{Report}
use Rattle.l3_wav.specs.Demo.{demo_file}
use Rattle.l3_wav.proofs.DemoFileLemmas.{is_wav}
use Rattle.l3_encoder.specs.Encoded.{encoding_in, IsReport}
use Rattle.l3_io.specs.Taken.{Takes, length_of}
use Rattle.l3_wav.specs.declared.head.WavHead.{WavHead}
use Rattle.l3_wav.specs.declared.fault.WavFault.{WavFault}
use Rattle.l3_wav.specs.Wav.{wav_of}
use Rattle.l3_program.specs.declared.demo.Summary.{Summary}
use Rattle.l3_program.specs.Demo.{IsSummary}

both : (read : Result WavHead WavFault) (head : WavHead) (why : WavFault) → read ≡ Ok head → read ≡ Err why → ⊥
both read head why accepted refused = cc

pub never_refused : (frames seed : ℕ) (why : WavFault) → frames ≤ 100000 → wav_of (demo_file frames seed) ≡ Err why → ⊥
never_refused frames seed why most refused = both (wav_of (demo_file frames seed)) _ why (is_wav frames seed most).accepted refused

module _ (rate : Rate) (bytes : List ℕ) (report : Report) (summary : Summary) (old new : List ℕ → Type 0) (empty : old []) (frames : summary.frames ≡ report.frames)
    (size : (list : List ℕ) → new list → summary.bytes ≡ length_of list) (digest : (list : List ℕ) → new list → summary.digest ≡ sha256 list) where
  by_stream : (encoding : Option (List ℕ)) → encoding_in rate bytes ≡ encoding → IsSomeAnd encoding (λ stream. Takes old new stream) → IsReport rate bytes report → IsSummary rate bytes summary
  by_stream None is takes numbers = absurd takes
  by_stream (Some stream) is takes numbers = record {
    stream = stream;
    encoding = is;
    frames = frames ∙ numbers.frames;
    size = size stream (takes [] empty);
    digest = digest stream (takes [] empty);
  }

  -- what a digest took since it was empty is the stream
  pub summary_is : IsSomeAnd (encoding_in rate bytes) (λ stream. Takes old new stream) × IsReport rate bytes report → IsSummary rate bytes summary
  summary_is explains = by_stream (encoding_in rate bytes) refl explains.0 explains.1
