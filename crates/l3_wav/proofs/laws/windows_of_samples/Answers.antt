use Rattle.l3_wav.proofs.WindowLemmas.{windows-of-samples, windows-of-fronts}
use Rattle.l3_wav.proofs.laws.windows_of_samples.Goals as goal

pub returns : goal.returns
returns c = record {
  kept = windows-of-samples;
  front = windows-of-fronts;
}
