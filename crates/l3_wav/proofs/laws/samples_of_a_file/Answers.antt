use Rattle.l3_wav.proofs.FileLemmas.{file_channels}
use Rattle.l3_wav.proofs.laws.samples_of_a_file.Goals as goal

pub returns : goal.returns
returns c = file_channels
