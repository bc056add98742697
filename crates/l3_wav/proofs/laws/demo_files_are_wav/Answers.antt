use Rattle.l3_wav.proofs.DemoFileLemmas.{is_wav}
use Rattle.l3_wav.proofs.laws.demo_files_are_wav.Goals as goal

pub returns : goal.returns
returns c = is_wav
