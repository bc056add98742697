use Rattle.l3_encoder.proofs.FileStreams.{files-encoded}
use Rattle.l3_encoder.proofs.file_laws.files_are_encoded.Goals as goal

pub returns : goal.returns
returns c = files-encoded
