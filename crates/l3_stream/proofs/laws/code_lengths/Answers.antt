use Rattle.l3_stream.proofs.WholeFrame.{code_bits-length, code_bits-main_data}
use Rattle.l3_stream.proofs.laws.code_lengths.Goals as goal

pub returns : goal.returns
returns c st f coded = record { units = code_bits-length st f coded; all = code_bits-main_data st f coded }
