use Rattle.std.proofs.Common.{rules}
use Rattle.l3_wav.specs.Wav.{format_of}
use Rattle.l3_wav.proofs.fields.read_format.Goals as goal

pub returns-then-not-is_pcm-clause-value : goal.returns-then-not-is_pcm-clause-value
unfolding format_of
returns-then-not-is_pcm-clause-value c = search rules

pub returns-in_default-clause-value : goal.returns-in_default-clause-value
unfolding format_of
returns-in_default-clause-value c = search rules

pub returns-in_default-rate_named-clause-value : goal.returns-in_default-rate_named-clause-value
unfolding format_of
returns-in_default-rate_named-clause-value c = search rules

pub returns-then-u16_at-ne-DEPTH-clause-value : goal.returns-then-u16_at-ne-DEPTH-clause-value
unfolding format_of
returns-then-u16_at-ne-DEPTH-clause-value c = search rules

pub returns-then-u16_at-from-clause-value : goal.returns-then-u16_at-from-clause-value
unfolding format_of
returns-then-u16_at-from-clause-value c = search rules

pub returns-clause-value : goal.returns-clause-value
unfolding format_of
returns-clause-value c = search rules
