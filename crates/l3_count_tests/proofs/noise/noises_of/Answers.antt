use Rattle.std.proofs.Common.{sym, ◌∙◌}
use Rattle.l3_base.specs.declared.rate.SampleRate.TheVariants.{Hz44100}
use Rattle.l3_base.specs.Bands.{band_edges}
use Rattle.l3_count_tests.proofs.Counts.{count_of-own}
use Rattle.l3_count_tests.proofs.noise.noises_of.Goals as goal

pub noise-requires : goal.noise-requires
noise-requires g c =
    count_of-own (band_edges Hz44100) c.zero-amp.result (c.args.spec).now c.args.gain c.in-Some.count
    (sym c.count_at.ensures.value ∙ c.in-Some.is)
