use Rattle.std.proofs.Common.{◌∙◌, ◌-◌, ◌*◌, ◌++◌, ap, refl}
use Rattle.l3_wav.specs.Demo.{samples_after}
use Rattle.l3_wav.proofs.DemoSampleLemmas.{whole_file}
use Rattle.l3_wav.proofs.source.demo_source.Goals as goal

pub returns : goal.returns
returns c =
    ap (λ h. h ++ samples_after c.args.seed 0 (1152 * c.args.frames - 0)) c.head.ensures
    ∙ whole_file c.args.frames c.args.seed (1152 * c.args.frames) refl
