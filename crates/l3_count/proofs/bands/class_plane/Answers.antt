use Rattle.std.proofs.Common.{◌-◌, ◌+◌, ap, ◌∙◌}
use Rattle.l3_count.proofs.Classes.{class_plane_from}
use Rattle.l3_count.proofs.bands.class_plane.Goals as goal

pub returns : goal.returns
returns c x is =
    class_plane_from c.args.class x c.args.octave c.args.mantissa c.cuts.result (c.saturating_sub.result + c.cuts.result) c.requires.class is
    c.cuts.ensures.value c.cuts.ensures.small
    (ap (λ z. z + c.cuts.result) (c.saturating_sub.ensures ∙ ap (λ z. c.args.octave - z) c.class_less.ensures))
