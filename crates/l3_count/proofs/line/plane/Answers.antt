use Rattle.std.proofs.Common.{◌-◌, ◌+◌, ap, ◌∙◌}
use Rattle.l3_count.proofs.Lines.{plane_from}
use Rattle.l3_count.proofs.line.plane.Goals as goal

pub returns : goal.returns
returns c = record {
  is = λ x is.
      plane_from c.args.k x c.args.octave c.args.rank c.steps.result (c.saturating_sub.result + c.steps.result) c.requires.value is
      c.steps.ensures.value c.steps.ensures.none c.steps.ensures.small
      (ap (λ z. z + c.steps.result) (c.saturating_sub.ensures ∙ ap (λ z. c.args.octave - z) c.less.ensures));
}
