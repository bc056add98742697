use Rattle.std.proofs.Common.{◌∙◌, ap, sym, subst}
use Rattle.l3_base.specs.Amp.{IsAmp}
use Rattle.l3_count.specs.Memo.{empty_lane}
use Rattle.l3_count.proofs.Costs.{lane_with-empty, no_costs-hold}
use Rattle.l3_count.proofs.Memos.{no_amp-is}
use Rattle.l3_count.proofs.lane.Lane.new.Goals as goal

pub invariant_of-result : goal.invariant_of-result
invariant_of-result c = no_costs-hold c.zero.result _ c.none-costs.result (subst IsAmp (sym c.zero.ensures) no_amp-is) c.none-costs.ensures

pub returns : goal.returns
returns c = lane_with-empty c.zero.result c.none-costs.result c.none-costs.ensures ∙ ap empty_lane c.zero.ensures
