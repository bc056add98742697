use Rattle.std.proofs.Common.{◌∙◌, arith}
use Rattle.l3_base.specs.Lists.{entry}
use Rattle.l3_base.specs.Filterbank.{slot_sum}
use Rattle.l3_base.proofs.ListLemmas.{tabulate-same}
use Rattle.l3_base.proofs.SlotLemmas.{slot_sum-same}
use Rattle.l3_transform.specs.Samples.{before_newest}
use Rattle.l3_transform.proofs.ColumnSlots.{taps_of}
use Rattle.l3_transform.proofs.filterbank.slot.Goals as goal

pub returns-clause-value : goal.returns-clause-value
returns-clause-value c =
    c.subbands.ensures.value (before_newest c.in_time.result) (taps_of c.in_time.result c.make_rows.new.rows 0 0 (omega arith) (omega arith) c.make_rows.ensures)
    ∙ tabulate-same 32 (slot_sum (before_newest c.in_time.result)) (slot_sum (entry c.args.window.now)) (λ i lt. slot_sum-same (before_newest c.in_time.result) (entry c.args.window.now) i c.in_time.ensures.value)

pub returns-clause-bound : goal.returns-clause-bound
returns-clause-bound c = c.subbands.ensures.bound (before_newest c.in_time.result) (taps_of c.in_time.result c.make_rows.new.rows 0 0 (omega arith) (omega arith) c.make_rows.ensures)
