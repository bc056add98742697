use Rattle.std.proofs.lemmas.List.Elements.{All-same}
use Rattle.l3_base.specs.Sums.{IsWithin}
use Rattle.l3_transform.proofs.ColumnSlots.{slots_of_folded-are}
use Rattle.l3_transform.proofs.WindowSlots.{tabulated_small}
use Rattle.l3_transform.proofs.subbands.subbands.Goals as goal

pub returns-clause-value : goal.returns-clause-value
returns-clause-value c = λ newest taps. slots_of_folded-are newest c.columns.new.u c.slots_of_folded.new.out c.slots_of_folded.ensures.long (c.columns.ensures.value newest taps) c.slots_of_folded.ensures.value

pub returns-clause-bound : goal.returns-clause-bound
returns-clause-bound c = λ newest taps.
    All-same (IsWithin 44598016) _ _ (slots_of_folded-are newest c.columns.new.u c.slots_of_folded.new.out c.slots_of_folded.ensures.long (c.columns.ensures.value newest taps) c.slots_of_folded.ensures.value)
    (tabulated_small newest (record { small = c.columns.ensures.range newest taps }))
