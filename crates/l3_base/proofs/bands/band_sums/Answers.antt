use Rattle.std.proofs.Common.{refl}
use Rattle.l3_base.specs.Sums.{sum_below, size_below}
use Rattle.l3_base.specs.Bands.{edges_at}
use Rattle.l3_base.proofs.bands.band_sums.Goals as goal

pub returns-clause-at_44100 : goal.returns-clause-at_44100
unfolding sum_below size_below edges_at
returns-clause-at_44100 c = record { total_is = refl; size_is = refl; weighed_is = refl }

pub returns-clause-at_48000 : goal.returns-clause-at_48000
unfolding sum_below size_below edges_at
returns-clause-at_48000 c = record { total_is = refl; size_is = refl; weighed_is = refl }

pub returns-clause-at_32000 : goal.returns-clause-at_32000
unfolding sum_below size_below edges_at
returns-clause-at_32000 c = record { total_is = refl; size_is = refl; weighed_is = refl }

pub returns-clause-slen1 : goal.returns-clause-slen1
unfolding sum_below size_below edges_at
returns-clause-slen1 c = record { total_is = refl; size_is = refl; weighed_is = refl }

pub returns-clause-slen2 : goal.returns-clause-slen2
unfolding sum_below size_below edges_at
returns-clause-slen2 c = record { total_is = refl; size_is = refl; weighed_is = refl }
