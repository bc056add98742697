use Rattle.std.proofs.Common.{◌+◌, refl}
use Rattle.l3_base.specs.Bands.{edges_at, edge_at, band_width}
use Rattle.l3_base.proofs.Entries.{ordered_at, not_above_at}
use Rattle.l3_base.proofs.bands.band_laws.Goals as goal

pub returns-clause-at_44100 : goal.returns-clause-at_44100
unfolding edges_at edge_at
returns-clause-at_44100 c = record {
  count = refl;
  from_the_first_line = refl;
  to_the_last_line = refl;
  rising = λ b lt. ordered_at (edge_at 0) (λ k. edge_at 0 (k + 1)) 22 b refl lt;
  widening = λ b lt. not_above_at (band_width 0) (λ k. band_width 0 (k + 1)) 20 b refl lt;
}

pub returns-clause-at_48000 : goal.returns-clause-at_48000
unfolding edges_at edge_at
returns-clause-at_48000 c = record {
  count = refl;
  from_the_first_line = refl;
  to_the_last_line = refl;
  rising = λ b lt. ordered_at (edge_at 1) (λ k. edge_at 1 (k + 1)) 22 b refl lt;
  widening = λ b lt. not_above_at (band_width 1) (λ k. band_width 1 (k + 1)) 20 b refl lt;
}

pub returns-clause-at_32000 : goal.returns-clause-at_32000
unfolding edges_at edge_at
returns-clause-at_32000 c = record {
  count = refl;
  from_the_first_line = refl;
  to_the_last_line = refl;
  rising = λ b lt. ordered_at (edge_at 2) (λ k. edge_at 2 (k + 1)) 22 b refl lt;
  widening = λ b lt. not_above_at (band_width 2) (λ k. band_width 2 (k + 1)) 20 b refl lt;
}
