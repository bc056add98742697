use Rattle.std.proofs.Common.{◌≡◌, ℕ, ◌<◌, ◌≤◌, nat_lt}
use Rattle.std.specs.Prelude.{slice_range}
use Rattle.std.specs.List.{list_all}
use Rattle.l3_search.proofs.scalefactors.greatest.Given as goal

abbrev pub invariant-loop-band : goal.invariant-loop-band
invariant-loop-band l = record {
  from : l.from ≤ l.band;
  small : l.top ≤ 3;
  value : (limit : ℕ) → 0 < limit → list_all (λ a. nat_lt a limit) (slice_range l.amp l.from l.band) ≡ nat_lt l.top limit;
}
