use Rattle.std.proofs.Common.{refl}
use Rattle.l3_base.specs.declared.rate.Rate.TheVariants.{K32, K40, K48, K56, K64, K80, K96, K112, K128, K160, K192, K224, K256, K320}
use Rattle.l3_base.specs.RateTables.{RatesAreThose}
use Rattle.l3_base.specs.Sums.{sum_below, size_below}
use Rattle.l3_base.proofs.rates.rate_sums.Goals as goal

rates_are_those : RatesAreThose
rates_are_those K32 = refl
rates_are_those K40 = refl
rates_are_those K48 = refl
rates_are_those K56 = refl
rates_are_those K64 = refl
rates_are_those K80 = refl
rates_are_those K96 = refl
rates_are_those K112 = refl
rates_are_those K128 = refl
rates_are_those K160 = refl
rates_are_those K192 = refl
rates_are_those K224 = refl
rates_are_those K256 = refl
rates_are_those K320 = refl

pub returns-clause-sums : goal.returns-clause-sums
unfolding sum_below size_below
returns-clause-sums c = record { total_is = refl; size_is = refl; weighed_is = refl }

pub returns-clause-same : goal.returns-clause-same
returns-clause-same c = rates_are_those
