use Rattle.std.proofs.Common.{◌≡◌, pos, ◌+ℤ◌, arith}
use Rattle.l3_base.specs.Lists.{entry}
use Rattle.l3_base.specs.Sums.{floor_div}
use Rattle.l3_transform.specs.Fold.{folded_columns_sum}
use Rattle.l3_transform.proofs.BothEnds.{from_both}
use Rattle.l3_transform.proofs.subbands.slots_of_folded.Goals as goal

pub set_opposite-requires-clause-before : goal.set_opposite-requires-clause-before
set_opposite-requires-clause-before c = record { long = c.told-out; low = λ m none. absurd (omega arith); high = λ m none. absurd (omega arith) }

pub set_opposite-requires-2 : goal.set_opposite-requires-2
set_opposite-requires-2 c = record { subband = omega arith; small = c.requires; value = c.even_sums-even.ensures.value; bound = c.even_sums-even.ensures.small; before = c.set_opposite.ensures }

pub set_opposite-requires-3 : goal.set_opposite-requires-3
set_opposite-requires-3 c = record { subband = omega arith; small = c.requires; value = c.even_sums-even.ensures.value; bound = c.even_sums-even.ensures.small; before = c.set_opposite-2.ensures }

pub set_opposite-requires-4 : goal.set_opposite-requires-4
set_opposite-requires-4 c = record { subband = omega arith; small = c.requires; value = c.even_sums-even.ensures.value; bound = c.even_sums-even.ensures.small; before = c.set_opposite-3.ensures }

pub set_opposite-requires-5 : goal.set_opposite-requires-5
set_opposite-requires-5 c = record { subband = omega arith; small = c.requires; value = c.even_sums-even.ensures.value; bound = c.even_sums-even.ensures.small; before = c.set_opposite-4.ensures }

pub set_opposite-requires-6 : goal.set_opposite-requires-6
set_opposite-requires-6 c = record { subband = omega arith; small = c.requires; value = c.even_sums-even.ensures.value; bound = c.even_sums-even.ensures.small; before = c.set_opposite-5.ensures }

pub set_opposite-requires-7 : goal.set_opposite-requires-7
set_opposite-requires-7 c = record { subband = omega arith; small = c.requires; value = c.even_sums-even.ensures.value; bound = c.even_sums-even.ensures.small; before = c.set_opposite-6.ensures }

pub set_opposite-requires-8 : goal.set_opposite-requires-8
set_opposite-requires-8 c = record { subband = omega arith; small = c.requires; value = c.even_sums-even.ensures.value; bound = c.even_sums-even.ensures.small; before = c.set_opposite-7.ensures }

pub set_opposite-requires-9 : goal.set_opposite-requires-9
set_opposite-requires-9 c = record { subband = omega arith; small = c.requires; value = c.even_sums-even.ensures.value; bound = c.even_sums-even.ensures.small; before = c.set_opposite-8.ensures }

pub set_opposite-requires-10 : goal.set_opposite-requires-10
set_opposite-requires-10 c = record { subband = omega arith; small = c.requires; value = c.even_sums-even.ensures.value; bound = c.even_sums-even.ensures.small; before = c.set_opposite-9.ensures }

pub set_opposite-requires-11 : goal.set_opposite-requires-11
set_opposite-requires-11 c = record { subband = omega arith; small = c.requires; value = c.even_sums-even.ensures.value; bound = c.even_sums-even.ensures.small; before = c.set_opposite-10.ensures }

pub set_opposite-requires-12 : goal.set_opposite-requires-12
set_opposite-requires-12 c = record { subband = omega arith; small = c.requires; value = c.even_sums-even.ensures.value; bound = c.even_sums-even.ensures.small; before = c.set_opposite-11.ensures }

pub set_opposite-requires-13 : goal.set_opposite-requires-13
set_opposite-requires-13 c = record { subband = omega arith; small = c.requires; value = c.even_sums-even.ensures.value; bound = c.even_sums-even.ensures.small; before = c.set_opposite-12.ensures }

pub set_opposite-requires-14 : goal.set_opposite-requires-14
set_opposite-requires-14 c = record { subband = omega arith; small = c.requires; value = c.even_sums-even.ensures.value; bound = c.even_sums-even.ensures.small; before = c.set_opposite-13.ensures }

pub set_opposite-requires-15 : goal.set_opposite-requires-15
set_opposite-requires-15 c = record { subband = omega arith; small = c.requires; value = c.even_sums-even.ensures.value; bound = c.even_sums-even.ensures.small; before = c.set_opposite-14.ensures }

pub set_opposite-requires-16 : goal.set_opposite-requires-16
set_opposite-requires-16 c = record { subband = omega arith; small = c.requires; value = c.even_sums-even.ensures.value; bound = c.even_sums-even.ensures.small; before = c.set_opposite-15.ensures }

pub returns-clause-value : goal.returns-clause-value
returns-clause-value c =
    from_both (λ m. entry c.set_opposite-16.new.out m ≡ floor_div (folded_columns_sum (entry c.args.columns.now) m +ℤ pos 67108864) 134217728) 16 31 (omega arith) (λ m low. (c.set_opposite-16.ensures.low m low, c.set_opposite-16.ensures.high m low))
