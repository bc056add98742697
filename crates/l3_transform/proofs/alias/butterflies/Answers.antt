use Rattle.std.proofs.Common.{◌+◌, ◌-◌, ◌*◌, arith, refl}
use Rattle.l3_base.proofs.Entries.{within_same}
use Rattle.l3_transform.proofs.Butterflies.{crossed_more}
use Rattle.l3_transform.proofs.alias.butterflies.Goals as goal

pub loop-k-init : goal.loop-k-init
loop-k-init c = record {
  long = c.requires.long;
  lower = λ j none. absurd (omega arith);
  upper = λ j none. absurd (omega arith);
  before = λ n lt. refl;
  after = λ n le. refl;
}

pub butterfly-requires-clause-below : goal.butterfly-requires-clause-below
butterfly-requires-clause-below c =
    within_same 178392064 _ _ (c.loop-k.invariant.before (18 * c.args.border - 1 - c.loop-k.k) (omega arith))
    (c.requires.small (18 * c.args.border - 1 - c.loop-k.k) (omega arith) (omega arith))

pub butterfly-requires-clause-above : goal.butterfly-requires-clause-above
butterfly-requires-clause-above c =
    within_same 178392064 _ _ (c.loop-k.invariant.after (18 * c.args.border + c.loop-k.k) (omega arith))
    (c.requires.small (18 * c.args.border + c.loop-k.k) (omega arith) (omega arith))

pub loop-k-preserved : goal.loop-k-preserved
loop-k-preserved c =
    rw c.butterfly.ensures (crossed_more c.args.border c.loop-k.k _ c.loop-k.out c.requires.border c.requires.subband c.loop-k-test.true c.loop-k.invariant)
