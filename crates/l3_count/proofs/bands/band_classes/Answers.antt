use Rattle.std.proofs.Common.{◌≡◌, ◌<◌, ◌*◌, ◌+◌, refl, subst, get_or, arith}
use Rattle.l3_quant.specs.Quantiser.{magnitude_at}
use Rattle.l3_region.proofs.Tables.{AreLess, class_by_count}
use Rattle.l3_count.proofs.PlaneCounts.{zero_counts}
use Rattle.l3_count.proofs.Classes.{no_less, less_more, small_more}
use Rattle.l3_count.proofs.bands.band_classes.Goals as goal

pub loop-class-init : goal.loop-class-init
loop-class-init c = record {
  long = rw c.no_classes-classes.ensures refl;
  value = λ peaks steps are b lt key. no_less (magnitude_at (get_or peaks b 0) (steps b)) (get_or c.no_classes-classes.result b 0) (zero_counts c.no_classes-classes.result b c.no_classes-classes.ensures);
  small = λ b lt. let none : get_or c.no_classes-classes.result b 0 ≡ 0 = zero_counts c.no_classes-classes.result b c.no_classes-classes.ensures in omega (arith, none);
}

pub loop-class-preserved : goal.loop-class-preserved
loop-class-preserved c =
    let class = c.loop-class.class in
    let old = c.loop-class.classes in
    let new = c.with_class-classes.result in
    record {
      long = c.with_class-classes.ensures.long;
      value = λ peaks steps are b lt key.
          let room : b < 32 = omega arith in
          less_more class (get_or peaks b 0) (steps b) (get_or c.args.planes.now (32 * class + b) 0) (get_or c.args.keys.now b 0) (get_or old b 0) (get_or new b 0) c.loop-class-test.true (are.is class (omega (arith, c.loop-class-test.true)) b lt) key
          (c.loop-class.invariant.value peaks steps are b lt key) (c.with_class-classes.ensures.more b room) (c.with_class-classes.ensures.same b room);
      small = λ b lt. small_more (get_or old b 0) (get_or new b 0) class (get_or c.args.planes.now (32 * class + b) 0) (get_or c.args.keys.now b 0) (c.loop-class.invariant.small b lt) (c.with_class-classes.ensures.more b lt) (c.with_class-classes.ensures.same b lt);
    }

pub returns-clause-value : goal.returns-clause-value
returns-clause-value c peaks steps are b lt key small k lane =
    let h = steps b in
    let end : c.loop-class.class ≡ 13 = omega (arith, c.loop-class-test.false, c.loop-class.auto.class-end) in
    let counted = subst (AreLess (magnitude_at (get_or peaks b 0) h) (get_or c.loop-class.classes b 0)) end (c.loop-class.invariant.value peaks steps are b lt key) in
    class_by_count (magnitude_at (get_or peaks b 0) h) (get_or c.loop-class.classes b 0) k small counted lane
