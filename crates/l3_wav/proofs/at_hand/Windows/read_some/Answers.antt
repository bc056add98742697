use Rattle.std.proofs.Common.{◌≡◌, ◌+◌, ◌*◌, ◌<◌, ◌≤◌, false, drop, length, nat_lt, refl, sym, subst, ap, arith, rules}
use Rattle.l3_wav.specs.Holding.{WindowsView, GoesOn}
use Rattle.l3_wav.proofs.HoldLemmas.{goes-on-by}
use Rattle.l3_wav.specs.ReadingOn.{AreGone}
use Rattle.l3_wav.proofs.SampleLemmas.{fault_caused}
use Rattle.l3_wav.proofs.GoneLemmas.{at-err}
use Rattle.l3_wav.proofs.ReadLemmas.{lt-from, reads-behind, stands, stands-right}
use Rattle.l3_wav.proofs.SoundLemmas.{sound-failed, sound-read}
use Rattle.l3_wav.proofs.at_hand.Windows.read_some.Goals as goal

pub returns-clause-content : goal.returns-clause-content
returns-clause-content g c =
    let left = g.S.Source.left in
    let w = c.self.inside in
    let k = 576 * w.stale in
    let is_short = nat_lt c.in_ok-count.count c.min-room.result in
    let old : WindowsView = record { channels = w.channels; ahead = w.ahead; base = w.base; read = w.read; ended = w.ended; samples = w.samples; left = drop k w.left.items; right = drop k w.right.items } in
    let new : WindowsView = record {
      channels = w.channels;
      ahead = w.ahead;
      base = w.base;
      read = w.read + c.in_ok-count.count;
      ended = is_short;
      samples = c.read_block.new.samples;
      left = drop k c.read_block.new.left.items;
      right = drop k c.read_block.new.right.items;
    } in
    let going : w.ended ≡ false = subst (λ (v : WindowsView). v.ended ≡ false) (sym c.self.view_is) c.requires.going in
    let near : 576 * w.base ≤ w.read = c.self.invariant.near going in
    let some : 0 < length (drop k w.left.items) = omega (arith, near, c.self.invariant.left_long) in
    subst (λ (v : WindowsView). GoesOn v new (left c.args.source.now) (left c.read_block.new.source)) c.self.view_is
    (goes-on-by old new (left c.args.source.now) (left c.read_block.new.source) c.in_ok-count.count is_short refl refl refl refl going near
    (reads-behind k w.channels c.in_ok-count.count is_short w.samples c.read_block.new.samples (left c.args.source.now) (left c.read_block.new.source) w.left.items c.read_block.new.left.items w.right.items c.read_block.new.right.items
    (stands w.left.items k (length (drop k w.left.items)) refl some) (stands-right w.channels w.left.items w.right.items k c.self.invariant.right_long some) c.in_ok-count.ensures.content))

pub invariant_of-self : goal.invariant_of-self
invariant_of-self g c =
    let w = c.self.inside in
    let going : w.ended ≡ false = subst (λ (v : WindowsView). v.ended ≡ false) (sym c.self.view_is) c.requires.going in
    sound-failed w.channels w.ahead w.base w.read w.ended w.samples c.read_block.new.samples w.left.items c.read_block.new.left.items w.right.items c.read_block.new.right.items w.stale _ _ _ _
    c.self.invariant going c.read_block.ensures.left_capacity c.read_block.ensures.right_capacity c.in_err-count.ensures.failed c.in_err-count.ensures.kept.0 c.in_err-count.ensures.kept.1

pub invariant_of-self-2 : goal.invariant_of-self-2
invariant_of-self-2 g c =
    let w = c.self.inside in
    let going : w.ended ≡ false = subst (λ (v : WindowsView). v.ended ≡ false) (sym c.self.view_is) c.requires.going in
    let fine : w.samples.failed ≡ false = subst (λ (v : WindowsView). v.samples.failed ≡ false) (sym c.self.view_is) c.requires.sound in
    let told = c.in_ok-count.ensures in
    let near : c.args.end ≤ 576 * (w.base + w.ahead + 1) = subst (λ (v : WindowsView). c.args.end ≤ 576 * (v.base + v.ahead + 1)) (sym c.self.view_is) c.requires.near in
    let some : w.read < c.args.end = subst (λ (v : WindowsView). v.read < c.args.end) (sym c.self.view_is) c.requires.some in
    let few : w.read + c.in_ok-count.count ≤ 576 * (w.base + w.ahead + 1) = omega (arith, near, some, told.bound) in
    sound-read w.channels w.ahead w.base w.read w.ended w.samples c.read_block.new.samples w.left.items c.read_block.new.left.items w.right.items c.read_block.new.right.items w.stale _ _ _ _
    c.self.invariant going c.read_block.ensures.left_capacity c.read_block.ensures.right_capacity c.in_ok-count.count c.min-room.result few fine told.state.0 told.declared told.ended told.left_long told.right_long

pub returns-clause-same : goal.returns-clause-same
returns-clause-same g c =
    (ap (λ (v : WindowsView). v.channels) c.self.view_is, ap (λ (v : WindowsView). v.ahead) c.self.view_is, ap (λ (v : WindowsView). v.base) c.self.view_is)

pub returns-clause-few : goal.returns-clause-few
returns-clause-few g c =
    let some : c.self.inside.read < c.args.end = subst (λ (v : WindowsView). v.read < c.args.end) (sym c.self.view_is) c.requires.some in
    omega (arith, some, c.in_ok-count.ensures.bound)

pub returns-clause-grows : goal.returns-clause-grows
returns-clause-grows g c =
    let read = ap (λ (v : WindowsView). v.read) c.self.view_is in
    omega (arith, read)

pub returns-clause-gone : goal.returns-clause-gone
returns-clause-gone g c =
    let left = g.S.Source.left in
    subst (λ (v : WindowsView). AreGone v.samples.remaining c.read_block.new.samples.remaining (left c.args.source.now) (left c.read_block.new.source)) c.self.view_is c.in_ok-count.ensures.gone

pub returns-clause-sound : goal.returns-clause-sound
returns-clause-sound g c =
    c.in_ok-count.ensures.state.1

pub returns-clause-short : goal.returns-clause-short
returns-clause-short g c =
    let some : c.self.inside.read < c.args.end = subst (λ (v : WindowsView). v.read < c.args.end) (sym c.self.view_is) c.requires.some in
    λ over. omega (arith, some, lt-from c.in_ok-count.count c.min-room.result over)

pub returns-clause-cause : goal.returns-clause-cause
returns-clause-cause g c =
    record { later = c.in_ok-count.ensures.cause.later; failed = tt; served = c.in_ok-count.ensures.cause.served }

pub returns-in_err-count-clause-same : goal.returns-in_err-count-clause-same
returns-in_err-count-clause-same g c =
    (ap (λ (v : WindowsView). v.channels) c.self.view_is, ap (λ (v : WindowsView). v.ahead) c.self.view_is, ap (λ (v : WindowsView). v.base) c.self.view_is)

pub returns-in_err-count-clause-few : goal.returns-in_err-count-clause-few
returns-in_err-count-clause-few g c =
    let some : c.self.inside.read < c.args.end = subst (λ (v : WindowsView). v.read < c.args.end) (sym c.self.view_is) c.requires.some in
    omega (arith, some)

pub returns-in_err-count-clause-grows : goal.returns-in_err-count-clause-grows
returns-in_err-count-clause-grows g c =
    let read = ap (λ (v : WindowsView). v.read) c.self.view_is in
    omega (arith, read)

pub returns-in_err-count-clause-stays : goal.returns-in_err-count-clause-stays
returns-in_err-count-clause-stays g c =
    at-err c.from_residual.result _ (subst (λ (v : WindowsView). v.ended ≡ false) (sym c.self.view_is) c.requires.going)

pub returns-in_err-count-clause-some : goal.returns-in_err-count-clause-some
returns-in_err-count-clause-some g c =
    let left = g.S.Source.left in
    at-err c.from_residual.result _ (subst (λ (v : WindowsView). AreGone v.samples.remaining 0 (left c.args.source.now) (left c.read_block.new.source)) c.self.view_is c.in_err-count.ensures.some)

pub returns-in_err-count-clause-failed : goal.returns-in_err-count-clause-failed
returns-in_err-count-clause-failed g c =
    at-err c.from_residual.result _ c.in_err-count.ensures.failed

pub returns-in_err-count-clause-cause : goal.returns-in_err-count-clause-cause
returns-in_err-count-clause-cause g c =
    let faults = g.S.Source.faults in
    fault_caused (faults c.args.source.now) (faults c.args.source.now) (faults c.read_block.new.source) c.from_residual.result c.read_block.result c.in_err-count.field-0.0 (search rules) c.in_err-count.was
    refl c.read_block.ensures.cause

pub read_block-requires-clause-room : goal.read_block-requires-clause-room
read_block-requires-clause-room g c =
    let some : c.self.inside.read < c.args.end = subst (λ (v : WindowsView). v.read < c.args.end) (sym c.self.view_is) c.requires.some in
    λ κs outlives. (omega (arith, some), omega arith)

pub read_block-requires-clause-channels : goal.read_block-requires-clause-channels
read_block-requires-clause-channels g c =
    let fine : c.self.inside.samples.failed ≡ false = subst (λ (v : WindowsView). v.samples.failed ≡ false) (sym c.self.view_is) c.requires.sound in
    λ κs outlives. c.self.invariant.channels fine

pub read_block-requires-clause-sound : goal.read_block-requires-clause-sound
read_block-requires-clause-sound g c =
    let fine : c.self.inside.samples.failed ≡ false = subst (λ (v : WindowsView). v.samples.failed ≡ false) (sym c.self.view_is) c.requires.sound in
    λ κs outlives. fine
