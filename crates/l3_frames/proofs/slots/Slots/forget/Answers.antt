use Rattle.std.proofs.Common.{◌≡◌, ◌≤◌, length, arith}
use Rattle.std.proofs.lemmas.List.{length-take-le}
use Rattle.l3_frames.proofs.HeadLemmas.{moved_forward}
use Rattle.l3_frames.proofs.slots.Slots.forget.Goals as goal

pub returns : goal.returns
returns c =
    let within : c.self.inside.length ≤ length c.self.inside.bytes = omega (arith, c.self.invariant, c.self.told) in
    let size : length c.args.self.now ≡ c.self.inside.length = rw (← c.self.view_is) (length-take-le c.self.inside.length c.self.inside.bytes within) in
    moved_forward c.self.inside.bytes c.copy_within.new.self c.args.self.now c.self.inside.length c.args.count (omega (arith, c.requires, size)) within c.self.view_is c.copy_within.ensures.after
