use Rattle.std.proofs.Common.{◌<◌, ◌^◌, arith}
use Rattle.std.specs.Prelude.{All}
use Rattle.std.proofs.lemmas.List.Elements.{All-from_get_or}
use Rattle.l3_frames.proofs.HeadLemmas.{head_joined}
use Rattle.l3_frames.proofs.head.joined.Goals as goal

pub returns : goal.returns
returns c =
    let header : All (λ byte. byte < 2 ^ 8) c.args.header.now = All-from_get_or (λ byte. byte < 2 ^ 8) c.args.header.now 0 (λ i lt. omega (arith, c.type_inv.header i)) in
    let side : All (λ byte. byte < 2 ^ 8) c.args.side.now = All-from_get_or (λ byte. byte < 2 ^ 8) c.args.side.now 0 (λ i lt. omega (arith, c.type_inv.side i)) in
    head_joined c.args.header.now c.args.side.now c.copy_from_slice.new.self c.copy_from_slice-2.new.self _ c.args.size c.requires.header c.requires.side c.requires.size
    c.copy_from_slice.ensures.after c.copy_from_slice-2.ensures.after header side
