use Rattle.std.proofs.Common.{rules, ◌≡◌, ap₂, length, ◌++◌}
use Rattle.l3_wav.proofs.DemoSampleLemmas.{two_bytes}
use Rattle.l3_wav.proofs.signal.joined.Goals as goal

pub returns : goal.returns
returns c =
    let one : length c.args.left ≡ 2 = search rules in
    let other : length c.args.right ≡ 2 = search rules in
    ap₂ (λ xs ys. xs ++ ys) (two_bytes c.args.left one) (two_bytes c.args.right other)
