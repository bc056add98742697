use Rattle.std.proofs.Common.{◌≡◌, ◌-◌, ◌/◌, ◌^◌, ◌≤◌, ◌<◌, ◌+◌, ℕ, refl, subst}
use Rattle.l3_count.specs.Planes.{bucket_at, ranked_at}
use Rattle.l3_count.proofs.Ranks.{rank_is}
use Rattle.l3_count.proofs.line.rank.Goals as goal

pub returns : goal.returns
returns c =
    let m = c.args.mantissa in
    let b = m / 2 ^ 20 - 256 in
    let low = c.bucket-low.result in
    let is : low ≡ bucket_at b = c.bucket-low.ensures.value in
    let more : ranked_at (bucket_at b) ≤ m → c.step.result ≡ bucket_at b + 1 = subst (λ (z : ℕ). ranked_at z ≤ m → c.step.result ≡ z + 1) is c.step.ensures.more in
    let same : m < ranked_at (bucket_at b) → c.step.result ≡ bucket_at b = subst (λ (z : ℕ). m < ranked_at z → c.step.result ≡ z) is c.step.ensures.same in
    rank_is m b c.step.result c.step-2.result refl c.requires.low c.requires.high more same c.step-2.ensures.more c.step-2.ensures.same
