use Rattle.std.proofs.Common.{◌≡◌, ◌≤◌, ℕ, List, get_or, length, replicate, ap, arith, ◌∙◌, inl, inr}
use Rattle.std.proofs.lemmas.Bool.{cases_lt}
use Rattle.std.proofs.lemmas.List.{get_or_past}
use Rattle.std.proofs.lemmas.Simd.{get_or-replicate}
use Rattle.l3_region.proofs.lanes.band_classes.Goals as goal

none_small : (tops : List ℕ) → tops ≡ replicate 32 0 → (b : ℕ) → get_or tops b 0 ≤ 8191
none_small tops is b = elim (cases_lt b 32) [
  | inl lt ↦ (let e = ap (λ xs. get_or xs b 0) is ∙ get_or-replicate {A = ℕ} 32 b 0 0 lt in omega (arith, e))
  | inr ge ↦ (let long = ap length is in let e = get_or_past tops b 0 (omega (arith, long, ge)) in omega (arith, e))
]

pub loop-b-init : goal.loop-b-init
loop-b-init c = record {
  long = ap length c.no_classes-tops.ensures;
  done = λ b lt. absurd (omega arith);
  small = none_small c.no_classes-tops.result c.no_classes-tops.ensures;
}
