-- Bytes moved to the front.
use Rattle.std.proofs.Common.{◌≡◌, ℕ, ◌+◌, ◌-◌, ◌≤◌, List, length, take, drop, sym, ap, ◌∙◌, arith}
use Rattle.std.specs.List.{copy_within}
use Rattle.std.proofs.lemmas.List.{take_at, drop-take, length-take-le, length-drop}

pub moved : (bytes : List ℕ) (gone whole : ℕ) → gone ≤ whole → whole ≤ length bytes
    → take (whole - gone) (copy_within bytes gone whole 0) ≡ drop gone (take whole bytes)
moved bytes gone whole le within =
    let part = take (whole - gone) (drop gone bytes) in
    let size : length part ≡ whole - gone = length-take-le (whole - gone) (drop gone bytes)
    (omega (arith, length-drop gone bytes)) in
    let sum : whole ≡ gone + (whole - gone) = omega arith in
    take_at part (drop (0 + (whole - gone)) bytes) (whole - gone) size
    ∙ (sym (drop-take gone (whole - gone) bytes) ∙ ap (λ n. drop gone (take n bytes)) (sym sum))
