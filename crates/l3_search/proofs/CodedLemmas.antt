-- A count is there only where all values can be coded.
use Rattle.std.proofs.Common.{◌≡◌, ℕ, ◌<◌, List, [], Option, Some, None, leb, sym, ap, ◌∙◌, inl, inr, arith, if◌then◌else◌, ℤ, pos}
use Rattle.std.specs.Prelude.{Any, unsigned_abs}
use Rattle.std.proofs.lemmas.Bool.{cases_Bool, leb-true}
use Rattle.std.proofs.lemmas.List.Sums.{AllPass-from_list_all}
use Rattle.l3_quant.specs.Quantiser.{IsCodable, is_codable}
use Rattle.l3_quant.specs.Amplified.{quantised_bands}
use Rattle.l3_count.specs.Count.{Counted, count_of, counted}

pub codable-from_count : (edges amp : List ℕ) (lines : List ℤ) (gain : ℕ) (c : Counted) →
    count_of edges amp lines gain ≡ Some c → IsCodable (quantised_bands edges amp (pos gain) lines)
unfolding count_of
codable-from_count edges amp lines gain c there =
    let q = quantised_bands edges amp (pos gain) lines in
    elim (cases_Bool (is_codable q)) [
      | inl e ↦ λ k d lt. leb-true _ _ (AllPass-from_list_all (λ x. leb (unsigned_abs x) 8191) q e k d lt)
      | inr e ↦ absurd (let no : None ≡ Some c = sym (ap (λ b. if b then Some (counted edges amp gain q) else None) e) ∙ there in cc)
    ]

pub codable-not_above : (q : List ℤ) → IsCodable q → Any (λ x. 8191 < unsigned_abs x) q → ⊥
codable-not_above q codable above =
    let k = above.0 in
    let x = above.1 in
    omega (arith, codable k x above.2, ap unsigned_abs above.3, above.4)

amp_in : Option Counted → List ℕ
amp_in None = []
amp_in (Some c) = c.amp

gain_in : Option Counted → ℕ
gain_in None = 0
gain_in (Some c) = c.gain

-- a count is at its own amplification and gain
pub count_of-own : (edges amp : List ℕ) (lines : List ℤ) (gain : ℕ) (c : Counted) →
    count_of edges amp lines gain ≡ Some c → count_of edges c.amp lines c.gain ≡ Some c
unfolding count_of counted amp_in gain_in
count_of-own edges amp lines gain c there =
    let q = quantised_bands edges amp (pos gain) lines in
    elim (cases_Bool (is_codable q)) [
      | inl e ↦
          (let some : Some (counted edges amp gain q) ≡ Some c = sym (ap (λ b. if b then Some (counted edges amp gain q) else None) e) ∙ there in
          let same_amp : amp ≡ c.amp = ap amp_in some in
          let same_gain : gain ≡ c.gain = ap gain_in some in
          ap (λ a. count_of edges a lines c.gain) (sym same_amp) ∙ (ap (count_of edges amp lines) (sym same_gain) ∙ there))
      | inr e ↦ absurd (let no : None ≡ Some c = sym (ap (λ b. if b then Some (counted edges amp gain q) else None) e) ∙ there in cc)
    ]
