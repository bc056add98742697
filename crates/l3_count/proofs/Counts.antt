-- When a count is there, and what it says.
use Rattle.std.proofs.Common.{◌≡◌, ℕ, ◌<◌, ◌≤◌, false, true, List, Option, Some, None, refl, sym, subst, ap, ◌∙◌, inl, inr, arith, ℤ, pos}
use Rattle.std.specs.Prelude.{Any, IsSome, unsigned_abs, get_or, if◌then◌else◌}
use Rattle.std.proofs.lemmas.Bool.{cases_Bool, cases_lt}
use Rattle.l3_base.specs.Amp.{no_amp}
use Rattle.l3_base.specs.Choosing.{IsLeastPassing}
use Rattle.l3_base.proofs.ChoosingLemmas.{least_passing-least}
use Rattle.l3_quant.specs.Quantiser.{IsCodable, is_codable, quantised_lines}
use Rattle.l3_quant.specs.Amplified.{quantised_bands}
use Rattle.l3_quant.specs.Gains.{first_gain_of}
use Rattle.l3_quant.proofs.BandLemmas.{codable_above, one_gain_without_amp}
use Rattle.l3_quant.proofs.Codable.{codable_is_tested}
use Rattle.l3_region.proofs.Fewest.{chosen_bits, chosen_taken, none_fewer}
use Rattle.l3_region.specs.Regions.{regions_of}
use Rattle.l3_count.specs.Count.{Counted, count_of, counted}
use Rattle.l3_count.specs.Laws.{CountsAtOneGain, CountsTheFewest, CountsWhatIsTaken, IsCountOf, IsThereFromTheFirstGain, IsThereWhereCodable}

-- where no band is amplified
pub at_one_gain : CountsAtOneGain
unfolding count_of
at_one_gain edges lines gain =
    ap (λ (q : List ℤ). if is_codable q then Some (counted edges no_amp gain q) else None) (one_gain_without_amp edges (pos gain) lines)

-- where the spectrum is codable
pub count_of-some : (edges amp : List ℕ) (lines : List ℤ) (gain : ℕ) →
    IsCodable (quantised_bands edges amp (pos gain) lines) →
    count_of edges amp lines gain ≡ Some (counted edges amp gain (quantised_bands edges amp (pos gain) lines))
unfolding count_of
count_of-some edges amp lines gain codable =
    let e = (codable_is_tested (quantised_bands edges amp (pos gain) lines)).1 codable in rw e refl

-- the same at one gain, where no band is amplified
pub count_of-some_at_one_gain : (edges : List ℕ) (lines : List ℤ) (gain : ℕ) →
    IsCodable (quantised_lines (pos gain) lines) →
    count_of edges no_amp lines gain ≡ Some (counted edges no_amp gain (quantised_lines (pos gain) lines))
count_of-some_at_one_gain edges lines gain codable =
    let e = (codable_is_tested (quantised_lines (pos gain) lines)).1 codable in
    at_one_gain edges lines gain ∙ rw e refl

-- the count that was made of its values
pub count_of-made : (edges amp : List ℕ) (lines : List ℤ) (gain : ℕ) (c : Counted) →
    IsCodable (quantised_bands edges amp (pos gain) lines) →
    c ≡ counted edges amp gain (quantised_bands edges amp (pos gain) lines) →
    count_of edges amp lines gain ≡ Some c
count_of-made edges amp lines gain c codable made = let is = count_of-some edges amp lines gain codable in cc

-- where it is not
pub count_of-none : (edges amp : List ℕ) (lines : List ℤ) (gain : ℕ) →
    is_codable (quantised_bands edges amp (pos gain) lines) ≡ false →
    count_of edges amp lines gain ≡ None
unfolding count_of
count_of-none edges amp lines gain e = rw e refl

-- where a value is above 8191
pub count_of-above : (edges amp : List ℕ) (lines : List ℤ) (gain : ℕ) →
    Any (λ q. 8191 < unsigned_abs q) (quantised_bands edges amp (pos gain) lines) →
    count_of edges amp lines gain ≡ None
count_of-above edges amp lines gain a =
    let q = quantised_bands edges amp (pos gain) lines in
    elim (cases_Bool (is_codable q)) [
      | inl e ↦
          (let here : unsigned_abs (get_or q a.0 a.1) ≤ 8191 = (codable_is_tested q).0 e a.0 a.1 a.2 in
          let same : unsigned_abs (get_or q a.0 a.1) ≡ unsigned_abs a.1 = ap unsigned_abs a.3 in
          absurd (omega (arith, a.4)))
      | inr e ↦ count_of-none edges amp lines gain e
    ]

IsSome-none : (o : Option Counted) → IsSome o → o ≡ None → ⊥
IsSome-none None there e = cc
IsSome-none (Some c) there e = cc

-- a count that is there
pub count_of-is : (edges amp : List ℕ) (lines : List ℤ) (gain : ℕ) →
    IsSome (count_of edges amp lines gain) → IsCodable (quantised_bands edges amp (pos gain) lines)
count_of-is edges amp lines gain there =
    let q = quantised_bands edges amp (pos gain) lines in
    elim (cases_Bool (is_codable q)) [
      | inl e ↦ (codable_is_tested q).0 e
      | inr e ↦ absurd (IsSome-none (count_of edges amp lines gain) there (count_of-none edges amp lines gain e))
    ]

pub IsSome-from : (o : Option Counted) (c : Counted) → o ≡ Some c → IsSome o
IsSome-from o c e = rw e refl

pub is_there : IsThereWhereCodable
is_there edges amp lines gain = (
  count_of-is edges amp lines gain,
  λ codable. IsSome-from (count_of edges amp lines gain) (counted edges amp gain (quantised_bands edges amp (pos gain) lines)) (count_of-some edges amp lines gain codable),
)

-- the first gain is the least one of at most 255 at which the spectrum is codable
pub first_gain_of-least : (edges amp : List ℕ) (lines : List ℤ) →
    IsLeastPassing 256 (λ gain. is_codable (quantised_bands edges amp (pos gain) lines)) (first_gain_of edges amp lines)
unfolding first_gain_of
first_gain_of-least edges amp lines = least_passing-least 256 (λ gain. is_codable (quantised_bands edges amp (pos gain) lines))

pub first_gain_of-codable : (edges amp : List ℕ) (lines : List ℤ) (gain : ℕ) → gain ≤ 255 →
    first_gain_of edges amp lines ≤ gain →
    IsCodable (quantised_bands edges amp (pos gain) lines)
first_gain_of-codable edges amp lines gain most le =
    let first = first_gain_of edges amp lines in
    let q = quantised_bands edges amp (pos first) lines in
    let passes : is_codable q ≡ true = (first_gain_of-least edges amp lines).passing (omega arith) in
    codable_above edges amp lines first gain le most ((codable_is_tested q).0 passes)

pub first_gain_of-le : (edges amp : List ℕ) (lines : List ℤ) (gain : ℕ) →
    IsCodable (quantised_bands edges amp (pos gain) lines) → first_gain_of edges amp lines ≤ gain
first_gain_of-le edges amp lines gain codable =
    let q = quantised_bands edges amp (pos gain) lines in
    elim (cases_lt gain (first_gain_of edges amp lines)) [
      | inl lt ↦
          (let no : is_codable q ≡ false = (first_gain_of-least edges amp lines).least gain lt in
          let yes : is_codable q ≡ true = (codable_is_tested q).1 codable in
          cc)
      | inr le ↦ le
    ]

pub from_the_first_gain : IsThereFromTheFirstGain
from_the_first_gain edges amp lines gain most = (
  λ there. first_gain_of-le edges amp lines gain (count_of-is edges amp lines gain there),
  λ le. (is_there edges amp lines gain).1 (first_gain_of-codable edges amp lines gain most le),
)

-- below the first gain no count is there
pub none_below_the_first_gain : (edges amp : List ℕ) (lines : List ℤ) (gain : ℕ) →
    gain < first_gain_of edges amp lines → count_of edges amp lines gain ≡ None
none_below_the_first_gain edges amp lines gain lt = count_of-none edges amp lines gain ((first_gain_of-least edges amp lines).least gain lt)

-- the count from the first gain on
pub count_from_the_first_gain : (edges amp : List ℕ) (lines : List ℤ) (gain : ℕ) → gain ≤ 255 →
    first_gain_of edges amp lines ≤ gain →
    count_of edges amp lines gain ≡ Some (counted edges amp gain (quantised_bands edges amp (pos gain) lines))
count_from_the_first_gain edges amp lines gain most le = count_of-some edges amp lines gain (first_gain_of-codable edges amp lines gain most le)

-- a count is the one of the quantised values
pub count_of-says : (edges amp : List ℕ) (lines : List ℤ) (gain : ℕ) (c : Counted) →
    count_of edges amp lines gain ≡ Some c →
    IsCodable (quantised_bands edges amp (pos gain) lines) × (c ≡ counted edges amp gain (quantised_bands edges amp (pos gain) lines))
count_of-says edges amp lines gain c e =
    let codable = count_of-is edges amp lines gain (IsSome-from (count_of edges amp lines gain) c e) in
    let is = count_of-some edges amp lines gain codable in
    (codable, cc)

-- the same at one gain, where no band is amplified
pub count_of-says_at_one_gain : (edges : List ℕ) (lines : List ℤ) (gain : ℕ) (c : Counted) →
    count_of edges no_amp lines gain ≡ Some c →
    IsCodable (quantised_lines (pos gain) lines) × (c ≡ counted edges no_amp gain (quantised_lines (pos gain) lines))
count_of-says_at_one_gain edges lines gain c e =
    let P : List ℤ → Type 0 = λ q. IsCodable q × (c ≡ counted edges no_amp gain q) in
    subst P (one_gain_without_amp edges (pos gain) lines) (count_of-says edges no_amp lines gain c e)

counted-is : (edges amp : List ℕ) (q : List ℤ) (gain : ℕ) → IsCodable q →
    IsCountOf edges amp q gain (counted edges amp gain q)
unfolding counted
counted-is edges amp q gain small =
    record { amp_is = refl; gain_is = refl; split_is = refl; taken = chosen_taken edges q small; bits_are = chosen_bits edges q }

pub what_is_taken : CountsWhatIsTaken
what_is_taken edges amp lines gain c e =
    let says = count_of-says edges amp lines gain c e in
    let q = quantised_bands edges amp (pos gain) lines in
    let P : Counted → Type 0 = λ d. IsCountOf edges amp q gain d in
    subst P (sym says.1) (counted-is edges amp q gain says.0)

counted-fewest : (edges amp : List ℕ) (q : List ℤ) (gain : ℕ) (c : Counted) →
    c ≡ counted edges amp gain q → c.bits ≡ (regions_of edges q).bits
unfolding counted
counted-fewest edges amp q gain c e = ap (λ (d : Counted). d.bits) e

pub the_fewest : CountsTheFewest
the_fewest edges amp lines gain c e a b s t u quad may =
    let says = count_of-says edges amp lines gain c e in
    let q = quantised_bands edges amp (pos gain) lines in
    let same = counted-fewest edges amp q gain c says.1 in
    omega (arith, none_fewer edges q a b s t u quad says.0 may)
