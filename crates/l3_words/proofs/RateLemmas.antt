-- The rate that is found by its number.
use Rattle.std.proofs.Common.{◌≡◌, ◌∙◌, inl, inr, sym, ap, refl, ℕ, ◌<◌, ◌≤◌, Bool, false, eqb, List, [], ◌∷◌, arith}
use Rattle.std.proofs.lemmas.Bool.Decides.{eqb_tells}
use Rattle.std.specs.Prelude.{Option, Some, None, IfSome, IfNone, find, ◌==◌}
use Rattle.l3_base.specs.declared.rate.Rate.{Rate}
use Rattle.l3_base.specs.declared.rate.Rate.TheVariants.{K32, K40, K48, K56, K64, K80, K96, K112, K128, K160, K192, K224, K256, K320}
use Rattle.l3_base.specs.Rates.{kbits_of, IsNoRate}
use Rattle.l3_words.specs.Words.{rates, rate_of}

-- each rate is found by its number
found : (rate : Rate) → rate_of (kbits_of rate) ≡ Some rate
unfolding rate_of
found K32 = refl
found K40 = refl
found K48 = refl
found K56 = refl
found K64 = refl
found K80 = refl
found K96 = refl
found K112 = refl
found K128 = refl
found K160 = refl
found K192 = refl
found K224 = refl
found K256 = refl
found K320 = refl

unequal : (a b : ℕ) → (a ≡ b → ⊥) → eqb a b ≡ false
unequal a b other = elim (eqb_tells a b) [ inl same ↦ absurd (other same.1) | inr apart ↦ apart.0 ]

found_none : {X : Type 0} (test : X → Bool) (xs : List X) → ((x : X) → test x ≡ false) → find test xs ≡ None
found_none test [] fails = refl
found_none test (x ∷ xs) fails = rw (fails x) (found_none test xs fails)

no_rate : (kbits : ℕ) → IsNoRate kbits → rate_of kbits ≡ None
unfolding rate_of
no_rate kbits none = found_none (λ rate. kbits_of rate == kbits) rates (λ rate. unequal (kbits_of rate) kbits (none rate))

-- what is found by a number
pub rate_is : (answer : Option Rate) (kbits : ℕ) → IfSome answer (λ rate. kbits_of rate ≡ kbits) → IfNone answer (IsNoRate kbits) → answer ≡ rate_of kbits
rate_is (Some rate) kbits some none = sym (ap rate_of (sym some) ∙ found rate)
rate_is None kbits some none = sym (no_rate kbits none)
