-- Slots of frames have 60 to 1420 bytes.
use Rattle.std.proofs.Common.{◌≡◌, ℕ, zero, suc, ◌+◌, ◌*◌, ◌/◌, ◌≤◌, Bool, true, false, refl, ap, arith}
use Rattle.std.specs.Prelude.{if◌then◌else◌}
use Rattle.l3_base.specs.declared.settings.Settings.{Settings}
use Rattle.l3_base.specs.declared.rate.Rate.{Rate}
use Rattle.l3_base.specs.declared.rate.Rate.TheVariants.{K32, K40, K48, K56, K64, K80, K96, K112, K128, K160, K192, K224, K256, K320}
use Rattle.l3_base.specs.declared.rate.SampleRate.{SampleRate}
use Rattle.l3_base.specs.declared.rate.SampleRate.TheVariants.{Hz44100, Hz48000, Hz32000}
use Rattle.l3_base.specs.declared.rate.Channels.{Channels}
use Rattle.l3_base.specs.declared.rate.Channels.TheVariants.{Mono, Stereo}
use Rattle.l3_base.specs.Rates.{kbits_of, hertz_of, head_bytes_of}
use Rattle.l3_base.specs.Lengths.{is_padded, slot_bytes_of, slots_before}
use Rattle.l3_stream.proofs.Tape.{slots-suc}

record IsBetween (low high n : ℕ) : Type 0 where
  above : low ≤ n
  below : n ≤ high

kbits_range : (r : Rate) → IsBetween 32 320 (kbits_of r)
kbits_range K32 = record { above = omega arith; below = omega arith }
kbits_range K40 = record { above = omega arith; below = omega arith }
kbits_range K48 = record { above = omega arith; below = omega arith }
kbits_range K56 = record { above = omega arith; below = omega arith }
kbits_range K64 = record { above = omega arith; below = omega arith }
kbits_range K80 = record { above = omega arith; below = omega arith }
kbits_range K96 = record { above = omega arith; below = omega arith }
kbits_range K112 = record { above = omega arith; below = omega arith }
kbits_range K128 = record { above = omega arith; below = omega arith }
kbits_range K160 = record { above = omega arith; below = omega arith }
kbits_range K192 = record { above = omega arith; below = omega arith }
kbits_range K224 = record { above = omega arith; below = omega arith }
kbits_range K256 = record { above = omega arith; below = omega arith }
kbits_range K320 = record { above = omega arith; below = omega arith }

base_range : (h : SampleRate) (k : ℕ) → IsBetween 32 320 k → IsBetween 96 1440 (144000 * k / hertz_of h)
base_range Hz44100 k r = let above = r.above in let below = r.below in record { above = omega arith; below = omega arith }
base_range Hz48000 k r = let above = r.above in let below = r.below in record { above = omega arith; below = omega arith }
base_range Hz32000 k r = let above = r.above in let below = r.below in record { above = omega arith; below = omega arith }

head_range : (c : Channels) → IsBetween 21 36 (head_bytes_of c)
head_range Mono = record { above = omega arith; below = omega arith }
head_range Stereo = record { above = omega arith; below = omega arith }

padding_small : (b : Bool) → (if b then 1 else 0) ≤ 1
padding_small true = omega arith
padding_small false = omega arith

pub record IsSlot (n : ℕ) : Type 0 where
  pub above : 60 ≤ n
  pub below : n ≤ 1420

pub slot_range : (st : Settings) (n : ℕ) → IsSlot (slot_bytes_of st n)
slot_range st n =
    let base = base_range st.sample_rate (kbits_of st.rate) (kbits_range st.rate) in
    let head = head_range st.channels in
    let padding = padding_small (is_padded st n) in
    record { above = omega (arith, base.above, base.below, head.above, head.below, padding); below = omega (arith, base.above, base.below, head.above, head.below, padding) }

-- slots from frame n on
pub slots-spread : (st : Settings) (n k : ℕ) → slots_before st n + 60 * k ≤ slots_before st (n + k)
slots-spread st n zero = let e : n + 0 ≡ n = omega arith in omega (arith, ap (slots_before st) e)
slots-spread st n (suc k) =
    let e : n + suc k ≡ suc (n + k) = omega arith in
    omega (arith, ap (slots_before st) e, slots-spread st n k, slots-suc st (n + k), (slot_range st (n + k)).above)

none_before : (st : Settings) → slots_before st 0 ≡ 0
unfolding slots_before
none_before st = refl

pub slots-bound : (st : Settings) (n : ℕ) → slots_before st n ≤ 1420 * n
slots-bound st zero = omega (arith, none_before st)
slots-bound st (suc n) = omega (arith, slots-bound st n, slots-suc st n, (slot_range st n).below)
