-- Values and samples are numbers of 16 bits.
use Rattle.std.proofs.Common.{◌≡◌, ◌∙◌, sym, ℕ, suc, ◌+◌, ◌*◌, ◌<◌, ◌≤◌, List, [], ◌∷◌, ◌++◌, ℤ, get_or, length, take, All, FitsSigned, w16, arith}
use Rattle.std.proofs.lemmas.List.{append-nil, take-append-le, take_all}
use Rattle.std.proofs.lemmas.List.Elements.{All-nil, All-cons, All-head, All-tail, All-same, All-append}
use Rattle.std.proofs.Math.Facts.{sfits_to_z}
use Rattle.std.proofs.Math.Seq.{take-length}
use borrow.Rule.Slice.PartMut.{put_mid}
use Rattle.l3_io.proofs.ReadLemmas.{take-put_mid-add}
use Rattle.l3_base.specs.declared.rate.Channels.{Channels}
use Rattle.l3_base.specs.declared.rate.Channels.TheVariants.{Mono, Stereo}
use Rattle.l3_wav.specs.Pcm.{firsts, seconds, left_of, right_of}
use Rattle.l3_wav.specs.Samples.{value_of, values_of}

pub value_of-fits : (low high : ℕ) → low < 256 → high < 256 → FitsSigned w16 (value_of low high)
value_of-fits low high l h = sfits_to_z (omega (arith, l, h))

pub values_of-fit : (bytes : List ℕ) → ((i : ℕ) → get_or bytes i 0 < 256) → All (FitsSigned w16) (values_of bytes)
values_of-fit [] small = All-nil (FitsSigned w16)
values_of-fit (low ∷ []) small = All-nil (FitsSigned w16)
values_of-fit (low ∷ high ∷ rest) small = All-cons (FitsSigned w16) (value_of low high) (values_of rest) (value_of-fits low high (small 0) (small 1)) (values_of-fit rest (λ i. small (suc (suc i))))

-- at the end of the bytes all values were decoded
pub decoded_fit : (n : ℕ) (out : List ℤ) (rest bytes : List ℕ) → length rest + 2 * n ≡ 2 * length out → length out ≤ n → take n out ++ values_of rest ≡ values_of bytes →
    ((i : ℕ) → get_or bytes i 0 < 256) → All (FitsSigned w16) out
decoded_fit n out [] bytes long most is small =
    All-same (FitsSigned w16) _ _ (sym (take_all n out most) ∙ (sym (append-nil (take n out)) ∙ is)) (values_of-fit bytes small)
decoded_fit n out (a ∷ rest) bytes long most is small = absurd (omega (arith, long, most))

-- some were added behind those before
pub added_fit : (before now more : List ℤ) → now ≡ before ++ more → All (FitsSigned w16) before → All (FitsSigned w16) more → All (FitsSigned w16) now
added_fit before now more is first last = All-same (FitsSigned w16) _ _ is (All-append (FitsSigned w16) before more first last)

-- the values that were written in front
pub front_fits : (count : ℕ) (values rest : List ℤ) → length values ≡ count → All (FitsSigned w16) values → All (FitsSigned w16) (take count (values ++ rest))
front_fits count values rest long fit = All-same (FitsSigned w16) _ _ (rw (← long) (take-append-le (length values) values rest (omega arith) ∙ take-length values)) fit

-- a block was read after the values so far
pub block_fits : (count k w : ℕ) (buffer block : List ℤ) → count ≤ length buffer → k ≤ length block →
    All (FitsSigned w16) (take count buffer) → All (FitsSigned w16) (take k block) → All (FitsSigned w16) (take (count + k) (put_mid count w buffer block))
block_fits count k w buffer block room fits before now =
    added_fit (take count buffer) _ (take k block) (take-put_mid-add count k w buffer block room fits) before now

firsts-fit : (values : List ℤ) → All (FitsSigned w16) values → All (FitsSigned w16) (firsts values)
firsts-fit [] fit = fit
firsts-fit (x ∷ []) fit = fit
firsts-fit (x ∷ y ∷ values) fit =
    let rest = firsts-fit values (All-tail (FitsSigned w16) y values (All-tail (FitsSigned w16) x (y ∷ values) fit)) in
    All-cons (FitsSigned w16) x (firsts values) (All-head (FitsSigned w16) x (y ∷ values) fit) rest

seconds-fit : (values : List ℤ) → All (FitsSigned w16) values → All (FitsSigned w16) (seconds values)
seconds-fit [] fit = fit
seconds-fit (x ∷ []) fit = All-nil (FitsSigned w16)
seconds-fit (x ∷ y ∷ values) fit =
    let others = All-tail (FitsSigned w16) x (y ∷ values) fit in
    All-cons (FitsSigned w16) y (seconds values) (All-head (FitsSigned w16) y values others) (seconds-fit values (All-tail (FitsSigned w16) y values others))

pub left_of-fit : (channels : Channels) (values : List ℤ) → All (FitsSigned w16) values → All (FitsSigned w16) (left_of channels values)
left_of-fit Mono values fit = fit
left_of-fit Stereo values fit = firsts-fit values fit

pub right_of-fit : (channels : Channels) (values : List ℤ) → All (FitsSigned w16) values → All (FitsSigned w16) (right_of channels values)
right_of-fit Mono values fit = All-nil (FitsSigned w16)
right_of-fit Stereo values fit = seconds-fit values fit
