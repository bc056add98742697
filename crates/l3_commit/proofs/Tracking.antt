-- What a track keeps.
use Rattle.std.proofs.Common.{◌≡◌, ◌∙◌, sym, ap, subst, refl, ℕ, zero, suc, ◌+◌, ◌*◌, ◌^◌, ◌<◌, ◌≤◌, List, [], ◌∷◌, ◌++◌, length, take, slice_set, arith, length-append, lit≤, add-one}
use Rattle.std.specs.Prelude.{ℤ, Bool, true, false, if◌then◌else◌}
use Rattle.std.proofs.lemmas.List.Elements.{All-cons, All-nil, All-append}
use Rattle.std.proofs.lemmas.List.{take_all, length-take}
use Rattle.std.proofs.Math.Nat.{div-le_self}
use Rattle.std.proofs.Math.Seq.{take-suc-set}
use Rattle.l3_base.specs.declared.settings.Settings.{Settings}
use Rattle.l3_base.specs.declared.rate.Rate.{Rate}
use Rattle.l3_base.specs.declared.rate.Rate.TheVariants.{K32, K40, K48, K56, K64, K80, K96, K112, K128, K160, K192, K224, K256, K320}
use Rattle.l3_base.specs.declared.rate.Channels.{Channels}
use Rattle.l3_base.specs.declared.rate.Channels.TheVariants.{Mono, Stereo}
use Rattle.l3_base.specs.Rates.{channels_of, kbits_of, hertz_of}
use Rattle.l3_base.specs.Lengths.{mean_bits_of, mmax_of, slot_bytes_of, slots_before, is_padded}
use Rattle.l3_search.specs.Budget.{begin_after, left_by}
use Rattle.l3_stream.specs.declared.unit.Unit.{Unit}
use Rattle.l3_stream.specs.declared.unit.ChosenFrame.{ChosenFrame}
use Rattle.l3_stream.specs.Units.{lengths}
use Rattle.l3_stream.specs.Coded.{IsCodedGranule}
use Rattle.l3_stream.specs.Frames.{code_bits}
use Rattle.l3_commit.specs.Choice.{granule_chosen, after_granule, AreOfChannels}
use Rattle.l3_stream.specs.Tape.{CanFollow}
use Rattle.l3_commit.specs.Tracks.{TrackView, IsTrack, granules_length, with_granule, with_frame_ended}
use Rattle.l3_stream.proofs.Following.{CanFollow-more}
use Rattle.l3_commit.proofs.Keeping.{granule-kept, granule-coded, shares-slot, mmax-near, all-granules, whole-coded, whole-bits}

kbits-small : (r : Rate) → kbits_of r ≤ 320
kbits-small K32 = lit≤ tt
kbits-small K40 = lit≤ tt
kbits-small K48 = lit≤ tt
kbits-small K56 = lit≤ tt
kbits-small K64 = lit≤ tt
kbits-small K80 = lit≤ tt
kbits-small K96 = lit≤ tt
kbits-small K112 = lit≤ tt
kbits-small K128 = lit≤ tt
kbits-small K160 = lit≤ tt
kbits-small K192 = lit≤ tt
kbits-small K224 = lit≤ tt
kbits-small K256 = lit≤ tt
kbits-small K320 = lit≤ tt

padding-small : (b : Bool) → (if b then 1 else 0) ≤ 1
padding-small true = lit≤ tt
padding-small false = lit≤ tt

pub mean-small : (st : Settings) (n : ℕ) → mean_bits_of st n ≤ 500000000
mean-small st n =
    let kbits = kbits-small st.rate in
    let base = div-le_self (144000 * kbits_of st.rate) (hertz_of st.sample_rate) in
    let padding = padding-small (is_padded st n) in
    let share = div-le_self (8 * slot_bytes_of st n) (2 * channels_of st.channels) in
    omega arith

-- a unit leaves little more of the reserve than there was
pub left-small : (reserve mean used after : ℕ) → mean ≤ 500000000 → after ≡ left_by reserve mean used → after < reserve + 2 ^ 32
left-small reserve mean used after small is = omega (arith, is)

-- one more granule
kept-more : (ch : Channels) (mean begin r next : ℕ) (gs : List (List Unit)) (g : List Unit) → length gs < 2
    → granules_length gs + r ≡ 8 * begin + mean * (channels_of ch * length gs)
    → lengths g + next ≡ r + mean * channels_of ch
    → granules_length (gs ++ (g ∷ [])) + next ≡ 8 * begin + mean * (channels_of ch * length (gs ++ (g ∷ [])))
kept-more Mono mean begin r next [] g few before own = omega arith
kept-more Stereo mean begin r next [] g few before own = omega arith
kept-more Mono mean begin r next (f ∷ []) g few before own = omega arith
kept-more Stereo mean begin r next (f ∷ []) g few before own = omega arith
kept-more ch mean begin r next (f ∷ (h ∷ gs)) g few before own = absurd (omega arith)

pub IsTrack-more : (t : TrackView) (lines : ℕ → List ℤ) → AreOfChannels t.settings.channels lines → IsTrack t → length t.granules < 2 → t.frame ≤ 4294967296
    → IsTrack (with_granule t lines)
IsTrack-more t lines spectra is few number =
    let g = granule_chosen t.settings t.frame t.reserve lines in
    let P = IsCodedGranule t.settings t.settings.channels in
    let long = length-append t.granules (g ∷ []) in
    record {
      few = omega (arith, long);
      number = omega (arith, long);
      begin = is.begin;
      reached = is.reached;
      each = All-append P t.granules (g ∷ []) is.each (All-cons P g [] (granule-coded t.settings t.frame t.reserve lines spectra) (All-nil P));
      kept =
          kept-more t.settings.channels (mean_bits_of t.settings t.frame) t.begin t.reserve (after_granule t.settings t.frame t.reserve lines) t.granules g few is.kept
          (granule-kept t.settings t.frame t.reserve lines spectra);
    }

reserve-by : (ch : Channels) (mean begin r all k : ℕ) → mean ≤ 500000000 → begin ≤ 511 → k ≤ 2 → all + r ≡ 8 * begin + mean * (channels_of ch * k) → r < 2000010000
reserve-by Mono mean begin r all zero a b c e = omega arith
reserve-by Mono mean begin r all (suc zero) a b c e = omega arith
reserve-by Mono mean begin r all (suc (suc zero)) a b c e = omega arith
reserve-by Mono mean begin r all (suc (suc (suc k))) a b c e = absurd (omega arith)
reserve-by Stereo mean begin r all zero a b c e = omega arith
reserve-by Stereo mean begin r all (suc zero) a b c e = omega arith
reserve-by Stereo mean begin r all (suc (suc zero)) a b c e = omega arith
reserve-by Stereo mean begin r all (suc (suc (suc k))) a b c e = absurd (omega arith)

at-most : (a b c : ℕ) → a ≤ b → b ≤ c → a ≤ c
at-most a b c e f = omega arith

begin-near : (t : TrackView) → IsTrack t → t.begin ≤ 511
begin-near t is = at-most t.begin (mmax_of t.settings) 511 is.begin (mmax-near t.settings)

pub reserve-small : (t : TrackView) → IsTrack t → t.reserve < 2000010000
reserve-small t is =
    reserve-by t.settings.channels (mean_bits_of t.settings t.frame) t.begin t.reserve (granules_length t.granules) (length t.granules) (mean-small t.settings t.frame) (begin-near t is) is.few is.kept

ended-kept : (ch : Channels) (mean r : ℕ) → 0 + r ≡ r + mean * (channels_of ch * 0)
ended-kept Mono mean r = omega arith
ended-kept Stereo mean r = omega arith

begin_after-near : (reserve limit : ℕ) → begin_after reserve limit ≤ limit
begin_after-near reserve limit = omega arith

begin_after-small : (reserve limit : ℕ) → 8 * begin_after reserve limit ≤ reserve
begin_after-small reserve limit = omega arith

-- the whole bytes that a frame leaves are of the slots up to its own
begin_after-reached : (bits reserve limit begin before slot : ℕ) → bits + reserve ≡ 8 * begin + 8 * slot → begin ≤ before → begin_after reserve limit ≤ before + slot
begin_after-reached bits reserve limit begin before slot kept reached = omega arith

slots-next : (st : Settings) (n : ℕ) → slots_before st (n + 1) ≡ slots_before st n + slot_bytes_of st n
unfolding slots_before
slots-next st n = ap (slots_before st) (add-one n)

-- the code bits of a track's whole frame and what is left of the reserve
kept-whole : (t : TrackView) → IsTrack t → length t.granules ≡ 2 → granules_length t.granules + t.reserve ≡ 8 * t.begin + 8 * slot_bytes_of t.settings t.frame
kept-whole t is two =
    let share : mean_bits_of t.settings t.frame * (channels_of t.settings.channels * length t.granules) ≡ 8 * slot_bytes_of t.settings t.frame =
    ap (λ k. mean_bits_of t.settings t.frame * (channels_of t.settings.channels * k)) two ∙ shares-slot t.settings t.frame in
    is.kept ∙ ap (λ k. 8 * t.begin + k) share

pub IsTrack-ended : (t : TrackView) → IsTrack t → length t.granules ≡ 2 → t.frame ≤ 4294967296 → IsTrack (with_frame_ended t)
IsTrack-ended t is two number = record {
  few = lit≤ tt;
  number = omega arith;
  begin = begin_after-near t.reserve (mmax_of t.settings);
  reached =
      subst (λ (k : ℕ). begin_after t.reserve (mmax_of t.settings) ≤ k) (sym (slots-next t.settings t.frame))
      (begin_after-reached (granules_length t.granules) t.reserve (mmax_of t.settings) t.begin (slots_before t.settings t.frame) (slot_bytes_of t.settings t.frame) (kept-whole t is two) is.reached);
  each = All-nil (IsCodedGranule t.settings t.settings.channels);
  kept = ended-kept t.settings.channels (mean_bits_of t.settings (t.frame + 1)) (8 * begin_after t.reserve (mmax_of t.settings));
}

-- a frame that is whole follows whatever frames it can follow
pub follows-ended : (t : TrackView) → IsTrack t → length t.granules ≡ 2 → (fs : List ChosenFrame) → CanFollow t.settings t.frame t.begin fs
    → CanFollow t.settings (t.frame + 1) (begin_after t.reserve (mmax_of t.settings)) (fs ++ (record { begin = t.begin; units = t.granules } ∷ []))
follows-ended t is two fs before =
    let f : ChosenFrame = record { begin = t.begin; units = t.granules } in
    let whole = all-granules t.settings t.settings.channels t.granules two is.each in
    let next = begin_after t.reserve (mmax_of t.settings) in
    let kept = kept-whole t is two in
    let bits : length (code_bits t.settings f) + t.reserve ≡ 8 * t.begin + 8 * slot_bytes_of t.settings t.frame = ap (λ k. k + t.reserve) (whole-bits t.settings t.begin t.granules whole) ∙ kept in
    let more = CanFollow-more t.settings t.frame t.begin t.reserve next f fs refl (begin-near t is) (whole-coded t.settings t.begin t.granules whole) bits (begin_after-small t.reserve (mmax_of t.settings)) before in
    subst (λ (n : ℕ). CanFollow t.settings n next (fs ++ (f ∷ []))) (sym (add-one t.frame)) more

-- granules as a track holds them
pub taken-whole : {A : Type 0} (k : ℕ) (xs : List A) → length xs ≡ 2 → length (take k xs) ≡ 2 → take k xs ≡ xs
taken-whole k xs two taken =
    let long = length-take k xs in
    take_all k xs (omega arith)

pub taken-more : {A : Type 0} (k : ℕ) (xs : List A) (x : A) → k < length xs → take (k + 1) (slice_set xs k x) ≡ take k xs ++ (x ∷ [])
taken-more k xs x below = rw add-one (take-suc-set xs k x below)

pub taken-length : {A : Type 0} (k : ℕ) (xs : List A) → length xs ≡ 2 → k ≤ 2 → length (take k xs) ≡ k
taken-length k xs two few =
    let long = length-take k xs in
    omega arith

-- a track whose frame ended, by its parts
pub ended-view : (t now : TrackView) (begin reserve : ℕ) (granules : List (List Unit)) → t ≡ now → begin ≡ begin_after t.reserve (mmax_of t.settings)
    → reserve ≡ 8 * begin → granules ≡ []
    → (let made : TrackView = record { settings = t.settings; frame = t.frame + 1; begin = begin; reserve = reserve; granules = granules } in made ≡ with_frame_ended now)
ended-view t now begin reserve granules is b r g =
    let r' : reserve ≡ 8 * begin_after t.reserve (mmax_of t.settings) = r ∙ ap (λ k. 8 * k) b in
    rw (r', b, g) (ap with_frame_ended is)

-- a track with one more granule keeps what a track keeps, by its parts
pub kept-granule : (t : TrackView) (lines : ℕ → List ℤ) (reserve : ℕ) (granules : List (List Unit)) → AreOfChannels t.settings.channels lines → IsTrack t → length t.granules < 2
    → t.frame ≤ 4294967296 → reserve ≡ after_granule t.settings t.frame t.reserve lines → granules ≡ t.granules ++ (granule_chosen t.settings t.frame t.reserve lines ∷ [])
    → (let made : TrackView = record { settings = t.settings; frame = t.frame; begin = t.begin; reserve = reserve; granules = granules } in IsTrack made)
kept-granule t lines reserve granules spectra is few number r g = rw (r, g) (IsTrack-more t lines spectra is few number)

-- so does one whose frame ended
pub kept-ended : (t : TrackView) (begin reserve : ℕ) → IsTrack t → length t.granules ≡ 2 → begin ≡ begin_after t.reserve (mmax_of t.settings) → reserve ≡ 8 * begin
    → (let made : TrackView = record { settings = t.settings; frame = t.frame + 1; begin = begin; reserve = reserve; granules = [] } in IsTrack made)
kept-ended t begin reserve is two b r =
    let number = is.number in
    let r' : reserve ≡ 8 * begin_after t.reserve (mmax_of t.settings) = r ∙ ap (λ k. 8 * k) b in
    rw (r', b) (IsTrack-ended t is two (omega (arith, two, number)))
