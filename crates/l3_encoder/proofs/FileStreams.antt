-- What a file is encoded to, against the bytes of the file.
use Rattle.std.proofs.Common.{◌≡◌, refl, ap, subst, ℕ, zero, suc, ◌+◌, ◌≤◌, ◌^◌, arith, inl, inr}
use Rattle.std.proofs.Common.{List, [], ◌∷◌, ℤ, pos, negsuc, length}
use Rattle.std.specs.Prelude.{All, FitsSigned, unsigned_abs, Some, None, Result, Ok, Err, nat_eq}
use Rattle.std.proofs.lemmas.Bool.{cases_Bool}
use Rattle.std.specs.Int.{w16}
use Rattle.std.specs.List.{slice_get}
use Rattle.std.proofs.lemmas.Option.{same_Some}
use Rattle.std.proofs.lemmas.List.Elements.{All-weaker}
use Rattle.l3_base.specs.declared.rate.Rate.{Rate}
use Rattle.l3_base.specs.declared.settings.Settings.{Settings}
use Rattle.l3_base.specs.Lengths.{slots_before, frames_for}
use Rattle.l3_wav.specs.declared.head.WavHead.{WavHead}
use Rattle.l3_wav.specs.declared.fault.WavFault.{WavFault}
use Rattle.l3_wav.specs.Wav.{wav_of}
use Rattle.l3_wav.proofs.FileLemmas.{file_channels}
use Rattle.l3_stream.specs.declared.unit.ChosenFrame.{ChosenFrame}
use Rattle.l3_stream.specs.Tape.{FitsAt, FramesFit, end_of}
use Rattle.l3_stream.specs.Deviation.{content_of, reading_of, fault_in, deviation_of}
use Rattle.l3_stream.proofs.StreamReading.{reading_again}
use Rattle.l3_commit.specs.Encoding.{frames_chosen, encoding_of}
use Rattle.l3_commit.specs.Laws.{AreSamples}
use Rattle.l3_commit.proofs.Encodings.{chosen-fit, chosen-alone}
use Rattle.l3_encoder.specs.Encoded.{settings_with, left_in, right_in, encoding_by}
use Rattle.l3_encoder.specs.FileLaws.{read_limit, BeginsAreWithin, IsStreamOf, FilesAreEncoded}

-- ---- where frames begin

begins-at : (st : Settings) (n end : ℕ) (fs : List ChosenFrame) → FramesFit st n end fs →
    (k m : ℕ) (f : ChosenFrame) → m ≡ n + k → slice_get fs k ≡ Some f → (f.begin ≤ 511) × (f.begin ≤ slots_before st m)
begins-at st n end [] fit k m f place is = absurd cc
begins-at st n end (g ∷ fs) fit zero m f place is =
    let here : FitsAt st n end g = fit.0 in
    let same : g ≡ f = same_Some g f is in
    let number : n ≡ m = omega (arith, place) in
    subst (λ (h : ChosenFrame). (h.begin ≤ 511) × (h.begin ≤ slots_before st m)) same
    (here.small, subst (λ (i : ℕ). g.begin ≤ slots_before st i) number here.reached)
begins-at st n end (g ∷ fs) fit (suc k) m f place is =
    begins-at st (suc n) (end_of st n g) fs fit.1 k m f (omega (arith, place)) is

begins-within : (st : Settings) (fs : List ChosenFrame) → FramesFit st 0 0 fs →
    BeginsAreWithin st fs
begins-within st fs fit n f is = begins-at st 0 0 fs fit n n f (omega arith) is

-- ---- the stream of samples, and of a file

frames-small : (n : ℕ) → n ≤ 2147483647 → frames_for n ≤ 1864137
frames-small n few =
    elim (cases_Bool (nat_eq n 0)) [
      | inl e ↦ rw e (omega arith)
      | inr e ↦ rw e (omega arith)
    ]

sample-small : (x : ℤ) → FitsSigned w16 x → unsigned_abs x ≤ 2 ^ 15
sample-small (pos n) fits = omega (arith, fits)
sample-small (negsuc n) fits = omega (arith, fits)

pub samples-within : (samples : List ℤ) → All (FitsSigned w16) samples → AreSamples samples
samples-within samples fit =
    All-weaker (FitsSigned w16) (λ x. unsigned_abs x ≤ 2 ^ 15) sample-small samples fit

chosen-number : (st : Settings) (left right : List ℤ) → AreSamples left → AreSamples right →
    length (frames_chosen st left right) ≡ frames_for (length left)
chosen-number st left right l r = (chosen-fit st left right l r).number

content-whole : (st : Settings) (fs : List ChosenFrame) (stream : List ℕ) →
    reading_of read_limit stream ≡ Ok (content_of st fs) → deviation_of read_limit stream ≡ None
unfolding deviation_of
content-whole st fs stream read = ap fault_in read

chosen-stream : (st : Settings) (left right : List ℤ) → AreSamples left → AreSamples right →
    length left ≤ 2147483647 →
    IsStreamOf st (frames_chosen st left right) (encoding_of st left right)
chosen-stream st left right l r small =
    let fs = frames_chosen st left right in
    let stream = encoding_of st left right in
    let is = chosen-fit st left right l r in
    let few : length fs ≤ read_limit = omega (arith, is.number, frames-small (length left) small) in
    let read = reading_again read_limit stream st fs few is.spells in
    record {
      spells = is.spells;
      alone = λ other others spells. chosen-alone st other left right others l r spells;
      read = read;
      whole = content-whole st fs stream read;
      begins = begins-within st fs is.fit;
    }

-- the head that an encoding is of
record IsEncodedBy (rate : Rate) (said : Result WavHead WavFault) (bytes stream : List ℕ) : Type 0 where
  head : WavHead
  accepted : said ≡ Ok head
  encoded :
      encoding_of (settings_with rate head) (left_in head bytes) (right_in head bytes) ≡ stream

encoded-by : (rate : Rate) (said : Result WavHead WavFault) (bytes stream : List ℕ) →
    encoding_by rate said bytes ≡ Some stream → IsEncodedBy rate said bytes stream
encoded-by rate (Ok head) bytes stream is = record {
  head = head;
  accepted = refl;
  encoded = same_Some
      (encoding_of (settings_with rate head) (left_in head bytes) (right_in head bytes)) stream is;
}
encoded-by rate (Err why) bytes stream is = absurd cc

pub files-encoded : FilesAreEncoded
files-encoded rate bytes stream all is =
    let by = encoded-by rate (wav_of bytes) bytes stream is in
    let st = settings_with rate by.head in
    let left = left_in by.head bytes in
    let right = right_in by.head bytes in
    let samples = file_channels bytes by.head all by.accepted in
    let l = samples-within left samples.left in
    let r = samples-within right samples.right in
    record {
      head = by.head;
      accepted = by.accepted;
      samples = samples;
      number = chosen-number st left right l r;
      chosen = subst (λ (bs : List ℕ). IsStreamOf st (frames_chosen st left right) bs) by.encoded
          (chosen-stream st left right l r samples.few);
    }
