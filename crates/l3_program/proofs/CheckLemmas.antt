-- What `check` adds up, and what its reading says.
use Rattle.std.proofs.Common.{◌≡◌, ◌∙◌, sym, ap, ℕ, ◌+◌, List, [], ◌∷◌, ◌++◌, length, subst, arith, length-append}
use Rattle.std.proofs.lemmas.List.Sums.{sum_by-append}
use Rattle.std.specs.Prelude.{sum_by, Option, Some, None, IfSome, IfErr, Result, Err}
use Rattle.l3_stream.specs.declared.fault.StreamFault.{StreamFault}
use Rattle.l3_stream.specs.declared.fault.StreamFault.TheVariants as faults
use Rattle.l3_stream.specs.declared.unit.ChosenFrame.{ChosenFrame}
use Rattle.l3_stream.specs.Frames.{main_data_length}
use Rattle.l3_stream.specs.Deviation.{deviation_of, fault_in}
use Rattle.l3_frames.specs.InTurn.{Progress, BeginsWithFrame, GivesFrame, HasGiven, HasEnded, HasStopped, LeavesBehind, bytes_by, nothing_read, settings_by, still_read}
use Rattle.l3_frames.proofs.InTurn.{given_none, given_more, given_ended, given_refused, given_stopped}
use Rattle.l3_program.specs.declared.check.Totals.{Totals}
use Rattle.l3_program.specs.Check.{AddsUp, bits_of_frames, frames_limit, reading_in, deviation_in}

-- some frames were given of these bytes, and they add up to this
pub record IsSummed (bytes : List ℕ) (totals : Totals) (p : Progress) (left : Option (List ℕ)) : Type 0 where
  pub so_far : List ChosenFrame
  pub given : HasGiven frames_limit bytes so_far p left
  pub frames : totals.frames ≡ length so_far
  pub bits : totals.bits ≡ bits_of_frames so_far

pub when_some : {X : Type 0} (o : Option X) (x : X) (P : X → Type 0) → o ≡ Some x → IfSome o P → P x
when_some o x P is h = subst (λ y. IfSome y P) is h

pub when_err : {T : Type 0} (r : Result T StreamFault) (fault : StreamFault) (P : StreamFault → Type 0) → r ≡ Err fault → P fault → IfErr r P
when_err r fault P is h = subst (λ y. IfErr y P) (sym is) h

-- before the first frame
pub summed_first : (old : Option (List ℕ)) (totals : Totals) (p : Progress) → p ≡ nothing_read frames_limit → totals.frames ≡ 0 → totals.bits ≡ 0 →
    IfSome old (λ bytes. IsSummed bytes totals p old)
summed_first None totals p start frames bits = tt
summed_first (Some bytes) totals p start frames bits = rw start (record {
  so_far = [];
  given = given_none frames_limit bytes;
  frames = frames;
  bits = bits;
})

one_more : (f : ChosenFrame) → sum_by main_data_length (f ∷ []) ≡ main_data_length f
one_more f = omega arith

-- behind one frame more
pub summed_more : (old left now : Option (List ℕ)) (totals more : Totals) (p q : Progress) (f : ChosenFrame) → IfSome old (λ bytes. IsSummed bytes totals p left) →
    GivesFrame p q f → IfSome left (λ l. BeginsWithFrame p q f l now) → more.frames ≡ totals.frames + 1 → more.bits ≡ totals.bits + main_data_length f →
    IfSome old (λ bytes. IsSummed bytes more q now)
summed_more None left now totals more p q f summed gives begins frames bits = tt
summed_more (Some bytes) left now totals more p q f summed gives begins frames bits = record {
  so_far = summed.so_far ++ f ∷ [];
  given = given_more frames_limit bytes summed.so_far p left summed.given q f now gives begins;
  frames = frames ∙ (ap (λ n. n + 1) summed.frames ∙ sym (length-append summed.so_far (f ∷ [])));
  bits = bits ∙ (ap (λ n. n + main_data_length f) summed.bits ∙ sym (sum_by-append main_data_length summed.so_far (f ∷ []) ∙ ap (λ n. bits_of_frames summed.so_far + n) (one_more f)));
}

-- behind the last frame
pub adds_up : (old left now : Option (List ℕ)) (totals : Totals) (p : Progress) → IfSome old (λ bytes. IsSummed bytes totals p left) → IfSome left (λ l. HasEnded p l now) →
    IfSome old (AddsUp totals)
adds_up None left now totals p summed ended = tt
adds_up (Some bytes) left now totals p summed ended = record {
  content = record { settings = p.settings; frames = summed.so_far };
  reading = (given_ended frames_limit bytes summed.so_far p left summed.given now ended).0;
  frames = summed.frames;
  bits = summed.bits;
}

-- and what is left there
pub none_left : (old left now : Option (List ℕ)) (totals : Totals) (p : Progress) → IfSome old (λ bytes. IsSummed bytes totals p left) → IfSome left (λ l. HasEnded p l now) →
    IfSome old (λ bytes. now ≡ Some [])
none_left None left now totals p summed ended = tt
none_left (Some bytes) left now totals p summed ended = (given_ended frames_limit bytes summed.so_far p left summed.given now ended).1

deviation_is : (bytes : List ℕ) (fault : StreamFault) → reading_in bytes ≡ Err fault → deviation_in bytes ≡ Some fault
unfolding deviation_of
deviation_is bytes fault is = ap fault_in is

-- the fault at which reading stops is the stream's first deviation
pub deviates : (old left : Option (List ℕ)) (totals : Totals) (p : Progress) (fault : StreamFault) → IfSome old (λ bytes. IsSummed bytes totals p left) →
    IfSome left (λ l. still_read p l ≡ Err fault) → IfSome old (λ bytes. deviation_in bytes ≡ Some fault)
deviates None left totals p fault summed refused = tt
deviates (Some bytes) left totals p fault summed refused = deviation_is bytes fault (given_refused frames_limit bytes summed.so_far p left summed.given fault refused)

-- and what is left there
pub stopped : (old left now : Option (List ℕ)) (totals : Totals) (p : Progress) (fault : StreamFault) → (fault ≡ faults.Memory → ⊥) →
    IfSome old (λ bytes. IsSummed bytes totals p left) → IfSome left (λ l. LeavesBehind fault (bytes_by (settings_by p.settings l) p.place.number) l now) →
    IfSome old (λ bytes. HasStopped frames_limit bytes fault now)
stopped None left now totals p fault other summed leaves = tt
stopped (Some bytes) left now totals p fault other summed leaves = given_stopped frames_limit bytes summed.so_far p left summed.given fault now other leaves
