-- A whole stream, as the frames that a reader gives in turn.
use Rattle.std.proofs.Common.{◌≡◌, ℕ, zero, suc, ◌<◌, List, [], ◌∷◌, ◌++◌, length, get_or, Option, Some, None, Result, Ok, Err, refl, sym, ap, subst, ◌∙◌, arith, length-append, rules}
use Rattle.std.specs.Prelude.{All, IfSome}
use Rattle.std.proofs.lemmas.Option.{IfSome_then}
use Rattle.std.proofs.lemmas.List.Elements.{All-append, All-from_get_or}
use Rattle.l3_base.specs.declared.settings.Settings.{Settings}
use Rattle.l3_stream.specs.declared.fault.StreamFault.{StreamFault}
use Rattle.l3_stream.specs.declared.fault.StreamFault.TheVariants as faults
use Rattle.l3_stream.specs.declared.unit.ChosenFrame.{ChosenFrame}
use Rattle.l3_stream.specs.Frames.{IsCoded}
use Rattle.l3_stream.specs.Deviation.{reading_of}
use Rattle.l3_frames.specs.Answer.{IsFaultOf}
use Rattle.l3_frames.specs.InTurn.{Progress, BeginsWithFrame, GivesFrame, HasEnded, HasGiven, HasStopped, LeavesBehind, bytes_by, nothing_read, settings_by, still_read}
use Rattle.l3_frames.proofs.InTurn.{given_none, given_more, given_ended, given_refused, given_stopped, given_memory}

-- ---- coded frames

one_get : (f : ChosenFrame) (i : ℕ) → get_or (f ∷ []) i f ≡ f
one_get f zero = refl
one_get f (suc zero) = refl
one_get f (suc (suc i)) = refl

one_coded : (P : ChosenFrame → Type 0) (f : ChosenFrame) → P f → All P (f ∷ [])
one_coded P f one = All-from_get_or P (f ∷ []) f (λ i lt. subst P (sym (one_get f i)) one)

none_coded : (P : ChosenFrame → Type 0) → All P []
none_coded P = search rules

coded_under : (st : Settings) (o : Option Settings) (frames : List ChosenFrame)
    → (o ≡ None → frames ≡ []) → IfSome o (λ s. s ≡ st) → IfSome o (λ s. All (IsCoded s) frames)
    → All (IsCoded st) frames
coded_under st None frames none same coded = subst (All (IsCoded st)) (sym (none refl))
    (none_coded (IsCoded st))
coded_under st (Some s) frames none same coded = subst (λ v. All (IsCoded v) frames) same coded

pub coded_more : (p q : Progress) (f : ChosenFrame) (frames more : List ChosenFrame)
    → GivesFrame p q f → more ≡ frames ++ f ∷ [] → (p.settings ≡ None → frames ≡ [])
    → IfSome p.settings (λ s. All (IsCoded s) frames)
    → IfSome q.settings (λ s. All (IsCoded s) more)
coded_more p q f frames more gives is none coded =
    let st = gives.settings in
    let all : All (IsCoded st) (frames ++ f ∷ []) = All-append (IsCoded st) frames (f ∷ [])
    (coded_under st p.settings frames none gives.same coded)
    (one_coded (IsCoded st) f gives.coded) in
    subst (λ (o : Option Settings). IfSome o (λ s. All (IsCoded s) more)) (sym gives.told)
    (subst (All (IsCoded st)) (sym is) all)

no_settings : (st : Settings) → (Some st) ≡ None → ⊥
no_settings st e = cc

pub some_settings : (p q : Progress) (f : ChosenFrame) → GivesFrame p q f → q.settings ≡ None → ⊥
some_settings p q f gives none = let both = sym gives.told ∙ none in no_settings gives.settings both

pub some_frames : (frames more : List ChosenFrame) (f : ChosenFrame) → more ≡ frames ++ f ∷ []
    → more ≡ [] → ⊥
some_frames frames more f is none = let both : frames ++ f ∷ [] ≡ [] = sym is ∙ none in
    absurd (omega (arith, ap length both, length-append frames (f ∷ [])))

-- ---- faults

fault_unless : {A : Type 0} (fault : StreamFault) (said : Result A StreamFault)
    → ((fault ≡ faults.Read → ⊥) → said ≡ Err fault) → IsFaultOf fault said
fault_unless (faults.BadHeader at) said h = h (λ e. cc)
fault_unless (faults.ShortFrame at) said h = h (λ e. cc)
fault_unless (faults.BadSide at) said h = h (λ e. cc)
fault_unless (faults.BadBegin at) said h = h (λ e. cc)
fault_unless (faults.BadCode bit) said h = h (λ e. cc)
fault_unless (faults.WrongLength bit) said h = h (λ e. cc)
fault_unless (faults.NotZero bit) said h = h (λ e. cc)
fault_unless faults.Read said h = tt
fault_unless faults.Memory said h = tt
fault_unless (faults.TooLong at) said h = h (λ e. cc)

-- ---- what the bytes at the start are read as

module _ (limit : ℕ) (old mid now : Option (List ℕ)) (frames : List ChosenFrame) (p : Progress)
    (given : IfSome old (λ bytes. HasGiven limit bytes frames p mid)) where
  pub so_far_more : (q : Progress) (f : ChosenFrame) (more : List ChosenFrame)
      → more ≡ frames ++ f ∷ [] → GivesFrame p q f
      → IfSome mid (λ left. BeginsWithFrame p q f left now)
      → IfSome old (λ bytes. HasGiven limit bytes more q now)
  so_far_more q f more is gives begins =
      IfSome_then old given (λ bytes h. subst (λ (l : List ChosenFrame). HasGiven limit bytes l q
      now) (sym is) (given_more limit bytes frames p mid h q f now gives begins))

  pub so_far_fault : (fault : StreamFault) → ((fault ≡ faults.Read → ⊥)
      → IfSome mid (λ left. still_read p left ≡ Err fault))
      → IfSome old (λ bytes. IsFaultOf fault (reading_of limit bytes))
  so_far_fault fault said = IfSome_then old given (λ bytes h. fault_unless fault
      (reading_of limit bytes) (λ not. given_refused limit bytes frames p mid h fault (said not)))

  pub so_far_stopped : (fault : StreamFault) → (fault ≡ faults.Memory → ⊥)
      → IfSome mid (λ left. LeavesBehind fault
      (bytes_by (settings_by p.settings left) p.place.number) left now)
      → IfSome old (λ bytes. HasStopped limit bytes fault now)
  so_far_stopped fault not leaves = IfSome_then old given
      (λ bytes h. given_stopped limit bytes frames p mid h fault now not leaves)

  pub so_far_read : IfSome mid (λ left. HasEnded p left now)
      → IfSome old (λ bytes. reading_of limit bytes ≡ Ok (record {
        settings = p.settings;
        frames = frames;
      }))
  so_far_read ended = IfSome_then old given
      (λ bytes h. (given_ended limit bytes frames p mid h now ended).0)

  pub so_far_gone : IfSome mid (λ left. HasEnded p left now) → IfSome old (λ bytes. now ≡ Some [])
  so_far_gone ended = IfSome_then old given
      (λ bytes h. (given_ended limit bytes frames p mid h now ended).1)

pub so_far_memory : (limit : ℕ) (old now : Option (List ℕ)) (frames : List ChosenFrame)
    (p : Progress) (fault : StreamFault) → fault ≡ faults.Memory → 0 < length frames
    → IfSome old (λ bytes. HasGiven limit bytes frames p now)
    → IfSome old (λ bytes. HasStopped limit bytes fault now)
so_far_memory limit old now frames p fault is some given =
    IfSome_then old given (λ bytes h. subst (λ d. HasStopped limit bytes d now) (sym is)
    (given_memory limit bytes frames p now h some))

pub so_far_none : (limit : ℕ) (old : Option (List ℕ)) (p : Progress) (frames : List ChosenFrame)
    → p ≡ nothing_read limit → frames ≡ [] → IfSome old (λ bytes. HasGiven limit bytes frames p old)
so_far_none limit None p frames start none = tt
so_far_none limit (Some bytes) p frames start none =
    subst (λ (l : List ChosenFrame). HasGiven limit bytes l p (Some bytes)) (sym none)
    (subst (λ (v : Progress). HasGiven limit bytes [] v (Some bytes)) (sym start)
    (given_none limit bytes))
