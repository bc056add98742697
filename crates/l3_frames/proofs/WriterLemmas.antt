-- What the calls of a writer give, and the writer before its first frame.
use Rattle.std.proofs.Common.{◌≡◌, ℕ, ◌<◌, ◌^◌, false, List, [], ◌++◌, length, take, refl, sym, ap, ◌∙◌, arith, append_assoc}
use Rattle.std.specs.Prelude.{Result, Ok, Err, OnOk, OnErr}
use Rattle.std.proofs.lemmas.List.Elements.{All-nil}
use Rattle.l3_base.specs.declared.settings.Settings.{Settings}
use Rattle.l3_base.specs.Lengths.{slots_before}
use Rattle.l3_io.specs.Taken.{Writes}
use Rattle.l3_stream.specs.declared.unit.ChosenFrame.{ChosenFrame}
use Rattle.l3_stream.specs.Tape.{FitsAt, joined, stream_of}
use Rattle.l3_frames.specs.declared.pending.Pending.{Pending}
use Rattle.l3_frames.specs.Writing.{Writing, first_of, owed, GivesFirst, GivesFront}
use Rattle.l3_frames.specs.Pending.{writing_of, IsWriting, IsPending, IsShort, IsPushed, Gives, GivesPart}
use Rattle.l3_frames.proofs.NotedLemmas.{noted_owes}
use Rattle.l3_frames.proofs.GivenLemmas.{AreSettledIn, IsGiven, given_owes}

-- ---- frames given

pub given_ok : {T E : Type 0} (old new : List ℕ → Type 0) (r : Result T E) (w now : Writing) (k bytes : ℕ) → IsWriting w → AreSettledIn w k bytes → IsGiven w k bytes now →
    Writes old new r (joined w.settings (first_of w) (take k w.heads) w.slots) → OnOk r (Gives old new w now)
given_ok old new (Ok v) w now k bytes sound settled is written =
    (joined w.settings (first_of w) (take k w.heads) w.slots, written, λ fs. given_owes w now k bytes fs sound settled is)
given_ok old new (Err e) w now k bytes sound settled is written = tt

pub given_front : {T E : Type 0} (old new : List ℕ → Type 0) (r : Result T E) (w now : Writing) (k bytes : ℕ) → IsWriting w → AreSettledIn w k bytes → IsGiven w k bytes now →
    Writes old new r (joined w.settings (first_of w) (take k w.heads) w.slots) → OnErr r (GivesPart old new w)
given_front old new (Ok v) w now k bytes sound settled is written = tt
given_front old new (Err e) w now k bytes sound settled is written = (
  written.0,
  written.3,
  λ fs. (
    written.1 ++ owed now fs,
    sym (append_assoc written.0 written.1 (owed now fs)) ∙ (ap (λ l. l ++ owed now fs) written.2 ∙ sym (given_owes w now k bytes fs sound settled is)),
  ),
)

-- ---- a frame pushed

pub pushed_ok : {T E : Type 0} (old new : List ℕ → Type 0) (r : Result T E) (w noted after : Writing) (f : ChosenFrame) → IsWriting w → FitsAt w.settings w.frames w.end f → IsPushed w f noted →
    OnOk r (Gives old new noted after) → OnOk r (GivesFirst old new w after f)
pushed_ok old new (Ok v) w noted after f sound fit is gives = (gives.0, gives.1, λ fs behind. noted_owes w noted f fs sound fit is behind ∙ gives.2 fs)
pushed_ok old new (Err e) w noted after f sound fit is gives = tt

pub pushed_front : {T E : Type 0} (old new : List ℕ → Type 0) (r : Result T E) (w noted : Writing) (f : ChosenFrame) → IsWriting w → FitsAt w.settings w.frames w.end f → IsPushed w f noted →
    OnErr r (GivesPart old new noted) → OnErr r (GivesFront old new w f)
pushed_front old new (Ok v) w noted f sound fit is gives = tt
pushed_front old new (Err e) w noted f sound fit is gives = (
  gives.0,
  gives.1,
  λ fs behind. ((gives.2 fs).0, (gives.2 fs).1 ∙ sym (noted_owes w noted f fs sound fit is behind)),
)

-- ---- before the first frame

abbrev pub first_writing : Settings → Writing
first_writing st = record { settings = st; frames = 0; end = 0; heads = []; slots = []; failed = false }

pub first_owes : (st : Settings) (fs : List ChosenFrame) → owed (first_writing st) fs ≡ stream_of st fs
unfolding slots_before
first_owes st fs = refl

first_is_sound : (st : Settings) → IsWriting (first_writing st)
unfolding slots_before
first_is_sound st = record { heads = omega arith; slots = refl; bytes = All-nil (λ byte. byte < 2 ^ 8); end = omega arith; zeros = refl; near = omega arith }

none_before : (st : Settings) → slots_before st 0 ≡ 0
unfolding slots_before
none_before st = refl

pub first_is_kept : (p : Pending) (st : Settings) → writing_of p false ≡ first_writing st → p.before ≡ 0 → IsPending p × IsShort (writing_of p false)
first_is_kept p st is none =
    let frames : p.frames ≡ 0 = ap (λ (w : Writing). w.frames) is in
    let heads : length p.heads.items ≡ 0 = ap (λ (w : Writing). length w.heads) is in
    let slots : length p.slots ≡ 0 = ap (λ (w : Writing). length w.slots) is in (
      record {
        sound = rw is (first_is_sound st);
        before = none ∙ (sym (none_before p.settings) ∙ ap (slots_before p.settings) (sym frames));
        frames = omega arith;
      },
      record { heads = omega arith; slots = omega arith },
    )
