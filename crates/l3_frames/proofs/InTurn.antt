-- The frames that a reader gives in turn, and the reading of the bytes that it began with.
use Rattle.std.proofs.Common.{◌≡◌, ℕ, zero, suc, ◌+◌, ◌-◌, ◌<◌, ◌≤◌, Bool, List, [], ◌∷◌, ◌++◌, length, take, drop, Option, Some, None, Result, Ok, Err, refl, sym, ap, subst, ◌∙◌, arith, append_assoc, length-append}
use Rattle.std.specs.Prelude.{IfSome}
use Rattle.std.proofs.lemmas.List.{append-nil, drop-drop}
use Rattle.l3_bits.specs.Bits.{bits_of}
use Rattle.l3_base.specs.declared.settings.Settings.{Settings}
use Rattle.l3_base.specs.Lengths.{frame_bytes_of}
use Rattle.l3_stream.specs.declared.fault.StreamFault.{StreamFault}
use Rattle.l3_stream.specs.declared.fault.StreamFault.TheVariants as faults
use Rattle.l3_stream.specs.declared.unit.ChosenFrame.{ChosenFrame}
use Rattle.l3_stream.specs.declared.unit.Unit.{Unit as FrameUnit}
use Rattle.l3_stream.specs.Header.{settings_at}
use Rattle.l3_stream.specs.Frames.{placed}
use Rattle.l3_stream.specs.Faults.{◌>>=◌}
use Rattle.l3_stream.specs.Deviation.{Place, first_place, head_at, slot_at, main_at, next_place, Content, reading_of}
use Rattle.l3_frames.specs.InTurn.{Progress, AreFirst, BeginsWithFrame, GivesFrame, HasEnded, HasGiven, HasStopped, LeavesBehind, StopsBehind, bytes_by, content_from, first_frames, frame_at, nothing_read, settings_by, still_read, with_frames}

-- ---- frames in front of a reading

with_no_frames : (r : Result Content StreamFault) → with_frames [] r ≡ r
with_no_frames (Ok content) = refl
with_no_frames (Err fault) = refl

with_one_more : (frames : List ChosenFrame) (f : ChosenFrame) (r : Result Content StreamFault)
    → with_frames frames (with_frames (f ∷ []) r) ≡ with_frames (frames ++ f ∷ []) r
with_one_more frames f (Ok content) = ap (λ (l : List ChosenFrame). Ok
    (record { settings = content.settings; frames = l }))
    (sym (append_assoc frames (f ∷ []) content.frames))
with_one_more frames f (Err fault) = refl

-- ---- the place behind a frame

abbrev frame_behind : Settings → Place → List Bool → ℕ × List FrameUnit → List FrameUnit
    → ChosenFrame × Place
frame_behind st p slot side units = (
  record { begin = side.0; units = placed st.channels units },
  next_place st p side slot,
)

ok_same : {A : Type 0} (x y : A) (r : Result A StreamFault) → r ≡ Ok x → r ≡ Ok y → x ≡ y
ok_same x y r e h = cc

no_answer : {A : Type 0} (fault : StreamFault) (x : A) (r : Result A StreamFault) → r ≡ Err fault
    → r ≡ Ok x → ⊥
no_answer fault x r e h = cc

behind_main : (st : Settings) (p q : Place) (f : ChosenFrame) (side : ℕ × List FrameUnit)
    (slot : List Bool) (main : Result (List FrameUnit) StreamFault) →
    (main >>= λ units. Ok (frame_behind st p slot side units)) ≡ Ok (f, q)
    → q.at ≡ p.at + frame_bytes_of st p.number
unfolding ◌>>=◌ next_place
behind_main st p q f side slot (Err fault) e = absurd (no_answer fault (f, q) (Err fault) refl e)
behind_main st p q f side slot (Ok units) e =
    let both = ok_same (frame_behind st p slot side units) (f, q)
    (Ok (frame_behind st p slot side units)) refl e in
    sym (ap (λ (x : ChosenFrame × Place). x.1.at) both)

placed_behind : (st : Settings) (p q : Place) (bytes : List ℕ) (f : ChosenFrame)
    (side : Result (ℕ × List FrameUnit) StreamFault) →
    (side >>= λ s. main_at st p s (slot_at st p.number bytes) >>= λ units. Ok
    (frame_behind st p (slot_at st p.number bytes) s units)) ≡ Ok (f, q)
    → q.at ≡ p.at + frame_bytes_of st p.number
unfolding ◌>>=◌
placed_behind st p q bytes f (Err fault) e = absurd (no_answer fault (f, q) (Err fault) refl e)
placed_behind st p q bytes f (Ok side) e = behind_main st p q f side (slot_at st p.number bytes)
    (main_at st p side (slot_at st p.number bytes)) e

pub frame_ends : (st : Settings) (p q : Place) (bytes : List ℕ) (f : ChosenFrame)
    → frame_at st p bytes ≡ Ok (f, q) → q.at ≡ p.at + frame_bytes_of st p.number
unfolding frame_at
frame_ends st p q bytes f e = placed_behind st p q bytes f (head_at st p bytes) e

-- ---- the first frames

abbrev answer : List ChosenFrame → Place → Result (List ChosenFrame × Place) StreamFault
answer fs q = Ok (fs, q)

-- a frame, and those behind it
abbrev and_behind : ChosenFrame → Result (List ChosenFrame × Place) StreamFault
    → Result (List ChosenFrame × Place) StreamFault
and_behind f r = r >>= λ others. Ok (f ∷ others.0, others.1)

one_first : (st : Settings) (n : ℕ) (p p1 : Place) (bytes : List ℕ) (f : ChosenFrame)
    → frame_at st p bytes ≡ Ok (f, p1) → first_frames st (suc n) p bytes ≡ and_behind f
    (first_frames st n p1 (drop (frame_bytes_of st p.number) bytes))
unfolding first_frames ◌>>=◌
one_first st n p p1 bytes f e = rw e refl

nothing_first : (st : Settings) (p : Place) (bytes : List ℕ) → first_frames st 0 p bytes
    ≡ Ok ([], p)
unfolding first_frames
nothing_first st p bytes = refl

none_so : (st : Settings) (p : Place) (bytes : List ℕ) (fs : List ChosenFrame) (q : Place)
    → first_frames st 0 p bytes ≡ Ok (fs, q) → (p ≡ q) × (fs ≡ [])
none_so st p bytes fs q e =
    let both = ok_same (fs, q) ([], p) (first_frames st 0 p bytes) e (nothing_first st p bytes) in (
      sym (ap (λ (x : List ChosenFrame × Place). x.1) both),
      ap (λ (x : List ChosenFrame × Place). x.0) both,
    )

none_first : (st : Settings) (p : Place) (bytes : List ℕ) (fs : List ChosenFrame) (q : Place)
    → first_frames st 0 p bytes ≡ Ok (fs, q) → p ≡ q
none_first st p bytes fs q e = (none_so st p bytes fs q e).0

no_frames : (st : Settings) (p : Place) (bytes : List ℕ) (fs : List ChosenFrame) (q : Place)
    → first_frames st 0 p bytes ≡ Ok (fs, q) → fs ≡ []
no_frames st p bytes fs q e = (none_so st p bytes fs q e).1

joined_answer : (f : ChosenFrame) (fs : List ChosenFrame) (r : Place) → and_behind f (Ok (fs, r))
    ≡ Ok (f ∷ fs, r)
unfolding ◌>>=◌
joined_answer f fs r = refl

last_first : (st : Settings) (f : ChosenFrame) (r : Place) (bytes : List ℕ)
    → and_behind f (first_frames st 0 r bytes) ≡ Ok (f ∷ [], r)
last_first st f r bytes = ap (and_behind f) (nothing_first st r bytes) ∙ joined_answer f [] r

-- how the first frames were read
record Parts (st : Settings) (n : ℕ) (p : Place) (bytes : List ℕ) (fs : List ChosenFrame)
    (q : Place) : Type 0 where
  first : ChosenFrame
  others : List ChosenFrame
  second : Place
  here : frame_at st p bytes ≡ Ok (first, second)
  behind : first_frames st n second (drop (frame_bytes_of st p.number) bytes) ≡ Ok (others, q)
  joined : fs ≡ first ∷ others

others_of : (f : ChosenFrame) (r : Result (List ChosenFrame × Place) StreamFault)
    (fs : List ChosenFrame) (q : Place) → and_behind f r ≡ answer fs q → (gs : List ChosenFrame)
    × (r ≡ answer gs q) × (fs ≡ f ∷ gs)
unfolding ◌>>=◌
others_of f (Err fault) fs q e = absurd (no_answer fault (fs, q) (Err fault) refl e)
others_of f (Ok others) fs q e =
    let both = ok_same (f ∷ others.0, others.1) (fs, q) (answer (f ∷ others.0) others.1) refl e in (
      others.0,
      ap (answer others.0) (ap (λ (x : List ChosenFrame × Place). x.1) both),
      sym (ap (λ (x : List ChosenFrame × Place). x.0) both),
    )

parts_by : (st : Settings) (n : ℕ) (p : Place) (bytes : List ℕ) (fs : List ChosenFrame) (q : Place)
    (r : Result (ChosenFrame × Place) StreamFault) → frame_at st p bytes ≡ r
    → (r >>= λ first. and_behind first.0 (first_frames st n first.1
    (drop (frame_bytes_of st p.number) bytes))) ≡ Ok (fs, q) → Parts st n p bytes fs q
unfolding ◌>>=◌
parts_by st n p bytes fs q (Err fault) is e = absurd (no_answer fault (fs, q) (Err fault) refl e)
parts_by st n p bytes fs q (Ok first) is e =
    let rest = others_of first.0 (first_frames st n first.1
    (drop (frame_bytes_of st p.number) bytes)) fs q e in
    record {
      first = first.0;
      others = rest.0;
      second = first.1;
      here = is;
      behind = rest.1;
      joined = rest.2;
    }

parts : (st : Settings) (n : ℕ) (p : Place) (bytes : List ℕ) (fs : List ChosenFrame) (q : Place)
    → first_frames st (suc n) p bytes ≡ Ok (fs, q) → Parts st n p bytes fs q
unfolding first_frames
parts st n p bytes fs q e = parts_by st n p bytes fs q (frame_at st p bytes) refl e

first_later : (st : Settings) (n : ℕ) (p : Place) (bytes : List ℕ) (fs : List ChosenFrame)
    (q : Place) → first_frames st n p bytes ≡ Ok (fs, q) → p.at ≤ q.at
first_later st zero p bytes fs q e = let same : p ≡ q = none_first st p bytes fs q e in
    omega (arith, ap (λ x. x.at) same)
first_later st (suc n) p bytes fs q e =
    let ps = parts st n p bytes fs q e in
    omega (
      arith,
      frame_ends st p ps.second bytes ps.first ps.here,
      first_later st n ps.second
          (drop (frame_bytes_of st p.number) bytes) ps.others q ps.behind,
    )

first_more : (st : Settings) (n : ℕ) (p : Place) (bytes : List ℕ) (fs : List ChosenFrame)
    (q : Place) (f : ChosenFrame) (r : Place) → first_frames st n p bytes ≡ Ok (fs, q)
    → frame_at st q (drop (q.at - p.at) bytes) ≡ Ok (f, r) → first_frames st (suc n) p bytes
    ≡ Ok (fs ++ f ∷ [], r)
first_more st zero p bytes fs q f r e h =
    let same : p ≡ q = none_first st p bytes fs q e in
    let none : fs ≡ [] = no_frames st p bytes fs q e in
    let place : q.at - p.at ≡ 0 = omega (arith, ap (λ x. x.at) same) in
    let here : frame_at st p bytes ≡ Ok (f, r) = ap (λ x. frame_at st x bytes) same
    ∙ (ap (λ n. frame_at st q (drop n bytes)) (sym place) ∙ h) in
    one_first st 0 p r bytes f here ∙ (last_first st f r (drop (frame_bytes_of st p.number) bytes)
    ∙ ap (λ (l : List ChosenFrame). answer (l ++ f ∷ []) r) (sym none))
first_more st (suc n) p bytes fs q f r e h =
    let ps = parts st n p bytes fs q e in
    let size = frame_bytes_of st p.number in
    let later = first_later st n ps.second (drop size bytes) ps.others q ps.behind in
    let place : q.at - p.at ≡ size + (q.at - ps.second.at) = omega (
      arith,
      frame_ends st p ps.second bytes ps.first ps.here,
    ) in
    let there : frame_at st q (drop (q.at - ps.second.at) (drop size bytes)) ≡ Ok (f, r) = ap
    (frame_at st q) (drop-drop (q.at - ps.second.at) size bytes ∙ ap (λ n. drop n bytes)
    (sym place)) ∙ h in
    let more = first_more st n ps.second (drop size bytes) ps.others q f r ps.behind there in
    one_first st (suc n) p ps.second bytes ps.first ps.here ∙ (ap (and_behind ps.first) more
    ∙ (joined_answer ps.first (ps.others ++ f ∷ []) r
    ∙ ap (λ (l : List ChosenFrame). answer (l ++ f ∷ []) r) (sym ps.joined)))

-- ---- what a reader has given

stops_by : (fault : StreamFault) (frames : List ChosenFrame) (p : Progress) (left : List ℕ)
    (now : Option (List ℕ)) → (fault ≡ faults.Memory → ⊥) → LeavesBehind fault
    (bytes_by (settings_by p.settings left) p.place.number) left now
    → StopsBehind fault frames p left now
stops_by (faults.BadHeader at) frames p left now not h = h
stops_by (faults.ShortFrame at) frames p left now not h = h
stops_by (faults.BadSide at) frames p left now not h = h
stops_by (faults.BadBegin at) frames p left now not h = h
stops_by (faults.BadCode bit) frames p left now not h = h
stops_by (faults.WrongLength bit) frames p left now not h = h
stops_by (faults.NotZero bit) frames p left now not h = h
stops_by faults.Read frames p left now not h = h
stops_by faults.Memory frames p left now not h = absurd (not refl)
stops_by (faults.TooLong at) frames p left now not h = h

pub given_none : (limit : ℕ) (bytes : List ℕ) → HasGiven limit bytes [] (nothing_read limit)
    (Some bytes)
unfolding content_from
given_none limit bytes = record {
  most = refl;
  goes_on = refl;
  number = refl;
  first = (refl, refl);
  behind = refl;
  reading = sym (with_no_frames (reading_of limit bytes));
}

module _ (limit : ℕ) (bytes : List ℕ) (frames : List ChosenFrame) (p : Progress)
    (mid : Option (List ℕ)) (given : HasGiven limit bytes frames p mid) where
  left_by : (P : List ℕ → Type 0) → IfSome mid P → P (drop p.place.at bytes)
  left_by P h = subst (λ m. IfSome m P) given.behind h

  first_by : (o : Option Settings) (st : Settings) (f : ChosenFrame) (q : Place)
      → AreFirst bytes frames o p.place → settings_by o (drop p.place.at bytes) ≡ Some st
      → frame_at st p.place (drop p.place.at bytes) ≡ Ok (f, q)
      → AreFirst bytes (frames ++ f ∷ []) (Some st) q
  first_by None st f q first told is =
      let none : p.place.at ≡ 0 = ap (λ x. x.at) first.1 in
      let all : drop p.place.at bytes ≡ bytes = ap (λ n. drop n bytes) none in
      let here : frame_at st first_place (drop 0 bytes) ≡ Ok (f, q) = ap (λ x. frame_at st x bytes)
      (sym first.1) ∙ (ap (frame_at st p.place) (sym all) ∙ is) in
      let one : first_frames st 1 first_place bytes ≡ Ok (f ∷ [], q) = first_more st 0 first_place
      bytes [] first_place f q (nothing_first st first_place bytes) here in
      let joined : f ∷ [] ≡ frames ++ f ∷ [] = ap (λ l. l ++ f ∷ []) (sym first.0) in (
        ap (λ l. settings_at (bits_of (take 4 l))) (sym all) ∙ told,
        subst (λ l. first_frames st (length l) first_place bytes ≡ Ok (l, q)) joined one,
      )
  first_by (Some s) st f q first told is =
      let same : s ≡ st = cc in
      let from_start : p.place.at - 0 ≡ p.place.at = omega arith in
      let number : suc (length frames) ≡ length (frames ++ f ∷ []) = omega (
        arith,
        length-append frames (f ∷ []),
      ) in
      let so_far : first_frames st (length frames) first_place bytes ≡ Ok (frames, p.place) = subst
      (λ v. first_frames v (length frames) first_place bytes ≡ Ok (frames, p.place)) same
      first.1 in (
        first.0 ∙ ap (λ v. Some v) same,
        ap (λ n. first_frames st n first_place bytes) (sym number)
            ∙ first_more st (length frames) first_place bytes frames p.place f q so_far
            (ap (λ n. frame_at st p.place (drop n bytes)) from_start ∙ is),
      )

  -- one frame more
  pub given_more : (q : Progress) (f : ChosenFrame) (now : Option (List ℕ)) → GivesFrame p q f
      → IfSome mid (λ left. BeginsWithFrame p q f left now) → HasGiven limit bytes
      (frames ++ f ∷ []) q now
  given_more q f now gives begins =
      let b : BeginsWithFrame p q f (drop p.place.at bytes) now = left_by
      (λ left. BeginsWithFrame p q f left now) begins in
      let size = frame_bytes_of b.settings p.place.number in
      let place : q.place.at ≡ p.place.at + size = frame_ends b.settings p.place q.place
      (drop p.place.at bytes) f b.is in
      let gone : drop size (drop p.place.at bytes) ≡ drop q.place.at bytes = drop-drop size
      p.place.at bytes ∙ ap (λ n. drop n bytes) (sym place) in
      record {
        most = gives.limit ∙ given.most;
        goes_on = gives.goes_on.1;
        number = omega (arith, length-append frames (f ∷ []), given.number, gives.number);
        first = subst (λ o. AreFirst bytes (frames ++ f ∷ []) o q.place) (sym b.tells)
            (first_by p.settings b.settings f q.place given.first b.told b.is);
        behind = b.gone ∙ ap (λ l. Some l) gone;
        reading = given.reading
            ∙ (ap (with_frames frames) (b.reading ∙ ap (λ l. with_frames (f ∷ []) (still_read q l))
            gone) ∙ with_one_more frames f (still_read q (drop q.place.at bytes)));
      }

  -- the end
  pub given_ended : (now : Option (List ℕ)) → IfSome mid (λ left. HasEnded p left now)
      → (reading_of limit bytes ≡ Ok (record { settings = p.settings; frames = frames }))
      × (now ≡ Some [])
  given_ended now h =
      let ended : HasEnded p (drop p.place.at bytes) now = left_by (λ left. HasEnded p left now) h
      in (
        given.reading ∙ (ap (with_frames frames) ended.reading
            ∙ ap (λ (l : List ChosenFrame). Ok (record { settings = p.settings; frames = l }))
            (append-nil frames)),
        ended.still,
      )

  -- a deviation
  pub given_refused : (fault : StreamFault) → IfSome mid (λ left. still_read p left ≡ Err fault)
      → reading_of limit bytes ≡ Err fault
  given_refused fault h = given.reading ∙ ap (with_frames frames)
      (left_by (λ left. still_read p left ≡ Err fault) h)

  -- what is left
  pub given_stopped : (fault : StreamFault) (now : Option (List ℕ)) → (fault ≡ faults.Memory → ⊥)
      → IfSome mid (λ left. LeavesBehind fault
      (bytes_by (settings_by p.settings left) p.place.number) left now)
      → HasStopped limit bytes fault now
  given_stopped fault now not h =
      let left = drop p.place.at bytes in
      record {
        frames = frames;
        progress = p;
        given = subst (λ m. HasGiven limit bytes frames p m) given.behind given;
        leaves = stops_by fault frames p left now not
            (left_by (λ l. LeavesBehind fault (bytes_by (settings_by p.settings l) p.place.number) l
            now) h);
      }

  pub given_memory : 0 < length frames → HasStopped limit bytes faults.Memory mid
  given_memory some = record {
    frames = frames;
    progress = p;
    given = subst (λ m. HasGiven limit bytes frames p m) given.behind given;
    leaves = (some, given.behind);
  }
