-- One step of a reader of frames, by what the source has left.
use Rattle.std.proofs.Common.{◌≡◌, ℕ, ◌+◌, ◌<◌, ◌≤◌, List, [], ◌++◌, length, take, drop, Option, Some, None, Result, Ok, Err, refl, sym, ap, subst, ◌∙◌, arith, length-append, inl, inr}
use Rattle.std.specs.Prelude.{IfSome}
use Rattle.std.proofs.lemmas.List.{take_at, take_all, drop_at, drop_all}
use Rattle.std.proofs.lemmas.Option.{IfSome_then}
use Rattle.l3_bits.specs.Bits.{bits_of}
use Rattle.l3_base.specs.declared.settings.Settings.{Settings}
use Rattle.l3_base.specs.Lengths.{frame_bytes_of}
use Rattle.l3_stream.specs.declared.fault.StreamFault.{StreamFault}
use Rattle.l3_stream.specs.declared.fault.StreamFault.TheVariants as faults
use Rattle.l3_stream.specs.declared.unit.ChosenFrame.{ChosenFrame}
use Rattle.l3_stream.specs.Header.{settings_at}
use Rattle.l3_stream.specs.Faults.{or_fault, clear}
use Rattle.l3_stream.specs.Deviation.{Place}
use Rattle.l3_stream.proofs.Header.{frame_size}
use Rattle.l3_frames.specs.Answer.{IsFaultOf}
use Rattle.l3_frames.specs.InTurn.{Progress, BeginsWithFrame, HasEnded, LeavesBehind, bytes_by, content_from, frame_at, settings_by}
use Rattle.l3_frames.specs.Steps.{HeaderBegins, HasRest, KeepsTape, IsTapeUnder, IsWithin, NoHeader, tape_place}
use Rattle.l3_frames.specs.declared.tape.Tape.{Tape}
use Rattle.l3_frames.proofs.WholeSteps.{fault_said}
use Rattle.l3_frames.proofs.LeftSteps.{leaves_whole, leaves_longer, through_header}
use Rattle.l3_frames.proofs.Contents.{IsAtStart, content_more, content_refused, content_unknown, content_no_header, content_ended, content_bad_end}

-- two facts of the bytes that are left
pub both_told : {X : Type 0} {P Q R : X → Type 0} (o : Option X) → IfSome o P → IfSome o Q
    → ((x : X) → P x → Q x → R x) → IfSome o R
both_told None p q f = tt
both_told (Some x) p q f = f x p q

pub three_told : {X : Type 0} {P Q R T : X → Type 0} (o : Option X) → IfSome o P → IfSome o Q
    → IfSome o R → ((x : X) → P x → Q x → R x → T x) → IfSome o T
three_told None p q r f = tt
three_told (Some x) p q r f = f x p q r

-- ---- the tape

pub rest_of_kept : (st : Settings) (t : Tape) → KeepsTape st t → HasRest t
rest_of_kept st t kept = record {
  room = kept.room;
  few = kept.few;
  small = omega (arith, kept.small, kept.number);
  begun = kept.begun;
  within = kept.within;
}

pub at_start : (o : Option Settings) (t : Tape) → IsTapeUnder o t → IsAtStart o (tape_place t)
at_start None t tape = tape.0
at_start (Some st) t tape = tt

pub kept_under : (o : Option Settings) (st : Settings) (header : List ℕ) (t : Tape)
    → IsTapeUnder o t → settings_by o header ≡ Some st → KeepsTape st t
kept_under None st header t tape is = tape.1 st
kept_under (Some s) st header t tape is = let same : s ≡ st = cc in
    subst (λ (v : Settings). KeepsTape v t) same tape

pub tape_still : (o : Option Settings) (t u : Tape) → tape_place u ≡ tape_place t
    → ((st : Settings) → KeepsTape st t → KeepsTape st u) → IsTapeUnder o t → IsTapeUnder o u
tape_still None t u same still tape = (same ∙ tape.0, λ st. still st (tape.1 st))
tape_still (Some st) t u same still tape = still st tape

-- ---- settings

or_fault_ok : {A : Type 0} (fault : StreamFault) (x : Option A) (v : A) → or_fault fault x ≡ Ok v
    → x ≡ Some v
unfolding or_fault
or_fault_ok fault None v e = cc
or_fault_ok fault (Some w) v e = cc

ok_is_no_fault : {A : Type 0} (x : A) (fault : StreamFault) → (Ok x) ≡ Err fault → ⊥
ok_is_no_fault x fault e = cc

or_fault_err : {A : Type 0} (fault other : StreamFault) (x : Option A) → or_fault fault x
    ≡ Err other → (x ≡ None) × (other ≡ fault)
unfolding or_fault
or_fault_err fault other None e = (refl, cc)
or_fault_err fault other (Some w) e = absurd (ok_is_no_fault w other e)

-- of a frame with this header
pub settings_kept : (o : Option Settings) (header : List ℕ) (st : Settings) → o ≡ Some st
    → Ok st ≡ or_fault (faults.BadHeader 0) (settings_by o header)
unfolding or_fault
settings_kept None header st e = cc
settings_kept (Some s) header st e = cc

pub settings_first : (o : Option Settings) (header : List ℕ) (x : Option Settings)
    (r : Result Settings StreamFault) → o ≡ None → length header ≡ 4 → settings_at (bits_of header)
    ≡ x → r ≡ or_fault (faults.BadHeader 0) x
    → r ≡ or_fault (faults.BadHeader 0) (settings_by o header)
settings_first (Some s) header x r none four is e = cc
settings_first None header x r none four is e =
    let all : take 4 header ≡ header = take_all 4 header (omega arith) in
    e ∙ ap (or_fault (faults.BadHeader 0)) (sym is ∙ ap (λ l. settings_at (bits_of l)) (sym all))

pub same_settings : (o : Option Settings) (header : List ℕ) (st : Settings) → settings_by o header
    ≡ Some st → IfSome o (λ s. s ≡ st)
same_settings None header st told = tt
same_settings (Some s) header st told = cc

pub found_is : (st : Settings) (x : Option Settings) → x ≡ Some st → Ok st ≡ or_fault
    (faults.BadHeader 0) x
unfolding or_fault
found_is st None e = cc
found_is st (Some s) e = cc

pub missing_is : (x : Option Settings) → x ≡ None → Err (faults.BadHeader 0) ≡ or_fault
    (faults.BadHeader 0) x
unfolding or_fault
missing_is None e = refl
missing_is (Some s) e = cc

pub settings_found : (o : Option Settings) (header : List ℕ) (r : Result Settings StreamFault)
    (st : Settings) → r ≡ or_fault (faults.BadHeader 0) (settings_by o header) → r ≡ Ok st
    → settings_by o header ≡ Some st
settings_found o header r st is e = or_fault_ok (faults.BadHeader 0) (settings_by o header) st
    (sym is ∙ e)

pub settings_missing : (o : Option Settings) (header : List ℕ) (r : Result Settings StreamFault)
    (fault : StreamFault) → r ≡ or_fault (faults.BadHeader 0) (settings_by o header) → r ≡ Err fault
    → (settings_by o header ≡ None) × (fault ≡ faults.BadHeader 0)
settings_missing o header r fault is e = or_fault_err (faults.BadHeader 0) fault
    (settings_by o header) (sym is ∙ e)

module _ (header : List ℕ) (four : length header ≡ 4) (left : List ℕ) (mid : Option (List ℕ))
    (begins : HeaderBegins left header mid) where
  begins_long : 4 ≤ length left
  begins_long = omega (arith, ap length begins.bytes_are, length-append header begins.rest)

  begins_settings : (o : Option Settings) → settings_by o left ≡ settings_by o header
  begins_settings None = ap (λ l. settings_at (bits_of l)) (ap (take 4) begins.bytes_are
      ∙ (take_at header begins.rest 4 four ∙ sym (take_all 4 header (omega arith))))
  begins_settings (Some st) = refl

  begins_rest : mid ≡ Some (drop 4 left)
  begins_rest = begins.is ∙ ap (λ l. Some l) (sym (ap (drop 4) begins.bytes_are
      ∙ drop_at header begins.rest 4 four))

size_long : (o : Option Settings) (n : ℕ) → 4 ≤ bytes_by o n
size_long None n = omega arith
size_long (Some st) n = omega (arith, frame_size st n)

-- ---- what the source has left

module _ (limit : ℕ) (p : Place) (o : Option Settings) (start : IsAtStart o p)
    (old mid : Option (List ℕ)) where
  -- no header
  pub next_no_header : (fault : StreamFault)
      → IfSome old (λ left. NoHeader fault limit p.number p.at left) → (fault ≡ faults.Read → ⊥)
      → IfSome old (λ left. content_from o limit p left ≡ Err fault)
  next_no_header fault h not = IfSome_then old h (λ left none. content_no_header limit p left o
      fault start none not)

  header_left : (fault : StreamFault) (left : List ℕ) → NoHeader fault limit p.number p.at left
      → LeavesBehind fault 4 left mid → LeavesBehind fault (bytes_by (settings_by o left) p.number)
      left mid
  header_left fault left (inl read) h =
      leaves_longer fault (bytes_by (settings_by o left) p.number) left mid
      (size_long (settings_by o left) p.number) read
      (subst (λ d. LeavesBehind d 4 left mid) read h)
  header_left fault left (inr (inl long)) h =
      subst (λ d. LeavesBehind d (bytes_by (settings_by o left) p.number) left mid) (sym long.0)
      (subst (λ d. LeavesBehind d 4 left mid) long.0 h)
  header_left fault left (inr (inr short)) h =
      let gone : mid ≡ Some (drop 4 left) = subst (λ d. LeavesBehind d 4 left mid) short.0 h in
      let size = bytes_by (settings_by o left) p.number in
      let few : length left < 4 = short.3 in
      subst (λ d. LeavesBehind d size left mid) (sym short.0) (gone ∙ ap (λ l. Some l)
      (drop_all 4 left (omega arith)
      ∙ sym (drop_all size left (omega (arith, size_long (settings_by o left) p.number)))))

  pub next_header_left : (fault : StreamFault)
      → IfSome old (λ left. NoHeader fault limit p.number p.at left)
      → IfSome old (λ left. LeavesBehind fault 4 left mid)
      → IfSome old (λ left. LeavesBehind fault (bytes_by (settings_by o left) p.number) left mid)
  next_header_left fault none h = both_told old none h (λ left n l. header_left fault left n l)

  -- the end
  pub next_ended : (q : Progress) → q ≡ record {
    limit = limit;
    settings = o;
    place = p;
    fault = None;
  } → IfSome old (λ left. (left ≡ []) × (mid ≡ Some [])) → clear p.end p.rest
      ≡ Ok tt → IfSome old (λ left. HasEnded q left mid)
  next_ended q is h e = IfSome_then old h
      (λ left ends. subst (λ (v : Progress). HasEnded v left mid) (sym is)
      (record {
        none = ends.0;
        still = ends.1;
        reading = ap (content_from o limit p) ends.0
            ∙ content_ended limit p o e;
      }))

  pub next_bad_end : (fault : StreamFault) → IfSome old (λ left. (left ≡ []) × (mid ≡ Some []))
      → clear p.end p.rest ≡ Err fault → IfSome old (λ left. content_from o limit p left
      ≡ Err fault)
  next_bad_end fault h e = IfSome_then old h (λ left none. ap (content_from o limit p) none.0
      ∙ content_bad_end limit p o fault start e)

  pub next_end_left : (fault : StreamFault) → IsWithin fault
      → IfSome old (λ left. (left ≡ []) × (mid ≡ Some []))
      → IfSome old (λ left. LeavesBehind fault (bytes_by (settings_by o left) p.number) left mid)
  next_end_left fault within h = IfSome_then old h (λ left none.
      let size = bytes_by (settings_by o left) p.number in
      leaves_whole fault size left mid within (none.1 ∙ ap (λ l. Some l)
      (sym (drop_all size left (omega (arith, ap length none.0))))))

  module _ (header : List ℕ) (four : length header ≡ 4)
      (begins : IfSome old (λ left. HeaderBegins left header mid)) (room : p.number < limit) where
    -- no settings
    pub next_unknown : settings_by o header ≡ None → IfSome old (λ left. content_from o limit p left
        ≡ Err (faults.BadHeader 0))
    next_unknown none = IfSome_then old begins (λ left b. content_unknown limit p left o
        (begins_settings header four left mid b o ∙ none) room (begins_long header four left mid b))

    pub next_unknown_left : settings_by o header ≡ None
        → IfSome old (λ left. LeavesBehind (faults.BadHeader 0)
        (bytes_by (settings_by o left) p.number) left mid)
    next_unknown_left none = IfSome_then old begins (λ left b. begins_rest header four left mid b)

    -- a frame
    module _ (st : Settings) (told : settings_by o header ≡ Some st) (now : Option (List ℕ)) where
      said_of : (fault : StreamFault)
          → IfSome mid (λ rest. IsFaultOf fault (frame_at st p (header ++ rest)))
          → IfSome old (λ left. IsFaultOf fault (frame_at st p left))
      said_of fault h = through_header (λ bytes. IsFaultOf fault (frame_at st p bytes)) header old
          mid begins h

      pub next_refused : (fault : StreamFault)
          → IfSome mid (λ rest. IsFaultOf fault (frame_at st p (header ++ rest)))
          → (fault ≡ faults.Read → ⊥) → (fault ≡ faults.Memory → ⊥)
          → IfSome old (λ left. content_from o limit p left ≡ Err fault)
      next_refused fault h read memory = both_told old begins (said_of fault h) (λ left b said.
          content_refused limit p left o st fault (begins_settings header four left mid b o
          ∙ told) start room (begins_long header four left mid b)
          (fault_said fault (frame_at st p left) said read memory))

      pub next_refused_left : (fault : StreamFault)
          → IfSome mid (λ rest. LeavesBehind fault (frame_bytes_of st p.number) (header ++ rest)
          now)
          → IfSome old (λ left. LeavesBehind fault (bytes_by (settings_by o left) p.number) left
          now)
      next_refused_left fault h = both_told old begins
          (through_header (λ bytes. LeavesBehind fault (frame_bytes_of st p.number) bytes now)
          header old mid begins h) (λ left b leaves.
          subst (λ (v : Option Settings). LeavesBehind fault (bytes_by v p.number) left now)
          (sym (begins_settings header four left mid b o ∙ told)) leaves)

      pub next_frame : (f : ChosenFrame) (q : Place) (before after : Progress)
          → before ≡ record { limit = limit; settings = o; place = p; fault = None }
          → after ≡ record { limit = limit; settings = Some st; place = q; fault = None }
          → q.number ≡ p.number + 1 → IfSome mid (λ rest. frame_at st p (header ++ rest)
          ≡ Ok (f, q)) → IfSome mid (λ rest. now ≡ Some (drop (frame_bytes_of st p.number)
          (header ++ rest)))
          → IfSome old (λ left. BeginsWithFrame before after f left now)
      next_frame f q before after is will number h gone =
          let size = frame_bytes_of st p.number in
          let found = through_header (λ bytes. frame_at st p bytes ≡ Ok (f, q)) header old mid
          begins h in
          let rest = through_header (λ bytes. now ≡ Some (drop size bytes)) header old mid begins
          gone in
          three_told old begins found rest (λ left b here behind. subst
          (λ (v : Progress). BeginsWithFrame v after f left now) (sym is)
          (subst (λ (v : Progress). BeginsWithFrame (record {
            limit = limit;
            settings = o;
            place = p;
            fault = None;
          }) v f left now) (sym will)
          (record {
            settings = st;
            told = begins_settings header four left mid b o ∙ told;
            tells = refl;
            is = here;
            gone = behind;
            reading = content_more limit p left o st f q (begins_settings header four left mid b o
                ∙ told) start room (begins_long header four left mid b) number here;
          })))
