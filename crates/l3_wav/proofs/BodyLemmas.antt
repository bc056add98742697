-- What is passed and what is gone, and what a chunk's body tells.
use Rattle.std.proofs.Common.{◌≡◌, ◌∙◌, sym, ap, subst, refl, ℕ, ◌+◌, ◌≤◌, Bool, true, false, List, [], length, take, drop, min, arith, inl, inr, ◌⊎◌, length-drop, length-append, ◌<◌}
use Rattle.std.specs.Prelude.{Option, Some, None, is_some, IfSome, IfErr, Result, Ok, Err}
use Rattle.std.proofs.Math.Seq.{drop-append_seam}
use Rattle.l3_io.specs.Causes.{Rose, count_after}
use Rattle.l3_wav.specs.declared.fault.WavFault.TheVariants.{Read}
use Rattle.std.specs.Io.KnownBytes.{Consumes}
use Rattle.std.proofs.lemmas.List.{length-take, take-append-drop, drop-drop}
use Rattle.l3_wav.specs.declared.fields.Format.{Format}
use Rattle.l3_wav.specs.declared.fault.WavFault.{WavFault}
use Rattle.l3_wav.specs.Wav.{format_of, known_by, format_after, padded, fields_in, FaultCause}
use Rattle.l3_wav.proofs.TailLemmas.{HasLost-after, HasLost-within}
use Rattle.l3_wav.specs.Steps.{HasPassed, EndsWithin, ReadsBody}

-- bytes that were passed are gone
pub gone-passed : (old now : Option (List ℕ)) (n : ℕ) → IfSome old (λ bytes. HasPassed n bytes now) → (bytes : List ℕ) × (length bytes ≤ n) × Consumes old now bytes
gone-passed None now n has = ([], omega arith, tt)
gone-passed (Some bytes) now n has = (take n bytes, omega (arith, length-take n bytes), rw has.rest (sym (take-append-drop n bytes)))

-- gone within a greater bound
pub gone-within : (old now : Option (List ℕ)) (n m : ℕ) → n ≤ m → ((bytes : List ℕ) × (length bytes ≤ n) × Consumes old now bytes) → (bytes : List ℕ) × (length bytes ≤ m) × Consumes old now bytes
gone-within old now n m low gone = (gone.0, omega (arith, gone.1), gone.2)

-- two passed in turn
pub HasPassed-then : (bytes : List ℕ) (n m : ℕ) (mid now : Option (List ℕ)) → HasPassed n bytes mid → IfSome mid (λ rest. HasPassed m rest now) → HasPassed (n + m) bytes now
HasPassed-then bytes n m mid now first second =
    let next : HasPassed m (drop n bytes) now = rw first.rest at second in
    record { there = omega (arith, first.there, next.there, length-drop n bytes); rest = next.rest ∙ ap Some (drop-drop m n bytes) }

-- a chunk that tells no format is passed over
keeps : (format : Option Format) (is_format : Bool) (fields : List ℕ) → (is_some format ≡ true) ⊎ (is_format ≡ false) → format_after format is_format fields ≡ Ok format
keeps (Some f) is_format fields other = refl
keeps None false fields other = refl
keeps None true fields (inl never) = absurd cc
keeps None true fields (inr never) = absurd cc

-- the first chunk that tells a format
tells : (format : Option Format) (is_format : Bool) (fields : List ℕ) → is_some format ≡ false → is_format ≡ true → format_after format is_format fields ≡ known_by (format_of fields)
tells None true fields first is = refl
tells None false fields first is = absurd cc
tells (Some f) is_format fields first is = absurd cc

-- passed in turn, where the source tells its bytes
pub passed_in_two : (old mid now : Option (List ℕ)) (n m : ℕ) → IfSome old (λ bytes. HasPassed n bytes mid) → IfSome mid (λ rest. HasPassed m rest now) → IfSome old (λ bytes. HasPassed (n + m) bytes now)
passed_in_two None mid now n m first second = tt
passed_in_two (Some bytes) mid now n m first second = HasPassed-then bytes n m mid now first second

-- the end comes in the second of two parts
pub rest_ends : (old mid now : Option (List ℕ)) (n m : ℕ) (fault : WavFault) → IfSome old (λ bytes. HasPassed n bytes mid) → IfSome mid (λ rest. EndsWithin m fault rest now) →
    IfSome old (λ bytes. EndsWithin (n + m) fault bytes now)
rest_ends None mid now n m fault first ends = tt
rest_ends (Some bytes) mid now n m fault first ends =
    let here : EndsWithin m fault (drop n bytes) now = rw first.rest at ends in
    elim here [
      | inl failed ↦ inl (failed.0, HasLost-after n m bytes now first.there failed.1)
      | inr early ↦ inr (early.0, omega (arith, early.1, length-drop n bytes, first.there), early.2)
    ]

-- the end comes within a greater bound
pub ends_within : (n m : ℕ) (fault : WavFault) (bytes : List ℕ) (now : Option (List ℕ)) → n ≤ m → EndsWithin n fault bytes now → EndsWithin m fault bytes now
ends_within n m fault bytes now low (inl failed) = inl (failed.0, HasLost-within n m bytes now low failed.1)
ends_within n m fault bytes now low (inr early) = inr (early.0, omega (arith, early.1), early.2)

-- the body ends early
pub ends_told : (old now : Option (List ℕ)) (size n : ℕ) (result : Result (Option Format) WavFault) (fault : WavFault) (said : List ℕ → Result (Option Format) WavFault) → result ≡ Err fault → n ≤ padded size →
    IfSome old (λ bytes. EndsWithin n fault bytes now) → IfSome old (λ bytes. ReadsBody (padded size) bytes now result (said bytes))
ends_told None now size n result fault said is low ends = tt
ends_told (Some bytes) now size n result fault said is low ends = rw is (inr (ends_within n (padded size) fault bytes now low ends))

-- the body was passed over
pub over_told : (old now : Option (List ℕ)) (format : Option Format) (is_format : Bool) (size : ℕ) → (is_some format ≡ true) ⊎ (is_format ≡ false) →
    IfSome old (λ bytes. HasPassed (padded size) bytes now) → IfSome old (λ bytes. ReadsBody (padded size) bytes now (Ok format) (format_after format is_format (fields_in size bytes)))
over_told None now format is_format size other passed = tt
over_told (Some bytes) now format is_format size other passed = (passed, keeps format is_format (fields_in size bytes) other)

-- the body was read, and this is said of it
reads_body : {T : Type 0} (count : ℕ) (bytes : List ℕ) (now : Option (List ℕ)) (result said : Result T WavFault) → HasPassed count bytes now → said ≡ result → ReadsBody count bytes now result said
reads_body count bytes now (Ok known) said passed is = (passed, is)
reads_body count bytes now (Err fault) said passed is = inl (passed, is)

-- its fields were read, and the rest was passed over
pub fields_told : (old mid now : Option (List ℕ)) (format : Option Format) (is_format : Bool) (size m : ℕ) (fields : List ℕ) (read : Result Format WavFault) (result : Result (Option Format) WavFault) →
    is_some format ≡ false → is_format ≡ true → length fields ≡ min size 40 → length fields + m ≡ padded size →
    IfSome old (λ bytes. take (length fields) bytes ≡ fields) → IfSome old (λ bytes. HasPassed (length fields) bytes mid) → IfSome mid (λ rest. HasPassed m rest now) →
    read ≡ format_of fields → result ≡ known_by read → IfSome old (λ bytes. ReadsBody (padded size) bytes now result (format_after format is_format (fields_in size bytes)))
fields_told None mid now format is_format size m fields read result first is long whole front passed rest said gives = tt
fields_told (Some bytes) mid now format is_format size m fields read result first is long whole front passed rest said gives =
    let all = HasPassed-then bytes (length fields) m mid now passed rest in
    let begins : fields_in size bytes ≡ fields = ap (λ n. take n bytes) (sym long) ∙ front in
    let P : ℕ → Type 0 = λ n. HasPassed n bytes now in
    reads_body (padded size) bytes now result (format_after format is_format (fields_in size bytes)) (subst P whole all)
    (tells format is_format (fields_in size bytes) first is
    ∙ (ap (λ l. known_by (format_of l)) begins
    ∙ (ap known_by (sym said) ∙ sym gives)))

-- a read failed, and fewer bytes than these are gone
pub lost_front : (old now : Option (List ℕ)) (n : ℕ) → ((front : List ℕ) × (length front < n) × Consumes old now front) →
    IfSome old (λ bytes. EndsWithin n Read bytes now)
lost_front None now n gone = tt
lost_front (Some bytes) None n gone = absurd gone.2
lost_front (Some bytes) (Some rest) n gone = inl (
  refl,
  record {
    count = length gone.0;
    low = omega (arith, gone.1);
    there = omega (arith, ap length gone.2, length-append gone.0 rest);
    rest = ap Some (sym (ap (drop (length gone.0)) gone.2 ∙ drop-append_seam gone.0 rest));
  },
)

-- the end or the fault comes behind bytes that were passed
pub stretch_ends : (old mid now : Option (List ℕ)) (n m most : ℕ) (fault : WavFault) → n + m ≤ most → IfSome old (λ bytes. HasPassed n bytes mid) →
    IfSome mid (λ rest. EndsWithin m fault rest now) → IfSome old (λ bytes. EndsWithin most fault bytes now)
stretch_ends None mid now n m most fault low first ends = tt
stretch_ends (Some bytes) mid now n m most fault low first ends = ends_within (n + m) most fault bytes now low (rest_ends (Some bytes) mid now n m fault first ends)

-- the cause of a fault behind reads that did not fail
pub FaultCause-from : (before mid now : ℕ) (fault : WavFault) → mid ≡ before → FaultCause mid now fault → FaultCause before now fault
FaultCause-from before mid now fault same cause = rw same at cause

pub FaultCause-as : {T : Type 0} (before now : ℕ) (result : Result T WavFault) (fault : WavFault) → result ≡ Err fault → FaultCause before now fault → IfErr result (FaultCause before now)
FaultCause-as before now result fault is cause = rw is cause

-- a read fault has its cause
pub FaultCause-rose : {T : Type 0} (before now : ℕ) (result : Result T WavFault) → IfErr result (FaultCause before now) → result ≡ Err Read → Rose before now
FaultCause-rose before now result cause is =
    let one : now ≡ count_after before = rw is at cause in
    omega (arith, one)
