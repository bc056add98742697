-- What the head of RIFF and the chunks behind it tell of a file.
use Rattle.std.proofs.Common.{◌≡◌, ◌∙◌, sym, ap, refl, ℕ, ◌+◌, ◌-◌, ◌<◌, ◌≤◌, length-drop, true, false, List, length, take, drop, arith, inl, inr, ◌⊎◌}
use Rattle.std.specs.Prelude.{Option, Some, None, IfSome, Result, Ok, Err, OnOk, OnErr}
use Rattle.std.proofs.lemmas.Bool.{cond-true, cond-false, lt-ltb, le-ltb}
use Rattle.l3_io.specs.Causes.{Rose}
use Rattle.l3_wav.specs.declared.head.WavHead.{WavHead}
use Rattle.l3_wav.specs.declared.fault.WavFault.{WavFault}
use Rattle.l3_wav.specs.declared.fault.WavFault.TheVariants.{NotRiff, Read}
use Rattle.l3_wav.specs.Wav.{ends_early, is_riff, most_chunks, chunks_from, file_of, wav_of, after_head, HasLost, OpenGives}
use Rattle.l3_wav.specs.Steps.{HasPassed, EndsWithin, Opens}
use Rattle.l3_wav.proofs.TailLemmas.{IsTail-long, IsTail-lost, HasLost-after, HasLost-within, lost-before, chunks_from-tail, file_of-tail}
use Rattle.l3_wav.proofs.ChunkLemmas.{opens_as}

-- a file that is too short for the head of RIFF
file_ends : (bytes : List ℕ) → length bytes < 12 → file_of bytes ≡ ends_early
unfolding file_of
file_ends bytes short = cond-true _ _ _ (lt-ltb _ _ short)

-- one of another form, and one of RIFF
file_other : (bytes : List ℕ) → 12 ≤ length bytes → is_riff (take 12 bytes) ≡ false → file_of bytes ≡ record { answer = Err NotRiff; left = drop 12 bytes }
unfolding file_of
file_other bytes long other = cond-false _ _ _ (le-ltb _ _ long) ∙ cond-false _ _ _ other

file_chunks : (bytes : List ℕ) → 12 ≤ length bytes → is_riff (take 12 bytes) ≡ true → file_of bytes ≡ chunks_from most_chunks None 12 (drop 12 bytes)
unfolding file_of
file_chunks bytes long is = cond-false _ _ _ (le-ltb _ _ long) ∙ cond-true _ _ _ is

-- the file ends in the first 12 bytes
pub riff_ends : (old now : Option (List ℕ)) (fault : WavFault) → IfSome old (λ bytes. EndsWithin 12 fault bytes now) → IfSome old (λ bytes. Opens bytes (Err fault) now (file_of bytes))
riff_ends None now fault ends = tt
riff_ends (Some bytes) now fault (inl failed) = inl (ap Err failed.0, lost-before 0 12 bytes (file_of bytes).left now (omega arith) failed.1 (file_of-tail bytes))
riff_ends (Some bytes) now fault (inr early) = opens_as bytes (file_of bytes) ends_early (Err fault) now (file_ends bytes early.1) (ap Err (sym early.0)) early.2

-- they were read, and are of another form
pub not_riff : (old mid : Option (List ℕ)) (head : List ℕ) → length head ≡ 12 → IfSome old (λ bytes. take (length head) bytes ≡ head) → IfSome old (λ bytes. HasPassed (length head) bytes mid) →
    is_riff head ≡ false → IfSome old (λ bytes. Opens bytes (Err NotRiff) mid (file_of bytes))
not_riff None mid head long front passed other = tt
not_riff (Some bytes) mid head long front passed other =
    let is : take 12 bytes ≡ head = ap (λ n. take n bytes) (sym long) ∙ front in
    let rest : mid ≡ Some (drop 12 bytes) = passed.rest ∙ ap (λ n. Some (drop n bytes)) long in
    opens_as bytes (file_of bytes) (record { answer = Err NotRiff; left = drop 12 bytes }) (Err NotRiff) mid (file_other bytes (omega (arith, passed.there, long)) (ap is_riff is ∙ other)) refl rest

-- they are of RIFF, and the chunks behind them tell
pub riff_chunks : (old mid now : Option (List ℕ)) (head : List ℕ) (result : Result WavHead WavFault) → length head ≡ 12 → IfSome old (λ bytes. take (length head) bytes ≡ head) →
    IfSome old (λ bytes. HasPassed (length head) bytes mid) → is_riff head ≡ true → IfSome mid (λ bytes. Opens bytes result now (chunks_from most_chunks None 12 bytes)) →
    IfSome old (λ bytes. Opens bytes result now (file_of bytes))
riff_chunks None mid now head result long front passed riff told = tt
riff_chunks (Some bytes) mid now head result long front passed riff told =
    let is : take 12 bytes ≡ head = ap (λ n. take n bytes) (sym long) ∙ front in
    let rest : mid ≡ Some (drop 12 bytes) = passed.rest ∙ ap (λ n. Some (drop n bytes)) long in
    let there : 12 ≤ length bytes = omega (arith, passed.there, long) in
    let here : Opens (drop 12 bytes) result now (chunks_from most_chunks None 12 (drop 12 bytes)) = rw rest at told in
    rw (file_chunks bytes there (ap is_riff is ∙ riff)) (behind bytes there here)
  where
    behind : (bytes : List ℕ) → 12 ≤ length bytes → Opens (drop 12 bytes) result now (chunks_from most_chunks None 12 (drop 12 bytes)) →
        Opens bytes result now (chunks_from most_chunks None 12 (drop 12 bytes))
    behind bytes there (inl failed) = inl (
      failed.0,
      HasLost-within (12 + (length (drop 12 bytes) - length (chunks_from most_chunks None 12 (drop 12 bytes)).left)) _ bytes now
          (omega (arith, there, length-drop 12 bytes, IsTail-long 0 (drop 12 bytes) _ (chunks_from-tail most_chunks None 12 (drop 12 bytes))))
          (HasLost-after 12 _ bytes now there failed.1),
    )
    behind bytes there (inr is) = inr is

pub said_answer : (bytes : List ℕ) → wav_of bytes ≡ (file_of bytes).answer
unfolding wav_of
said_answer bytes = refl

pub said_left : (bytes : List ℕ) → after_head bytes ≡ (file_of bytes).left
unfolding after_head
said_left bytes = refl

-- a read fault has its cause, and any other answer is the file's own
gives_as : (before after : ℕ) (result file : Result WavHead WavFault) → (result ≡ Err Read) ⊎ (file ≡ result) → (result ≡ Err Read → Rose before after) → OpenGives before after result file
gives_as before after (Ok head) file (inl failed) rose = absurd cc
gives_as before after (Ok head) file (inr is) rose = is
gives_as before after (Err Read) file told rose = rose refl
gives_as before after (Err fault) file (inl failed) rose = absurd cc
gives_as before after (Err fault) file (inr is) rose = is

-- so the answer is the file's
pub open_told : (old now : Option (List ℕ)) (before after : ℕ) (result : Result WavHead WavFault) → IfSome old (λ bytes. Opens bytes result now (file_of bytes)) → (result ≡ Err Read → Rose before after) →
    IfSome old (λ bytes. OpenGives before after result (wav_of bytes))
open_told None now before after result opens rose = tt
open_told (Some bytes) now before after result opens rose =
    let own : (result ≡ Err Read) ⊎ (wav_of bytes ≡ result) = elim opens [ inl failed ↦ inl failed.0 | inr is ↦ inr (said_answer bytes ∙ is.0) ] in
    gives_as before after result (wav_of bytes) own rose

-- and so is what is left, where no read failed
left_by : (old now : Option (List ℕ)) (result : Result WavHead WavFault) → IfSome old (λ bytes. Opens bytes result now (file_of bytes)) → (result ≡ Err Read → ⊥) → IfSome old (λ bytes. now ≡ Some (after_head bytes))
left_by None now result opens own = tt
left_by (Some bytes) now result (inl failed) own = absurd (own failed.0)
left_by (Some bytes) now result (inr is) own = is.1 ∙ ap Some (sym (said_left bytes))

pub open_rest : (old now : Option (List ℕ)) (result : Result WavHead WavFault) → IfSome old (λ bytes. Opens bytes result now (file_of bytes)) →
    OnOk result (IfSome old (λ bytes. now ≡ Some (after_head bytes)))
open_rest old now (Ok head) opens = left_by old now (Ok head) opens (λ never. cc)
open_rest old now (Err fault) opens = tt

pub open_refused : (old now : Option (List ℕ)) (result : Result WavHead WavFault) → IfSome old (λ bytes. Opens bytes result now (file_of bytes)) →
    OnErr result ((result ≡ Err Read → ⊥) → IfSome old (λ bytes. now ≡ Some (after_head bytes)))
open_refused old now (Ok head) opens = tt
open_refused old now (Err fault) opens = left_by old now (Err fault) opens

-- where a read failed, some of the bytes before that are gone
pub open_lost : (old now : Option (List ℕ)) (result : Result WavHead WavFault) → IfSome old (λ bytes. Opens bytes result now (file_of bytes)) →
    IfSome old (λ bytes. HasLost (length bytes - length (after_head bytes)) bytes now)
open_lost None now result opens = tt
open_lost (Some bytes) now result (inl failed) = rw (said_left bytes) failed.1
open_lost (Some bytes) now result (inr is) = rw (said_left bytes) (IsTail-lost 12 bytes (file_of bytes).left now (file_of-tail bytes) is.1)

-- a read fault that is handed on has its cause
pub rose_as : {T : Type 0} (first : Result T WavFault) (result : Result WavHead WavFault) (fault : WavFault) (R : Type 0) → first ≡ Err fault → result ≡ Err fault → (first ≡ Err Read → R) → result ≡ Err Read → R
rose_as first result fault R was is rose failed = rose (let same : fault ≡ Read = cc in was ∙ ap Err same)

-- a fault of the file's own is no read fault
pub own_fault : (R : Type 0) → (let fault : Result WavHead WavFault = Err NotRiff in fault) ≡ Err Read → R
own_fault R clash = cc
