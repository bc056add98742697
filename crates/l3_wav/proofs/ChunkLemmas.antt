-- What chunk after chunk tells of a file.
use Rattle.std.proofs.Common.{◌≡◌, ◌∙◌, sym, ap, subst, refl, ℕ, zero, suc, ◌+◌, ◌-◌, ◌*◌, ◌<◌, ◌≤◌, Bool, true, false, cond, List, [], length, take, drop, nat_lt, arith, inl, inr, length-drop}
use Rattle.std.specs.Prelude.{Option, Some, None, IfSome, Result, Ok, Err, bytes_eq, codes}
use Rattle.std.specs.Io.KnownBytes.{Consumes}
use Rattle.std.proofs.lemmas.List.{drop-drop}
use Rattle.std.proofs.lemmas.Bool.{cond-true, cond-false, lt-ltb, le-ltb, ltb-false}
use Rattle.l3_wav.specs.declared.fields.Format.{Format}
use Rattle.l3_wav.specs.declared.head.WavHead.{WavHead}
use Rattle.l3_wav.specs.declared.fault.WavFault.{WavFault}
use Rattle.l3_wav.specs.declared.fault.WavFault.TheVariants.{HeaderTooLong}
use Rattle.l3_wav.specs.Wav.{Said, u32_at, format_after, padded, fields_in, ends_early, head_by, after_body, head_limit, most_chunks, chunks_from}
use Rattle.l3_wav.proofs.ChunkForms.{chunk_after, chunk_by, chunks_from-suc}
use Rattle.l3_wav.proofs.TailLemmas.{chunk_by-tail, chunks_from-tail, body-tail, lost-before}
use Rattle.l3_wav.proofs.BodyLemmas.{gone-passed, HasPassed-then}
use Rattle.l3_wav.specs.Steps.{HasPassed, EndsWithin, ReadsBody, Opens}

cond-same : {A : Type 0} (b : Bool) (x y z : A) → (b ≡ false → y ≡ z) → cond b x y ≡ cond b x z
cond-same true x y z same = refl
cond-same false x y z same = same refl

after_body-same : (r : Result (Option Format) WavFault) (left : List ℕ) (f g : Option Format → Said) → ((known : Option Format) → f known ≡ g known) → after_body r left f ≡ after_body r left g
after_body-same (Ok known) left f g same = same known
after_body-same (Err fault) left f g same = refl

-- chunks are read alike where the chunks behind them are
chunk_after-same : (f g : Option Format → ℕ → List ℕ → Said) (format : Option Format) (read : ℕ) (is_data is_format : Bool) (size : ℕ) (body : List ℕ) →
    ((known : Option Format) (end : ℕ) (rest : List ℕ) → read + 8 ≤ end → end ≤ head_limit → f known end rest ≡ g known end rest) →
    chunk_after f format read is_data is_format size body ≡ chunk_after g format read is_data is_format size body
chunk_after-same f g format read true is_format size body alike = refl
chunk_after-same f g format read false is_format size body alike =
    let end = read + 8 + padded size in
    let rest = drop (padded size) body in
    let told = format_after format is_format (fields_in size body) in
    let with_f = after_body told rest (λ known. f known end rest) in
    let with_g = after_body told rest (λ known. g known end rest) in
    cond-same (nat_lt head_limit end) (record { answer = Err HeaderTooLong; left = body }) (cond (nat_lt (length body) (padded size)) ends_early with_f) (cond (nat_lt (length body) (padded size)) ends_early with_g)
    (λ short. cond-same (nat_lt (length body) (padded size)) ends_early with_f with_g
    (λ _. after_body-same told rest (λ known. f known end rest) (λ known. g known end rest) (λ known. alike known end rest (omega arith) (ltb-false head_limit end short))))

chunk_by-same : (f g : Option Format → ℕ → List ℕ → Said) (format : Option Format) (read : ℕ) (bytes : List ℕ) →
    ((known : Option Format) (end : ℕ) (rest : List ℕ) → read + 8 ≤ end → end ≤ head_limit → f known end rest ≡ g known end rest) →
    chunk_by f format read bytes ≡ chunk_by g format read bytes
chunk_by-same f g format read bytes alike =
    let head = take 8 bytes in
    cond-same (nat_lt (length bytes) 8) ends_early
    (chunk_after f format read (bytes_eq (take 4 head) (codes "data")) (bytes_eq (take 4 head) (codes "fmt ")) (u32_at head 4) (drop 8 bytes))
    (chunk_after g format read (bytes_eq (take 4 head) (codes "data")) (bytes_eq (take 4 head) (codes "fmt ")) (u32_at head 4) (drop 8 bytes))
    (λ _. chunk_after-same f g format read (bytes_eq (take 4 head) (codes "data")) (bytes_eq (take 4 head) (codes "fmt ")) (u32_at head 4) (drop 8 bytes) alike)

-- the count of chunks does not decide where it is great enough
pub chunks_from-more : (count more : ℕ) (format : Option Format) (read : ℕ) (bytes : List ℕ) → read ≤ head_limit → head_limit < 8 * count + read →
    chunks_from (count + more) format read bytes ≡ chunks_from count format read bytes
chunks_from-more zero more format read bytes within enough = absurd (omega arith)
chunks_from-more (suc count) more format read bytes within enough =
    let is : suc count + more ≡ suc (count + more) = omega arith in
    ap (λ k. chunks_from k format read bytes) is ∙ (chunks_from-suc (count + more) format read bytes
    ∙ (chunk_by-same (chunks_from (count + more)) (chunks_from count) format read bytes
    (λ known end rest low high. chunks_from-more count more known end rest high (omega (arith, enough, low)))
    ∙ sym (chunks_from-suc count format read bytes)))

-- so many bytes of a file were read, a chunk begins there, and the file says what the bytes from
-- there on say
pub record IsAt (bytes : List ℕ) (format : Option Format) (read : ℕ) (now : Option (List ℕ)) : Type 0 where
  pub count : ℕ
  pub passed : ℕ
  pub read_is : read ≡ 12 + passed
  pub enough : head_limit < 8 * count + read
  pub has : HasPassed passed bytes now
  pub told : chunks_from most_chunks None 12 bytes ≡ chunks_from count format read (drop passed bytes)

-- the same behind the 8 bytes that a chunk begins with
pub record IsInChunk (bytes : List ℕ) (format : Option Format) (read : ℕ) (is_data is_format : Bool) (size : ℕ) (now : Option (List ℕ)) : Type 0 where
  pub count : ℕ
  pub passed : ℕ
  pub read_is : read ≡ 12 + passed
  pub enough : head_limit < 8 * count + (read + 8)
  pub has : HasPassed (passed + 8) bytes now
  pub told : chunks_from most_chunks None 12 bytes ≡ chunk_after (chunks_from count) format read is_data is_format size (drop (passed + 8) bytes)

-- the answer is what was said
pub opens_as : (bytes : List ℕ) (said is : Said) (result : Result WavHead WavFault) (now : Option (List ℕ)) → said ≡ is → is.answer ≡ result → now ≡ Some is.left → Opens bytes result now said
opens_as bytes said is result now same answer left = inr (ap (λ s. s.answer) same ∙ answer, left ∙ ap (λ s. Some s.left) (sym same))

-- at the first chunk
pub IsAt-first : (old : Option (List ℕ)) → IfSome old (λ bytes. IsAt bytes None 12 old)
IsAt-first None = tt
IsAt-first (Some bytes) = record {
  count = most_chunks;
  passed = 0;
  read_is = refl;
  enough = omega arith;
  has = record { there = omega arith; rest = refl };
  told = refl;
}

-- one chunk more may be looked at
one_more : (count read : ℕ) (format : Option Format) (bytes : List ℕ) (said : Said) → read ≤ head_limit → head_limit < 8 * count + read →
    said ≡ chunks_from count format read bytes → (k : ℕ) × (head_limit < 8 * k + (read + 8)) × (said ≡ chunk_by (chunks_from k) format read bytes)
one_more zero read format bytes said within enough told = absurd (omega arith)
one_more (suc k) read format bytes said within enough told = (k, omega (arith, enough), told ∙ chunks_from-suc k format read bytes)

-- the bytes gone at a chunk's begin
pub gone_at : (old now : Option (List ℕ)) (format : Option Format) (read : ℕ) → IfSome old (λ bytes. IsAt bytes format read now) →
    (bytes : List ℕ) × (length bytes ≤ read - 12) × Consumes old now bytes
gone_at None now format read at = ([], omega arith, tt)
gone_at (Some bytes) now format read at =
    let gone = gone-passed (Some bytes) now at.passed at.has in
    (gone.0, omega (arith, gone.1, at.read_is), gone.2)

-- the file ends before a chunk's 8 bytes
pub chunk_ends : (old mid now : Option (List ℕ)) (format : Option Format) (read : ℕ) (fault : WavFault) → IfSome old (λ bytes. IsAt bytes format read mid) → read ≤ head_limit →
    IfSome mid (λ rest. EndsWithin 8 fault rest now) → IfSome old (λ bytes. Opens bytes (Err fault) now (chunks_from most_chunks None 12 bytes))
chunk_ends None mid now format read fault at within ends = tt
chunk_ends (Some bytes) mid now format read fault at within ends =
    let rest = drop at.passed bytes in
    let here : EndsWithin 8 fault rest now = rw at.has.rest at ends in
    let more = one_more at.count read format rest (chunks_from most_chunks None 12 bytes) within at.enough at.told in
    elim here [
      | inl failed ↦
          let tail = chunk_by-tail (chunks_from more.0) (chunks_from-tail more.0) format read rest in
          let end = rw (← more.2) at tail in
          inl (ap Err failed.0, lost-before at.passed 8 bytes (chunks_from most_chunks None 12 bytes).left now at.has.there failed.1 end)
      | inr early ↦
          let said : chunks_from most_chunks None 12 bytes ≡ ends_early = more.2 ∙ cond-true _ _ _ (lt-ltb (length rest) 8 early.1) in
          opens_as bytes (chunks_from most_chunks None 12 bytes) ends_early (Err fault) now said (ap Err (sym early.0)) early.2
    ]

-- the 8 bytes are there
pub chunk_begins : (old mid now : Option (List ℕ)) (format : Option Format) (read size : ℕ) (is_data is_format : Bool) (head : List ℕ) → IfSome old (λ bytes. IsAt bytes format read mid) → read ≤ head_limit →
    length head ≡ 8 → IfSome mid (λ rest. take (length head) rest ≡ head) → IfSome mid (λ rest. HasPassed (length head) rest now) →
    size ≡ u32_at head 4 → is_data ≡ bytes_eq (take 4 head) (codes "data") → is_format ≡ bytes_eq (take 4 head) (codes "fmt ") →
    IfSome old (λ bytes. IsInChunk bytes format read is_data is_format size now)
chunk_begins None mid now format read size is_data is_format head at within long front passed is_size is_d is_f = tt
chunk_begins (Some bytes) mid now format read size is_data is_format head at within long front passed is_size is_d is_f =
    let rest = drop at.passed bytes in
    let more = one_more at.count read format rest (chunks_from most_chunks None 12 bytes) within at.enough at.told in
    let first : take (length head) rest ≡ head = rw at.has.rest at front in
    let is : take 8 rest ≡ head = ap (λ n. take n rest) (sym long) ∙ first in
    let whole : HasPassed (at.passed + length head) bytes now = HasPassed-then bytes at.passed (length head) mid now at.has passed in
    let there : 8 ≤ length rest = omega (arith, whole.there, long, length-drop at.passed bytes) in
    let P : ℕ → Type 0 = λ n. HasPassed (at.passed + n) bytes now in
    let begun : chunk_by (chunks_from more.0) format read rest ≡ chunk_after (chunks_from more.0) format read is_data is_format size (drop (at.passed + 8) bytes) =
    cond-false _ _ _ (le-ltb (length rest) 8 there) ∙ (same (chunks_from more.0) rest is ∙ ap (λ l. chunk_after (chunks_from more.0) format read is_data is_format size l) (drop-drop 8 at.passed bytes)) in
    record {
      count = more.0;
      passed = at.passed;
      read_is = at.read_is;
      enough = more.1;
      has = subst P long whole;
      told = more.2 ∙ begun;
    }
  where
    same : (next : Option Format → ℕ → List ℕ → Said) (rest : List ℕ) → take 8 rest ≡ head →
        chunk_after next format read (bytes_eq (take 4 (take 8 rest)) (codes "data")) (bytes_eq (take 4 (take 8 rest)) (codes "fmt ")) (u32_at (take 8 rest) 4) (drop 8 rest)
        ≡ chunk_after next format read is_data is_format size (drop 8 rest)
    same next rest is = rw (is, is_d, is_f, is_size) refl

-- the data begins
pub opens_data : (old now : Option (List ℕ)) (format : Option Format) (read size : ℕ) (is_data is_format : Bool) (result : Result WavHead WavFault) →
    IfSome old (λ bytes. IsInChunk bytes format read is_data is_format size now) → is_data ≡ true →
    result ≡ head_by format size → IfSome old (λ bytes. Opens bytes result now (chunks_from most_chunks None 12 bytes))
opens_data None now format read size is_data is_format result at is gives = tt
opens_data (Some bytes) now format read size is_data is_format result at is gives =
    opens_as bytes (chunks_from most_chunks None 12 bytes) (record { answer = head_by format size; left = drop (at.passed + 8) bytes }) result now (at.told ∙ cond-true _ _ _ is) (sym gives) at.has.rest

-- the chunk would end behind the limit
pub too_long : (old now : Option (List ℕ)) (format : Option Format) (read size : ℕ) (is_data is_format : Bool) →
    IfSome old (λ bytes. IsInChunk bytes format read is_data is_format size now) → is_data ≡ false → head_limit < read + 8 + padded size →
    IfSome old (λ bytes. Opens bytes (Err HeaderTooLong) now (chunks_from most_chunks None 12 bytes))
too_long None now format read size is_data is_format at other long = tt
too_long (Some bytes) now format read size is_data is_format at other long =
    opens_as bytes (chunks_from most_chunks None 12 bytes) (record { answer = Err HeaderTooLong; left = drop (at.passed + 8) bytes }) (Err HeaderTooLong) now
    (at.told ∙ (cond-false _ _ _ other ∙ cond-true _ _ _ (lt-ltb head_limit (read + 8 + padded size) long))) refl at.has.rest

-- the chunk is within the limit
in_body : (bytes : List ℕ) (now : Option (List ℕ)) (format : Option Format) (read size : ℕ) (is_data is_format : Bool) (at : IsInChunk bytes format read is_data is_format size now) → is_data ≡ false → read + 8 + padded size ≤ head_limit →
    let body = drop (at.passed + 8) bytes in
    let rest = drop (padded size) body in
    chunks_from most_chunks None 12 bytes ≡ cond (nat_lt (length body) (padded size)) ends_early
    (after_body (format_after format is_format (fields_in size body)) rest (λ known. chunks_from at.count known (read + 8 + padded size) rest))
in_body bytes now format read size is_data is_format at other within = at.told ∙ (cond-false _ _ _ other ∙ cond-false _ _ _ (le-ltb head_limit (read + 8 + padded size) within))

-- and its body is there
whole_body : (bytes : List ℕ) (now next : Option (List ℕ)) (format : Option Format) (read size : ℕ) (is_data is_format : Bool) (at : IsInChunk bytes format read is_data is_format size now) → is_data ≡ false → read + 8 + padded size ≤ head_limit →
    (told : Result (Option Format) WavFault) →
    let body = drop (at.passed + 8) bytes in
    let rest = drop (padded size) body in
    HasPassed (padded size) body next → format_after format is_format (fields_in size body) ≡ told →
    chunks_from most_chunks None 12 bytes ≡ after_body told rest (λ known. chunks_from at.count known (read + 8 + padded size) rest)
whole_body bytes now next format read size is_data is_format at other within told passed is =
    let body = drop (at.passed + 8) bytes in
    let rest = drop (padded size) body in
    in_body bytes now format read size is_data is_format at other within ∙ (cond-false _ _ _ (le-ltb (length body) (padded size) passed.there)
    ∙ ap (λ r. after_body r rest (λ known. chunks_from at.count known (read + 8 + padded size) rest)) is)

-- the body is refused
pub body_refused : (old mid now : Option (List ℕ)) (format : Option Format) (read size : ℕ) (is_data is_format : Bool) (fault : WavFault) →
    IfSome old (λ bytes. IsInChunk bytes format read is_data is_format size mid) → is_data ≡ false → read + 8 + padded size ≤ head_limit →
    IfSome mid (λ rest. ReadsBody (padded size) rest now (Err fault) (format_after format is_format (fields_in size rest))) → IfSome old (λ bytes. Opens bytes (Err fault) now (chunks_from most_chunks None 12 bytes))
body_refused None mid now format read size is_data is_format fault at other within reads = tt
body_refused (Some bytes) mid now format read size is_data is_format fault at other within reads =
    let said = chunks_from most_chunks None 12 bytes in
    let body = drop (at.passed + 8) bytes in
    let here : ReadsBody (padded size) body now (Err fault) (format_after format is_format (fields_in size body)) = rw at.has.rest at reads in
    elim here [
      | inl refuses ↦ opens_as bytes said (record { answer = Err fault; left = drop (padded size) body }) (Err fault) now
          (whole_body bytes mid now format read size is_data is_format at other within (Err fault) refuses.0 refuses.1) refl refuses.0.rest
      | inr ends ↦ elim ends [
        | inl failed ↦
            let told = format_after format is_format (fields_in size body) in
            let end = read + 8 + padded size in
            let rest = drop (padded size) body in
            let tail = body-tail told size body (λ known. chunks_from at.count known end rest) (λ known. chunks_from-tail at.count known end rest) in
            let is = in_body bytes mid format read size is_data is_format at other within in
            inl (ap Err failed.0, lost-before (at.passed + 8) (padded size) bytes said.left now at.has.there failed.1 (rw (← is) at tail))
        | inr early ↦ opens_as bytes said ends_early (Err fault) now
            (in_body bytes mid format read size is_data is_format at other within ∙ cond-true _ _ _ (lt-ltb (length body) (padded size) early.1)) (ap Err (sym early.0)) early.2
      ]
    ]

-- the next chunk begins
pub goes_on : (old mid now : Option (List ℕ)) (format known : Option Format) (read size : ℕ) (is_data is_format : Bool) →
    IfSome old (λ bytes. IsInChunk bytes format read is_data is_format size mid) → is_data ≡ false → read + 8 + padded size ≤ head_limit →
    IfSome mid (λ rest. ReadsBody (padded size) rest now (Ok known) (format_after format is_format (fields_in size rest))) →
    IfSome old (λ bytes. IsAt bytes known (read + 8 + padded size) now)
goes_on None mid now format known read size is_data is_format at other within reads = tt
goes_on (Some bytes) mid now format known read size is_data is_format at other within reads =
    let body = drop (at.passed + 8) bytes in
    let here : ReadsBody (padded size) body now (Ok known) (format_after format is_format (fields_in size body)) = rw at.has.rest at reads in
    record {
      count = at.count;
      passed = at.passed + 8 + padded size;
      read_is = omega (arith, at.read_is);
      enough = omega (arith, at.enough);
      has = record { there = omega (arith, here.0.there, at.has.there, length-drop (at.passed + 8) bytes); rest = here.0.rest ∙ ap Some (drop-drop (padded size) (at.passed + 8) bytes) };
      told = whole_body bytes mid now format read size is_data is_format at other within (Ok known) here.0 here.1
          ∙ ap (λ l. chunks_from at.count known (read + 8 + padded size) l) (drop-drop (padded size) (at.passed + 8) bytes);
    }

-- an answer that is this fault
pub fault_told : (old now : Option (List ℕ)) (result : Result WavHead WavFault) (fault : WavFault) (said : List ℕ → Said) → result ≡ Err fault →
    IfSome old (λ bytes. Opens bytes (Err fault) now (said bytes)) → IfSome old (λ bytes. Opens bytes result now (said bytes))
fault_told None now result fault said is told = tt
fault_told (Some bytes) now result fault said is told = rw is told
