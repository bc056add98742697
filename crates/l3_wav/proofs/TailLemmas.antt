-- What a file leaves behind its head is an end of it.
use Rattle.std.proofs.Common.{◌≡◌, ◌∙◌, sym, ap, refl, ℕ, zero, suc, ◌+◌, ◌-◌, ◌≤◌, Bool, true, false, List, [], length, take, drop, min, nat_lt, arith, length-drop}
use Rattle.std.specs.Prelude.{Option, Some, None, Result, Ok, Err, if◌then◌else◌}
use Rattle.std.proofs.lemmas.List.{drop-drop}
use Rattle.std.proofs.lemmas.Bool.{cond_both, ltb-false}
use Rattle.std.proofs.Math.Seq.{drop-length}
use Rattle.l3_wav.specs.declared.fields.Format.{Format}
use Rattle.l3_wav.specs.declared.fault.WavFault.{WavFault}
use Rattle.l3_wav.specs.declared.fault.WavFault.TheVariants.{HeaderTooLong, NotRiff}
use Rattle.l3_wav.specs.Wav.{Said, format_after, padded, fields_in, ends_early, after_body, head_limit, most_chunks, chunks_from, is_riff, file_of, HasLost}
use Rattle.l3_wav.proofs.ChunkForms.{chunk_after, chunk_by}

-- these bytes are what follows the first so many or more of others, or what follows all of them
pub record IsTail (low : ℕ) (bytes left : List ℕ) : Type 0 where
  pub count : ℕ
  pub there : count ≤ length bytes
  pub far : min low (length bytes) ≤ count
  pub is : left ≡ drop count bytes

IsTail-none : (low : ℕ) (bytes : List ℕ) → IsTail low bytes []
IsTail-none low bytes = record { count = length bytes; there = omega arith; far = omega arith; is = sym (drop-length bytes) }

IsTail-after : (low n : ℕ) (bytes : List ℕ) → low ≤ n → n ≤ length bytes → IsTail low bytes (drop n bytes)
IsTail-after low n bytes most there = record { count = n; there = there; far = omega (arith, most); is = refl }

IsTail-then : (n low : ℕ) (bytes left : List ℕ) → n ≤ length bytes → IsTail low (drop n bytes) left → IsTail (n + low) bytes left
IsTail-then n low bytes left there tail = record {
  count = n + tail.count;
  there = omega (arith, there, tail.there, length-drop n bytes);
  far = omega (arith, there, tail.far, length-drop n bytes);
  is = tail.is ∙ drop-drop tail.count n bytes;
}

pub IsTail-low : (n low : ℕ) (bytes left : List ℕ) → low ≤ n → IsTail n bytes left → IsTail low bytes left
IsTail-low n low bytes left most tail = record { count = tail.count; there = tail.there; far = omega (arith, most, tail.far); is = tail.is }

-- its length
pub IsTail-long : (low : ℕ) (bytes left : List ℕ) → IsTail low bytes left → length left ≤ length bytes - low
IsTail-long low bytes left tail = omega (arith, tail.there, tail.far, ap length tail.is, length-drop tail.count bytes)

-- so it is what is left where just the bytes before it are gone
pub IsTail-lost : (low : ℕ) (bytes left : List ℕ) (now : Option (List ℕ)) → IsTail low bytes left → now ≡ Some left → HasLost (length bytes - length left) bytes now
IsTail-lost low bytes left now tail is = record {
  count = tail.count;
  low = omega (arith, tail.there, ap length tail.is, length-drop tail.count bytes);
  there = tail.there;
  rest = is ∙ ap Some tail.is;
}

after_body-tail : (told : Result (Option Format) WavFault) (rest : List ℕ) (next : Option Format → Said) → ((known : Option Format) → IsTail 0 rest (next known).left) →
    IsTail 0 rest (after_body told rest next).left
after_body-tail (Ok known) rest next tails = tails known
after_body-tail (Err fault) rest next tails = IsTail-after 0 0 rest (omega arith) (omega arith)

-- behind a body that is read
pub body-tail : (told : Result (Option Format) WavFault) (size : ℕ) (body : List ℕ) (next : Option Format → Said) →
    ((known : Option Format) → IsTail 0 (drop (padded size) body) (next known).left) →
    IsTail (padded size) body (if nat_lt (length body) (padded size) then ends_early else after_body told (drop (padded size) body) next).left
body-tail told size body next tails =
    cond_both {A = Said} (nat_lt (length body) (padded size)) ends_early (after_body told (drop (padded size) body) next) (λ s. IsTail (padded size) body s.left)
    (λ short. IsTail-none (padded size) body)
    (λ long. IsTail-low (padded size + 0) (padded size) body _ (omega arith) (IsTail-then (padded size) 0 body _ (ltb-false (length body) (padded size) long) (after_body-tail told (drop (padded size) body) next tails)))

chunk_after-tail : (next : Option Format → ℕ → List ℕ → Said) → ((known : Option Format) (end : ℕ) (rest : List ℕ) → IsTail 0 rest (next known end rest).left) →
    (format : Option Format) (read : ℕ) (is_data is_format : Bool) (size : ℕ) (body : List ℕ) → IsTail 0 body (chunk_after next format read is_data is_format size body).left
chunk_after-tail next tails format read true is_format size body = IsTail-after 0 0 body (omega arith) (omega arith)
chunk_after-tail next tails format read false is_format size body =
    let end = read + 8 + padded size in
    let rest = drop (padded size) body in
    let told = format_after format is_format (fields_in size body) in
    cond_both {A = Said} (nat_lt head_limit end) (record { answer = Err HeaderTooLong; left = body }) _ (λ s. IsTail 0 body s.left)
    (λ long. IsTail-after 0 0 body (omega arith) (omega arith))
    (λ within. IsTail-low (padded size) 0 body _ (omega arith) (body-tail told size body (λ known. next known end rest) (λ known. tails known end rest)))

pub chunk_by-tail : (next : Option Format → ℕ → List ℕ → Said) → ((known : Option Format) (end : ℕ) (rest : List ℕ) → IsTail 0 rest (next known end rest).left) →
    (format : Option Format) (read : ℕ) (bytes : List ℕ) → IsTail 8 bytes (chunk_by next format read bytes).left
chunk_by-tail next tails format read bytes =
    cond_both {A = Said} (nat_lt (length bytes) 8) ends_early _ (λ s. IsTail 8 bytes s.left)
    (λ short. IsTail-none 8 bytes)
    (λ long. IsTail-then 8 0 bytes _ (ltb-false (length bytes) 8 long) (chunk_after-tail next tails format read _ _ _ (drop 8 bytes)))

pub chunks_from-tail : (count : ℕ) (format : Option Format) (read : ℕ) (bytes : List ℕ) → IsTail 0 bytes (chunks_from count format read bytes).left
unfolding chunks_from
chunks_from-tail zero format read bytes = IsTail-after 0 0 bytes (omega arith) (omega arith)
chunks_from-tail (suc count) format read bytes =
    IsTail-low 8 0 bytes _ (omega arith) (chunk_by-tail (chunks_from count) (chunks_from-tail count) format read bytes)

pub file_of-tail : (bytes : List ℕ) → IsTail 12 bytes (file_of bytes).left
unfolding file_of
file_of-tail bytes =
    let rest = drop 12 bytes in
    cond_both {A = Said} (nat_lt (length bytes) 12) ends_early _ (λ s. IsTail 12 bytes s.left)
    (λ short. IsTail-none 12 bytes)
    (λ long.
    let there : 12 ≤ length bytes = ltb-false (length bytes) 12 long in
    cond_both {A = Said} (is_riff (take 12 bytes)) (chunks_from most_chunks None 12 rest) (record { answer = Err NotRiff; left = rest }) (λ s. IsTail 12 bytes s.left)
    (λ riff. IsTail-then 12 0 bytes _ there (chunks_from-tail most_chunks None 12 rest))
    (λ other. IsTail-after 12 12 bytes (omega arith) there))

-- bytes gone behind others that were passed
pub HasLost-after : (n most : ℕ) (bytes : List ℕ) (now : Option (List ℕ)) → n ≤ length bytes → HasLost most (drop n bytes) now → HasLost (n + most) bytes now
HasLost-after n most bytes now there lost = record {
  count = n + lost.count;
  low = omega (arith, lost.low);
  there = omega (arith, there, lost.there, length-drop n bytes);
  rest = lost.rest ∙ ap Some (drop-drop lost.count n bytes);
}

pub HasLost-within : (most more : ℕ) (bytes : List ℕ) (now : Option (List ℕ)) → most ≤ more → HasLost most bytes now → HasLost more bytes now
HasLost-within most more bytes now low lost = record { count = lost.count; low = omega (arith, low, lost.low); there = lost.there; rest = lost.rest }

-- bytes gone before a tail, of those that go before it
pub lost-before : (n most : ℕ) (bytes left : List ℕ) (now : Option (List ℕ)) → n ≤ length bytes → HasLost most (drop n bytes) now → IsTail most (drop n bytes) left →
    HasLost (length bytes - length left) bytes now
lost-before n most bytes left now there lost tail =
    let gone = HasLost-after n most bytes now there lost in
    record {
      count = gone.count;
      low = omega (arith, lost.low, lost.there, there, IsTail-long most (drop n bytes) left tail, tail.there, ap length tail.is, length-drop tail.count (drop n bytes), length-drop n bytes, tail.far);
      there = gone.there;
      rest = gone.rest;
    }
