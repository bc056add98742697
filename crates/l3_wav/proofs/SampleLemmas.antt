-- Values of bytes, block by block.
use Rattle.std.proofs.Common.{◌≡◌, ◌∙◌, sym, ap, refl, ℕ, zero, suc, ◌+◌, ◌-◌, ◌*◌, ◌/◌, ◌%◌, ◌<◌, ◌≤◌, Bool, true, false, List, [], ◌∷◌, ◌++◌, ℤ, length, take, drop, arith, inl, inr, ◌⊎◌, min, nat_lt, nat_eq, length-append, length-take-le, length-drop}
use Rattle.std.specs.Prelude.{Option, Some, None, IfSome, Result, Ok, Err, OnErr, if◌then◌else◌}
use Rattle.std.proofs.lemmas.List.{length-take, take-take, drop-take, drop-drop, take-append-le, append-nil}
use Rattle.std.proofs.lemmas.Bool.{cases_lt, lt-ltb, le-ltb, eqb-true, eqb-false}
use Rattle.std.proofs.Math.Seq.{take-add, drop-length, drop-append_seam, take-length}
use Rattle.std.specs.Io.KnownBytes.{Consumes, IsAtEnd}
use borrow.Rule.Slice.PartMut.{put_mid}
use Rattle.l3_io.specs.Causes.{HasCause, count_after}
use Rattle.l3_io.proofs.ReadLemmas.{take-put_mid-add, Consumes-then}
use Rattle.l3_base.specs.declared.rate.Channels.{Channels}
use Rattle.l3_base.specs.declared.rate.Channels.TheVariants.{Mono, Stereo}
use Rattle.l3_base.specs.Rates.{channels_of}
use Rattle.l3_wav.proofs.HeadLemmas.{take-front}
use Rattle.l3_wav.specs.Samples.{SamplesState, value_of, values_of, block_align, whole_bytes, whole_samples, unread, coming, ReadsValues, ReadsBlock}

twice : (n : ℕ) → 2 * suc n ≡ suc (suc (2 * n))
twice n = omega arith

pub take-values_of : (n : ℕ) (xs : List ℕ) → take n (values_of xs) ≡ values_of (take (2 * n) xs)
take-values_of zero xs = refl
take-values_of (suc n) [] = rw (twice n) refl
take-values_of (suc n) (a ∷ []) = rw (twice n) refl
take-values_of (suc n) (a ∷ b ∷ xs) = rw (twice n) (ap (λ l. value_of a b ∷ l) (take-values_of n xs))

pub drop-values_of : (n : ℕ) (xs : List ℕ) → drop n (values_of xs) ≡ values_of (drop (2 * n) xs)
drop-values_of zero xs = refl
drop-values_of (suc n) [] = rw (twice n) refl
drop-values_of (suc n) (a ∷ []) = rw (twice n) refl
drop-values_of (suc n) (a ∷ b ∷ xs) = rw (twice n) (drop-values_of n xs)

pub length-values_of : (n : ℕ) (xs : List ℕ) → length xs ≡ 2 * n → length (values_of xs) ≡ n
length-values_of zero [] is = refl
length-values_of zero (a ∷ xs) is = absurd (omega (arith, is))
length-values_of (suc n) [] is = absurd (omega (arith, is))
length-values_of (suc n) (a ∷ []) is = absurd (omega (arith, is))
length-values_of (suc n) (a ∷ b ∷ xs) is = ap suc (length-values_of n xs (omega (arith, is)))

pub values_of-append : (n : ℕ) (xs ys : List ℕ) → length xs ≡ 2 * n → values_of (xs ++ ys) ≡ values_of xs ++ values_of ys
values_of-append zero [] ys is = refl
values_of-append zero (a ∷ xs) ys is = absurd (omega (arith, is))
values_of-append (suc n) [] ys is = absurd (omega (arith, is))
values_of-append (suc n) (a ∷ []) ys is = absurd (omega (arith, is))
values_of-append (suc n) (a ∷ b ∷ xs) ys is = ap (λ l. value_of a b ∷ l) (values_of-append n xs ys (omega (arith, is)))

pub whole_bytes-most : (channels : Channels) (m : ℕ) → whole_bytes channels m ≤ m
whole_bytes-most Mono m = omega arith
whole_bytes-most Stereo m = omega arith

pub whole_bytes-values : (channels : Channels) (m : ℕ) → 2 * (m / block_align channels * channels_of channels) ≡ whole_bytes channels m
whole_bytes-values Mono m = omega arith
whole_bytes-values Stereo m = omega arith

pub whole_values : (channels : Channels) (m : ℕ) → (m / block_align channels * channels_of channels) % channels_of channels ≡ 0
whole_values Mono m = omega arith
whole_values Stereo m = omega arith

-- the values of so many bytes, counted by the number of channels, are no more than the bytes
pub counted-most : (channels : Channels) (number there : ℕ) → number ≡ channels_of channels → 2 * (there / (2 * number) * number) ≤ there
counted-most channels number there is = rw (is, whole_bytes-values channels there) (whole_bytes-most channels there)

-- and they are of whole samples
pub counted-whole : (channels : Channels) (number there : ℕ) → number ≡ channels_of channels → (there / (2 * number) * number) % channels_of channels ≡ 0
counted-whole channels number there is = rw is (whole_values channels there)

-- where all wanted bytes were there, they are the whole samples of these
pub counted-all : (channels : Channels) (number there want : ℕ) → number ≡ channels_of channels → nat_eq there want ≡ true →
    2 * (there / (2 * number) * number) ≡ whole_bytes channels want
counted-all channels number there want is all = rw (is, eqb-true there want all) (whole_bytes-values channels want)

-- and else they are less than was wanted
pub counted-less : (channels : Channels) (number there want : ℕ) → number ≡ channels_of channels → there ≤ want → nat_eq there want ≡ false →
    2 * (there / (2 * number) * number) < want
counted-less channels number there want is most less = omega (arith, counted-most channels number there is, eqb-false there want less)

-- n values, of whole samples, are within the whole samples
pub whole_bytes-least : (channels : Channels) (n m : ℕ) → n % channels_of channels ≡ 0 → 2 * n ≤ m → 2 * n ≤ whole_bytes channels m
whole_bytes-least Mono n m whole low = omega arith
whole_bytes-least Stereo n m whole low = omega arith

pub whole_bytes-rest : (channels : Channels) (n m : ℕ) → n % channels_of channels ≡ 0 → whole_bytes channels (2 * n + m) ≡ 2 * n + whole_bytes channels m
whole_bytes-rest Mono n m whole = omega arith
whole_bytes-rest Stereo n m whole = omega arith

pub whole_sum : (channels : Channels) (n m : ℕ) → n % channels_of channels ≡ 0 → m % channels_of channels ≡ 0 → (n + m) % channels_of channels ≡ 0
whole_sum Mono n m a b = omega arith
whole_sum Stereo n m a b = omega arith

-- a block that is not the last one is of whole samples
pub block_whole : (channels : Channels) (long count room remaining want k : ℕ) → long % channels_of channels ≡ 0 → count % channels_of channels ≡ 0 →
    room ≡ min (long - count) 2048 → want ≡ min (2 * room) remaining → (want ≡ remaining → ⊥) → 2 * k ≡ whole_bytes channels want → 2 * k ≡ want
block_whole Mono long count room remaining want k whole_long whole_count is_room is_want other is = omega arith
block_whole Stereo long count room remaining want k whole_long whole_count is_room is_want other is = omega arith

-- so many values were read so far, all of whole samples, and no byte after them
pub record HasRead (channels : Channels) (declared : ℕ) (left : List ℕ) (count : ℕ) (buffer : List ℤ) (left_now : Option (List ℕ)) : Type 0 where
  pub there : 2 * count ≤ length left
  pub values : take count buffer ≡ values_of (take (2 * count) left)
  pub rest : left_now ≡ Some (drop (2 * count) left)

-- at the start
pub HasRead-none : (channels : Channels) (declared : ℕ) (left : Option (List ℕ)) (buffer : List ℤ) →
    IfSome left (λ bytes. HasRead channels declared bytes 0 buffer left)
HasRead-none channels declared None buffer = tt
HasRead-none channels declared (Some bytes) buffer = record { there = omega arith; values = refl; rest = refl }

-- n values, of whole samples, are the next ones, and those behind them are still to come
module _ (channels : Channels) (declared : ℕ) (left : List ℕ) (n : ℕ) where
  abbrev state : SamplesState
  state = unread channels declared

  abbrev within : List ℕ
  within = take declared left

  next_values : 2 * n ≤ whole_bytes channels (length within) → take n (coming state left) ≡ values_of (take (2 * n) left)
  next_values low =
      let most = whole_bytes-most channels (length within) in
      let inner : take (2 * n) (take (whole_bytes channels (length within)) within) ≡ take (2 * n) within = take-take (2 * n) _ within low in
      let short : 2 * n ≤ declared = omega (arith, length-take declared left, low, most) in
      take-values_of n (whole_samples channels within) ∙ ap values_of (inner ∙ take-take (2 * n) declared left short)

  pub long : length (coming state left) + length (coming state left) ≡ whole_bytes channels (length within)
  long =
      let m = length within in
      let half = m / block_align channels * channels_of channels in
      let whole = length-take-le (whole_bytes channels m) within (whole_bytes-most channels m) in
      let count = length-values_of half (whole_samples channels within) (whole ∙ sym (whole_bytes-values channels m)) in
      omega (arith, count, whole_bytes-values channels m)

  others_come : n % channels_of channels ≡ 0 → 2 * n ≤ length within →
      coming (unread channels (declared - 2 * n)) (drop (2 * n) left) ≡ drop n (coming state left)
  others_come whole low =
      let m = length within in
      let short : 2 * n ≤ declared = omega (arith, length-take declared left, low) in
      let split : declared ≡ 2 * n + (declared - 2 * n) = omega arith in
      let rest = take (declared - 2 * n) (drop (2 * n) left) in
      let after : drop (2 * n) within ≡ rest = ap (λ k. drop (2 * n) (take k left)) split ∙ drop-take (2 * n) (declared - 2 * n) left in
      let sum : m ≡ 2 * n + length rest = omega (arith, low, length-drop (2 * n) within, ap length after) in
      let parts : whole_bytes channels m ≡ 2 * n + whole_bytes channels (length rest) = ap (whole_bytes channels) sum ∙ whole_bytes-rest channels n (length rest) whole in
      let outer : drop (2 * n) (take (whole_bytes channels m) within) ≡ take (whole_bytes channels (length rest)) (drop (2 * n) within) =
      ap (λ k. drop (2 * n) (take k within)) parts ∙ drop-take (2 * n) (whole_bytes channels (length rest)) within in
      sym (drop-values_of n (whole_samples channels within) ∙ ap values_of (outer ∙ ap (take (whole_bytes channels (length rest))) after))

nothing : (n : ℕ) (xs : List ℕ) → length xs ≤ n → drop n xs ≡ []
nothing n xs most = empty (drop n xs) (omega (arith, length-drop n xs))
  where
    empty : (ys : List ℕ) → length ys ≡ 0 → ys ≡ []
    empty [] is = refl
    empty (y ∷ ys) is = absurd (omega (arith, is))

drop-front : (n : ℕ) (front rest : List ℕ) → length front ≤ n → (length front < n → rest ≡ []) → drop n (front ++ rest) ≡ rest
drop-front n front rest most ends = elim (cases_lt (length front) n) [
  | inl cut ↦
      let end = ends cut in
      rw end (nothing n (front ++ []) (rw append-nil (omega arith)))
  | inr full ↦ let same : n ≡ length front = omega arith in rw same (drop-append_seam front rest)
]

-- what a block of `want` bytes gives, of which `there` were there
pub block_read : (channels : Channels) (number want there : ℕ) (bytes : List ℕ) (values rest_of_buffer : List ℤ) (old new : Option (List ℕ)) → number ≡ channels_of channels →
    Consumes old new (take there bytes) → there ≤ length bytes → length bytes ≡ want → (there < length bytes → IsAtEnd new) →
    values ≡ values_of (take (2 * (there / (2 * number) * number)) bytes) → length values ≡ there / (2 * number) * number →
    IfSome old (λ left. ReadsBlock channels want left (there / (2 * number) * number) (nat_eq there want) (values ++ rest_of_buffer) new)
block_read channels number want there bytes values rest_of_buffer None new is read most long ends decoded count = tt
block_read channels number want there bytes values rest_of_buffer (Some left) None is read most long ends decoded count = absurd read
block_read channels number want there bytes values rest_of_buffer (Some left) (Some rest) is read most long ends decoded count =
    let front = take there bytes in
    let front_long : length front ≡ there = length-take-le there bytes most in
    let at_end : length front < want → rest ≡ [] = λ cut. ends (omega (arith, front_long, long, cut)) in
    let n = there / (2 * number) * number in
    let even : 2 * n ≡ whole_bytes channels there = rw is (whole_bytes-values channels there) in
    let within : 2 * n ≤ there = omega (arith, even, whole_bytes-most channels there) in
    let begins : take want left ≡ front = rw read (take-front want front rest (omega (arith, front_long, most, long)) at_end) in
    let taken : whole_samples channels front ≡ take (2 * n) bytes =
    ap (λ m. take (whole_bytes channels m) front) front_long ∙ (ap (λ m. take m front) (sym even) ∙ take-take (2 * n) there bytes within) in
    record {
      bytes = even ∙ ap (whole_bytes channels) (sym front_long ∙ ap length (sym begins));
      values = (ap (λ m. take m (values ++ rest_of_buffer)) (sym count) ∙ (take-append-le (length values) values rest_of_buffer (omega arith) ∙ take-length values))
          ∙ (decoded ∙ ap values_of (sym taken ∙ ap (whole_samples channels) (sym begins)));
      rest = ap Some (sym (ap (drop want) read ∙ drop-front want front rest (omega (arith, front_long, most, long)) at_end));
      whole = λ same. omega (arith, eqb-true there want same, front_long, ap length read, length-append front rest);
      short = λ other. cut_short read front_long at_end (omega (arith, eqb-false there want other, most, long));
    }
  where
    cut_short : left ≡ take there bytes ++ rest → length (take there bytes) ≡ there → (length (take there bytes) < want → rest ≡ []) → there < want → length left < want
    cut_short read front_long at_end cut =
        let end = at_end (omega (arith, front_long, cut)) in
        let all : left ≡ take there bytes = rw read (rw end (append-nil (take there bytes))) in
        omega (arith, ap length all, front_long, cut)

-- nothing is still to come where nothing more is declared
none_come : (channels : Channels) (left : List ℕ) → coming (unread channels 0) left ≡ []
none_come Mono left = refl
none_come Stereo left = refl

-- the buffer is full
pub reads_full : (channels : Channels) (declared : ℕ) (left : List ℕ) (n : ℕ) (buffer : List ℤ) (left_now : Option (List ℕ)) →
    HasRead channels declared left n buffer left_now → length buffer ≡ n → n % channels_of channels ≡ 0 → 2 * n ≤ declared →
    ReadsValues (unread channels declared) left n buffer left_now
reads_full channels declared left n buffer left_now has long_is whole most =
    let m = length (take declared left) in
    let low : 2 * n ≤ m = omega (arith, length-take declared left, has.there, most) in
    let least = whole_bytes-least channels n m whole low in
    let test : nat_lt n (length buffer) ≡ false = le-ltb n (length buffer) (omega (arith, long_is)) in
    record {
      count = omega (arith, long_is, least, long channels declared left n);
      values = has.values ∙ sym (next_values channels declared left n least);
      rest = rw test has.rest;
      others = rw test (others_come channels declared left n whole low);
    }

-- a block was read after the values so far
module _ (channels : Channels) (declared : ℕ) (left : List ℕ) (count k want w : ℕ) (is_whole : Bool) (buffer block : List ℤ) (left_mid left_now : Option (List ℕ))
    (has : HasRead channels declared left count buffer left_mid) (read : IfSome left_mid (λ l. ReadsBlock channels want l k is_whole block left_now))
    (room : count ≤ length buffer) (fits : k ≤ length block) where
  abbrev now : List ℤ
  now = put_mid count w buffer block

  abbrev next : List ℕ
  next = drop (2 * count) left

  here : ReadsBlock channels want next k is_whole block left_now
  here = rw has.rest at read

  block_bytes : 2 * k ≤ length (take want next)
  block_bytes = omega (arith, here.bytes, whole_bytes-most channels (length (take want next)))

  more_there : 2 * (count + k) ≤ length left
  more_there = omega (arith, block_bytes, length-take want next, length-drop (2 * count) left, has.there)

  more_values : take (count + k) now ≡ values_of (take (2 * (count + k)) left)
  more_values =
      let low : 2 * k ≤ want = omega (arith, block_bytes, length-take want next) in
      let inner : take (whole_bytes channels (length (take want next))) (take want next) ≡ take (2 * k) next =
      ap (λ n. take n (take want next)) (sym here.bytes) ∙ take-take (2 * k) want next low in
      let front : length (take (2 * count) left) ≡ 2 * count = length-take-le (2 * count) left has.there in
      let sum : 2 * (count + k) ≡ 2 * count + 2 * k = omega arith in
      take-put_mid-add count k w buffer block room fits
      ∙ (ap (λ l. l ++ take k block) has.values
      ∙ (ap (λ l. values_of (take (2 * count) left) ++ l) (here.values ∙ ap values_of inner)
      ∙ (sym (values_of-append count (take (2 * count) left) (take (2 * k) next) front)
      ∙ ap values_of (sym (take-add (2 * count) (2 * k) left) ∙ ap (λ n. take n left) (sym sum)))))

  -- all its bytes were there, and it was of whole samples
  pub has_more : 2 * k ≡ want → HasRead channels declared left (count + k) now left_now
  has_more is = record {
    there = more_there;
    values = more_values;
    rest = here.rest ∙ ap Some (drop-drop want (2 * count) left ∙ ap (λ n. drop n left) (let sum : 2 * count + want ≡ 2 * (count + k) = omega (arith, is) in sum));
  }

  -- the data has ended with it
  pub reads_ended : count % channels_of channels ≡ 0 → k % channels_of channels ≡ 0 → length now ≡ length buffer →
      want ≤ declared - 2 * count → 2 * count ≤ declared → want ≤ 2 * (length buffer - count) → (is_whole ≡ false) ⊎ (want ≡ declared - 2 * count) →
      ReadsValues (unread channels declared) left (count + k) now left_now
  reads_ended whole_count whole_k same declared_more declared_low in_room ends =
      elim (cases_lt (count + k) (length now)) [
        | inl few ↦ short few
        | inr full ↦
            let is : 2 * k ≡ want = omega (arith, block_bytes, length-take want next, full, same, in_room, fits) in
            reads_full channels declared left (count + k) now left_now (has_more is) (omega (arith, full, same, is, in_room, room)) (whole_sum channels count k whole_count whole_k) (omega (arith, is, declared_more, declared_low))
      ]
    where
      -- all of the data was read
      all_read : length (take declared left) ≡ 2 * count + length (take want next)
      all_read = elim ends [
        | inl cut ↦ omega (arith, here.short cut, length-take declared left, length-take want next, length-drop (2 * count) left, has.there, declared_more, declared_low)
        | inr last ↦ omega (arith, last, length-take declared left, length-take want next, length-drop (2 * count) left, has.there, declared_low)
      ]

      after_data : drop want next ≡ drop declared left
      after_data = drop-drop want (2 * count) left ∙ elim ends [
        | inl cut ↦
            let end = here.short cut in
            let one = nothing (2 * count + want) left (omega (arith, end, length-drop (2 * count) left)) in
            one ∙ sym (nothing declared left (omega (arith, end, length-drop (2 * count) left, declared_more, declared_low)))
        | inr last ↦ ap (λ n. drop n left) (let sum : 2 * count + want ≡ declared = omega (arith, last, declared_low) in sum)
      ]

      whole_read : whole_bytes channels (length (take declared left)) ≡ 2 * (count + k)
      whole_read = ap (whole_bytes channels) all_read ∙ (whole_bytes-rest channels count (length (take want next)) whole_count ∙ omega (arith, here.bytes))

      short : count + k < length now → ReadsValues (unread channels declared) left (count + k) now left_now
      short few =
          let test : nat_lt (count + k) (length now) ≡ true = lt-ltb (count + k) (length now) few in
          let exact : count + k ≡ length (coming (unread channels declared) left) = omega (arith, whole_read, long channels declared left (count + k)) in
          record {
            count = omega (arith, exact, few);
            values = more_values ∙ sym (next_values channels declared left (count + k) (omega (arith, whole_read)));
            rest = rw test (here.rest ∙ ap Some after_data);
            others = rw test (none_come channels (drop declared left) ∙ sym (ap (λ n. drop n (coming (unread channels declared) left)) exact ∙ drop-length (coming (unread channels declared) left)));
          }

-- bytes gone in two steps, not more than there may be
pub gone_in_two : (old mid new : Option (List ℕ)) (n m most : ℕ) → ((bytes : List ℕ) × (length bytes ≤ n) × Consumes old mid bytes) →
    ((bytes : List ℕ) × (length bytes ≤ m) × Consumes mid new bytes) → n + m ≤ most → (bytes : List ℕ) × (length bytes ≤ most) × Consumes old new bytes
gone_in_two old mid new n m most first second low =
    (first.0 ++ second.0, omega (arith, length-append first.0 second.0, first.1, second.1, low), Consumes-then old mid new first.0 second.0 first.2 second.2)

pub OnErr-always : {T E : Type 0} (result : Result T E) (P : Type 0) → P → OnErr result P
OnErr-always (Ok v) P p = tt
OnErr-always (Err e) P p = p

-- a fault after steps that had none is that of the last step
pub fault_caused : {T U E : Type 0} (before mid now : ℕ) (result : Result T E) (step : Result U E) (fault : E) → result ≡ Err fault → step ≡ Err fault →
    mid ≡ before → HasCause mid now step → HasCause before now result
fault_caused before mid now result step fault is was same cause =
    let last : HasCause mid now (Err fault) = rw was at cause in
    let later : before ≤ now = omega (arith, same, last.later) in
    let failed : now ≡ count_after before = rw same at last.failed in
    rw is (record { later = later; failed = failed; served = tt })

-- a step that serves after steps that had no fault
pub served_on : {T U E : Type 0} (before mid now : ℕ) (value : T) (step : U) → mid ≡ before → HasCause {T = U} {E = E} mid now (Ok step) → HasCause {T = T} {E = E} before now (Ok value)
served_on before mid now value step same cause =
    let served : now ≡ mid = cause.served in
    record { later = omega (arith, same, served); failed = tt; served = served ∙ same }

-- where all declared bytes were taken, or there is room left, nothing remains
pub none_remains : (n wanted declared : ℕ) → (wanted ≤ n → declared ≤ 2 * n) → 0 ≡ (if nat_lt n wanted then 0 else declared - 2 * n)
none_remains n wanted declared all = elim (cases_lt n wanted) [
  | inl short ↦ rw (lt-ltb n wanted short) refl
  | inr full ↦ let low : declared ≤ 2 * n = all full in rw (le-ltb n wanted full) (omega arith)
]

-- a block that is written back leaves the buffer as long as it was
pub put_mid-long : (count : ℕ) (buffer block : List ℤ) → count ≤ length buffer → length block ≡ length buffer - count →
    length (put_mid count (length buffer - count) buffer block) ≡ length buffer
put_mid-long count buffer block low same = simp (length-append, length-take, length-drop) (omega (arith, same))
