-- What a read adds to each channel.
use Rattle.std.proofs.Common.{◌≡◌, ◌∙◌, sym, ap, subst, refl, ℕ, ◌+◌, ◌-◌, ◌*◌, ◌/◌, ◌%◌, ◌<◌, ◌≤◌, Bool, true, false, cond, List, [], ◌++◌, ℤ, pos, length, take, drop, replicate, nat_lt, arith, length-append, length-take-le, inl, inr}
use Rattle.std.specs.Prelude.{Option, Some, None, IfSome, IsSomeAnd, if◌then◌else◌}
use Rattle.std.proofs.lemmas.List.{drop-drop, drop-append-le, length-drop, take-append-drop, take_all, append-nil}
use Rattle.std.proofs.Math.Seq.{take-append_seam, drop-append_seam}
use Rattle.std.proofs.lemmas.Bool.{le-ltb, lt-ltb, cases_lt}
use Rattle.l3_base.specs.declared.rate.Channels.{Channels}
use Rattle.l3_base.specs.declared.rate.Channels.TheVariants.{Mono, Stereo}
use Rattle.l3_base.specs.Rates.{channels_of}
use Rattle.l3_wav.specs.Pcm.{seconds, left_of, right_of, right_count}
use Rattle.l3_wav.specs.Samples.{SamplesState, coming, samples_after, left_after, ReadsValues}
use Rattle.l3_wav.proofs.PcmLemmas.{left_of-append, right_of-append, pairs_even}
use Rattle.l3_wav.specs.ReadingOn.{InStereo, InMono, Adds, ReadsOn}

-- zeros behind nothing
pub zeros-only : (xs ys : List ℤ) (n : ℕ) → xs ≡ [] → n ≡ 0 → ys ≡ take 1056 xs ++ replicate (1056 - n) (pos 0) → ys ≡ replicate 1056 (pos 0)
zeros-only xs ys n none zero is =
    is ∙ (ap (λ (l : List ℤ). take 1056 l ++ replicate (1056 - n) (pos 0)) none ∙ ap (λ (k : ℕ). replicate (1056 - k) (pos 0)) zero)

-- whole samples have as many of each channel
pub left-count : (channels : Channels) (xs : List ℤ) → length xs % channels_of channels ≡ 0 → length (left_of channels xs) ≡ length xs / channels_of channels
left-count Mono xs whole = omega arith
left-count Stereo xs whole = omega (arith, (pairs_even xs whole).1)

pub right-count : (xs : List ℤ) → length xs % 2 ≡ 0 → length (seconds xs) ≡ length xs / 2
right-count xs whole = (pairs_even xs whole).0 ∙ left-count Stereo xs whole

-- a function of lists that goes over them sample by sample, and a front of whole samples
module _ (of : List ℤ → List ℤ) (xs : List ℤ) (n k : ℕ) (low : n ≤ length xs)
    (split : of (take n xs ++ drop n xs) ≡ of (take n xs) ++ of (drop n xs)) (count : length (of (take n xs)) ≡ k) where
  parts : of xs ≡ of (take n xs) ++ of (drop n xs)
  parts = ap of (sym (take-append-drop n xs)) ∙ split

  front-of : of (take n xs) ≡ take k (of xs)
  front-of = sym (ap (λ (m : ℕ). take m (of xs)) (sym count) ∙ (ap (take (length (of (take n xs)))) parts ∙ take-append_seam (of (take n xs)) (of (drop n xs))))

  rest-of : of (drop n xs) ≡ drop k (of xs)
  rest-of = sym (ap (λ (m : ℕ). drop m (of xs)) (sym count) ∙ (ap (drop (length (of (take n xs)))) parts ∙ drop-append_seam (of (take n xs)) (of (drop n xs))))

  there-of : k ≤ length (of xs)
  there-of = omega (arith, ap length parts, length-append (of (take n xs)) (of (drop n xs)), count)

  all-of : n ≡ length xs → k ≡ length (of xs)
  all-of is = sym count ∙ ap (λ (l : List ℤ). length (of l)) (take_all n xs (omega (arith, is)))

  -- values that were read, of so many that were wanted
  pub adds : (room : ℕ) (block now old new : List ℤ) → (nat_lt k room ≡ true → n ≡ length xs) → take n block ≡ take n xs → now ≡ drop n xs → new ≡ old ++ of (take n block) →
      Adds k (nat_lt k room) (of xs) (of now) old new
  adds room block now old new short values others added = record {
    added = added ∙ (ap (λ (l : List ℤ). old ++ of l) values ∙ ap (λ (l : List ℤ). old ++ l) front-of);
    there = there-of;
    short = λ is. all-of (short is);
    rest = ap of others ∙ rest-of;
  }

-- what follows the declared bytes stays the same
drop-after : (short : Bool) (n remaining : ℕ) (left : List ℕ) → 2 * n ≤ remaining →
    drop (cond short 0 (remaining - 2 * n)) (cond short (drop remaining left) (drop (2 * n) left)) ≡ drop remaining left
drop-after true n remaining left declared = refl
drop-after false n remaining left declared = drop-drop (remaining - 2 * n) (2 * n) left ∙ ap (λ (k : ℕ). drop k left) (omega (arith, declared))

-- fewer samples than wanted are fewer values than wanted
pub short-read : (channels : Channels) (n room : ℕ) → n % channels_of channels ≡ 0 → n / channels_of channels < room → n < room * channels_of channels
short-read Mono n room whole few = omega (arith, whole, few)
short-read Stereo n room whole few = omega (arith, whole, few)

pub lt-from : (a b : ℕ) → nat_lt a b ≡ true → a < b
lt-from a b is = elim (cases_lt a b) [
  | inl lt ↦ lt
  | inr le ↦ absurd (let no = le-ltb a b le in cc)
]

-- of two channels, the right one
right-read : (channels : Channels) (xs : List ℤ) (n room : ℕ) (block now right right_now : List ℤ) → n ≤ length xs → length (take n xs) % channels_of channels ≡ 0 → length (take n xs) ≡ n →
    (nat_lt (n / channels_of channels) room ≡ true → n ≡ length xs) → take n block ≡ take n xs → now ≡ drop n xs → right_now ≡ right ++ right_of channels (take n block) →
    InStereo channels (Adds (n / channels_of channels) (nat_lt (n / channels_of channels) room) (right_of channels xs) (right_of channels now) right right_now)
right-read Mono xs n room block now right right_now low whole long short values others added = tt
right-read Stereo xs n room block now right right_now low whole long short values others added =
    adds seconds xs n (n / 2) low (right_of-append Stereo (take n xs) (drop n xs) whole) (right-count (take n xs) whole ∙ ap (λ (m : ℕ). m / 2) long)
    room block now right right_now short values others added

-- of one channel, nothing is added to the right
mono-stays : (channels : Channels) (n : ℕ) (block right right_now : List ℤ) → right_now ≡ right ++ right_of channels (take n block) → InMono channels (right_now ≡ right)
mono-stays Mono n block right right_now is = is ∙ append-nil right
mono-stays Stereo n block right right_now is = tt

-- n values were read
module _ (channels : Channels) (before now : SamplesState) (bytes : List ℕ) (n room : ℕ) (block left left_now right right_now : List ℤ) (left_new : Option (List ℕ))
    (read : ReadsValues before bytes n block left_new) (now_is : now ≡ samples_after before n (length block))
    (long : length block ≡ room * channels_of channels) (declared : 2 * n ≤ before.remaining) (whole : n % channels_of channels ≡ 0)
    (left_is : left_now ≡ left ++ left_of channels (take n block)) (right_is : right_now ≡ right ++ right_of channels (take n block)) where
  abbrev values : List ℤ
  values = coming before bytes

  abbrev bytes_now : List ℕ
  bytes_now = left_after before n (length block) bytes

  few : n ≤ length values
  few = omega (arith, read.count)

  front_long : length (take n values) ≡ n
  front_long = length-take-le n values few

  front_whole : length (take n values) % channels_of channels ≡ 0
  front_whole = ap (λ (m : ℕ). m % channels_of channels) front_long ∙ whole

  all_read : nat_lt (n / channels_of channels) room ≡ true → n ≡ length values
  all_read is =
      let lt : n < room * channels_of channels = short-read channels n room whole (lt-from (n / channels_of channels) room is) in
      omega (arith, read.count, long, lt)

  others : coming now bytes_now ≡ drop n values
  others = ap (λ (s : SamplesState). coming s bytes_now) now_is ∙ read.others

  on_left : Adds (n / channels_of channels) (nat_lt (n / channels_of channels) room) (left_of channels values) (left_of channels (coming now bytes_now)) left left_now
  on_left = adds (left_of channels) values n (n / channels_of channels) few (left_of-append channels (take n values) (drop n values) front_whole)
      (left-count channels (take n values) front_whole ∙ ap (λ (m : ℕ). m / channels_of channels) front_long)
      room block (coming now bytes_now) left left_now all_read read.values others left_is

  after_is : drop now.remaining bytes_now ≡ drop before.remaining bytes
  after_is = ap (λ (s : SamplesState). drop s.remaining bytes_now) now_is ∙ drop-after (nat_lt n (length block)) n before.remaining bytes declared

  reads : ReadsOn channels (n / channels_of channels) (nat_lt (n / channels_of channels) room) before now bytes bytes_now left left_now right right_now
  reads = record {
    left_added = on_left;
    right_added = right-read channels values n room block (coming now bytes_now) right right_now few front_whole front_long all_read read.values others right_is;
    right_stays = mono-stays channels n block right right_now right_is;
    after = after_is;
  }

  pub reads-on : IsSomeAnd left_new (λ bytes_now. ReadsOn channels (n / channels_of channels) (nat_lt (n / channels_of channels) room) before now bytes bytes_now left left_now right right_now)
  reads-on = subst (λ (o : Option (List ℕ)). IsSomeAnd o (λ bytes_now. ReadsOn channels (n / channels_of channels) (nat_lt (n / channels_of channels) room) before now bytes bytes_now left left_now right right_now)) (sym read.rest) reads

-- the same where the source may tell nothing
pub reads-told : (channels : Channels) (before now : SamplesState) (n room : ℕ) (block left left_now right right_now : List ℤ) (left_old left_new : Option (List ℕ)) →
    IfSome left_old (λ bytes. ReadsValues before bytes n block left_new) → now ≡ samples_after before n (length block) →
    length block ≡ room * channels_of channels → 2 * n ≤ before.remaining → n % channels_of channels ≡ 0 →
    left_now ≡ left ++ left_of channels (take n block) → right_now ≡ right ++ right_of channels (take n block) →
    IfSome left_old (λ bytes. IsSomeAnd left_new (λ bytes_now. ReadsOn channels (n / channels_of channels) (nat_lt (n / channels_of channels) room) before now bytes bytes_now left left_now right right_now))
reads-told channels before now n room block left left_now right right_now None left_new read now_is long declared whole left_is right_is = tt
reads-told channels before now n room block left left_now right right_now (Some bytes) left_new read now_is long declared whole left_is right_is =
    reads-on channels before now bytes n room block left left_now right right_now left_new read now_is long declared whole left_is right_is

-- how long each channel is then
pub left-longer : (channels : Channels) (n : ℕ) (block left left_now : List ℤ) → n ≤ length block → n % channels_of channels ≡ 0 →
    left_now ≡ left ++ left_of channels (take n block) → length left_now ≡ length left + n / channels_of channels
left-longer channels n block left left_now low whole is =
    let long : length (take n block) ≡ n = length-take-le n block low in
    let count : length (left_of channels (take n block)) ≡ n / channels_of channels =
    left-count channels (take n block) (ap (λ (m : ℕ). m % channels_of channels) long ∙ whole) ∙ ap (λ (m : ℕ). m / channels_of channels) long in
    ap length is ∙ (length-append left (left_of channels (take n block)) ∙ ap (λ (m : ℕ). length left + m) count)

pub right-longer : (channels : Channels) (n : ℕ) (block right right_now : List ℤ) → n ≤ length block → n % channels_of channels ≡ 0 →
    right_now ≡ right ++ right_of channels (take n block) → length right_now ≡ length right + right_count channels (n / channels_of channels)
right-longer Mono n block right right_now low whole is = ap length is ∙ length-append right []
right-longer Stereo n block right right_now low whole is =
    let long : length (take n block) ≡ n = length-take-le n block low in
    let count : length (seconds (take n block)) ≡ n / 2 = right-count (take n block) (ap (λ (m : ℕ). m % 2) long ∙ whole) ∙ ap (λ (m : ℕ). m / 2) long in
    ap length is ∙ (length-append right (seconds (take n block)) ∙ ap (λ (m : ℕ). length right + m) count)

-- the same, where the number of channels is a value of the program
pub block-told : (channels : Channels) (number : ℕ) (before now : SamplesState) (n room : ℕ) (block left left_now right right_now : List ℤ) (left_old left_new : Option (List ℕ)) → number ≡ channels_of channels →
    IfSome left_old (λ bytes. ReadsValues before bytes n block left_new) → now ≡ samples_after before n (length block) →
    length block ≡ room * number → 2 * n ≤ before.remaining → n % channels_of before.channels ≡ 0 → before.channels ≡ channels →
    left_now ≡ left ++ left_of channels (take n block) → right_now ≡ right ++ right_of channels (take n block) →
    IfSome left_old (λ bytes. IsSomeAnd left_new (λ bytes_now. ReadsOn channels (n / number) (nat_lt (n / number) room) before now bytes bytes_now left left_now right right_now))
block-told channels number before now n room block left left_now right right_now left_old left_new is read now_is long declared whole same left_is right_is =
    subst (λ (m : ℕ). IfSome left_old (λ bytes. IsSomeAnd left_new (λ bytes_now. ReadsOn channels (n / m) (nat_lt (n / m) room) before now bytes bytes_now left left_now right right_now))) (sym is)
    (reads-told channels before now n room block left left_now right right_now left_old left_new read now_is (long ∙ ap (λ (m : ℕ). room * m) is) declared (ap (λ (k : Channels). n % channels_of k) (sym same) ∙ whole) left_is right_is)

pub block-left : (channels has : Channels) (number n : ℕ) (block left left_now : List ℤ) → number ≡ channels_of channels → n ≤ length block → n % channels_of has ≡ 0 → has ≡ channels →
    left_now ≡ left ++ left_of channels (take n block) → length left_now ≡ length left + n / number
block-left channels has number n block left left_now is low whole same added =
    left-longer channels n block left left_now low (ap (λ (k : Channels). n % channels_of k) (sym same) ∙ whole) added ∙ ap (λ (m : ℕ). length left + n / m) (sym is)

pub block-right : (channels has : Channels) (number n : ℕ) (block right right_now : List ℤ) → number ≡ channels_of channels → n ≤ length block → n % channels_of has ≡ 0 → has ≡ channels →
    right_now ≡ right ++ right_of channels (take n block) → length right_now ≡ length right + right_count channels (n / number)
block-right channels has number n block right right_now is low whole same added =
    right-longer channels n block right right_now low (ap (λ (k : Channels). n % channels_of k) (sym same) ∙ whole) added ∙ ap (λ (m : ℕ). length right + right_count channels (n / m)) (sym is)

-- what is added behind all samples is added behind those that are not forgotten
adds-behind : (k count : ℕ) (is_short : Bool) (rest rest_now old new : List ℤ) → k ≤ length old → Adds count is_short rest rest_now old new → Adds count is_short rest rest_now (drop k old) (drop k new)
adds-behind k count is_short rest rest_now old new le is = record {
  added = ap (drop k) is.added ∙ drop-append-le k old (take count rest) le;
  there = is.there;
  short = is.short;
  rest = is.rest;
}

reads-on-behind : (k : ℕ) (channels : Channels) (count : ℕ) (is_short : Bool) (before now : SamplesState) (bytes bytes_now : List ℕ) (left left_now right right_now : List ℤ) → k ≤ length left → InStereo channels (k ≤ length right) →
    ReadsOn channels count is_short before now bytes bytes_now left left_now right right_now → ReadsOn channels count is_short before now bytes bytes_now (drop k left) (drop k left_now) (drop k right) (drop k right_now)
reads-on-behind k channels count is_short before now bytes bytes_now left left_now right right_now le le_right is = record {
  left_added = adds-behind k count is_short _ _ left left_now le is.left_added;
  right_added = two channels le_right is.right_added;
  right_stays = none channels is.right_stays;
  after = is.after;
}
  where
    two : (c : Channels) → InStereo c (k ≤ length right) → InStereo c (Adds count is_short (right_of channels (coming before bytes)) (right_of channels (coming now bytes_now)) right right_now) →
        InStereo c (Adds count is_short (right_of channels (coming before bytes)) (right_of channels (coming now bytes_now)) (drop k right) (drop k right_now))
    two Mono long added = tt
    two Stereo long added = adds-behind k count is_short _ _ right right_now long added

    none : (c : Channels) → InMono c (right_now ≡ right) → InMono c (drop k right_now ≡ drop k right)
    none Mono same = ap (drop k) same
    none Stereo same = tt

pub reads-behind : (k : ℕ) (channels : Channels) (count : ℕ) (is_short : Bool) (before now : SamplesState) (left_old left_new : Option (List ℕ)) (left left_now right right_now : List ℤ) → k ≤ length left → InStereo channels (k ≤ length right) →
    IfSome left_old (λ bytes. IsSomeAnd left_new (λ bytes_now. ReadsOn channels count is_short before now bytes bytes_now left left_now right right_now)) →
    IfSome left_old (λ bytes. IsSomeAnd left_new (λ bytes_now. ReadsOn channels count is_short before now bytes bytes_now (drop k left) (drop k left_now) (drop k right) (drop k right_now)))
reads-behind k channels count is_short before now None left_new left left_now right right_now le le_right is = tt
reads-behind k channels count is_short before now (Some bytes) None left left_now right right_now le le_right is = is
reads-behind k channels count is_short before now (Some bytes) (Some bytes_now) left left_now right right_now le le_right is = reads-on-behind k channels count is_short before now bytes bytes_now left left_now right right_now le le_right is

-- while some samples are not forgotten, all that are forgotten stand before them
pub stands : (kept : List ℤ) (k n : ℕ) → length (drop k kept) ≡ n → 0 < n → k ≤ length kept
stands kept k n long some = omega (arith, length-drop k kept, long, some)

pub stands-right : (channels : Channels) (left right : List ℤ) (k : ℕ) → length (drop k right) ≡ right_count channels (length (drop k left)) → 0 < length (drop k left) → InStereo channels (k ≤ length right)
stands-right Mono left right k long some = tt
stands-right Stereo left right k long some = stands right k (length (drop k left)) long some

remaining-within : (n long k remaining : ℕ) → 2 * n ≤ remaining → k ≤ n → 2 * k + (if nat_lt n long then 0 else remaining - 2 * n) ≤ remaining
remaining-within n long k remaining low few = elim (cases_lt n long) [
  | inl short ↦ rw (lt-ltb n long short) (omega arith)
  | inr full ↦ rw (le-ltb n long full) (omega arith)
]

-- so many values of so many channels are no more samples than there is room for
pub block-count : (channels : Channels) (number n room : ℕ) → number ≡ channels_of channels → n ≤ room * number → n / number ≤ room
block-count Mono number n room is few = rw is (omega (arith, rw is at few))
block-count Stereo number n room is few = rw is (omega (arith, rw is at few))

-- the declared bytes that remain are those of no value that was read
pub block-declared : (channels : Channels) (number n long : ℕ) (before now : SamplesState) → number ≡ channels_of channels → now ≡ samples_after before n long → 2 * n ≤ before.remaining →
    2 * (n / number) + now.remaining ≤ before.remaining
block-declared Mono number n long before now is after declared = rw (is, after) (remaining-within n long (n / 1) before.remaining declared (omega arith))
block-declared Stereo number n long before now is after declared = rw (is, after) (remaining-within n long (n / 2) before.remaining declared (omega arith))

-- where fewer samples were read than there is room for, nothing remains
pub block-ended : (channels : Channels) (number n room : ℕ) (before now : SamplesState) (block : List ℤ) → number ≡ channels_of channels → now ≡ samples_after before n (length block) → length block ≡ room * number →
    n % channels_of channels ≡ 0 → n / number < room → now.remaining ≡ 0
block-ended channels number n room before now block is after long whole few =
    let lt : n < room * channels_of channels = short-read channels n room whole (rw is at few) in
    let short : nat_lt n (length block) ≡ true = lt-ltb n (length block) (rw (long, is) lt) in
    rw after (rw short refl)
