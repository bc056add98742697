-- Samples channel by channel, block by block.
use Rattle.std.proofs.Common.{◌≡◌, ◌∙◌, sym, ap, refl, ℕ, suc, ◌+◌, ◌-◌, ◌*◌, ◌/◌, ◌%◌, ◌<◌, ◌≤◌, Bool, true, false, cond, List, [], ◌∷◌, ◌++◌, ℤ, pos, length, take, drop, get_or, nat_lt, arith, append_assoc, length-append, length-take-le}
use Rattle.std.specs.Prelude.{Option, Some, None, IfSome}
use Rattle.std.proofs.lemmas.List.{length-take, drop_more, take-append-drop}
use Rattle.std.proofs.Math.Seq.{take-add}
use Rattle.std.specs.Io.KnownBytes.{Consumes}
use Rattle.l3_io.proofs.ReadLemmas.{Consumes-then}
use Rattle.l3_base.specs.declared.rate.Channels.{Channels}
use Rattle.l3_base.specs.declared.rate.Channels.TheVariants.{Mono, Stereo}
use Rattle.l3_base.specs.Rates.{channels_of}
use Rattle.l3_wav.specs.Pcm.{firsts, seconds, left_of, right_of, right_count}
use Rattle.l3_wav.specs.Samples.{SamplesState, left_after, samples_after}

-- whole samples of two channels, one after the other
pub firsts-append : (xs ys : List ℤ) → length xs % 2 ≡ 0 → firsts (xs ++ ys) ≡ firsts xs ++ firsts ys
firsts-append [] ys even = refl
firsts-append (x ∷ []) ys even = absurd cc
firsts-append (x ∷ y ∷ xs) ys even = ap (λ l. x ∷ l) (firsts-append xs ys (omega (arith, even)))

pub seconds-append : (xs ys : List ℤ) → length xs % 2 ≡ 0 → seconds (xs ++ ys) ≡ seconds xs ++ seconds ys
seconds-append [] ys even = refl
seconds-append (x ∷ []) ys even = absurd cc
seconds-append (x ∷ y ∷ xs) ys even = ap (λ l. y ∷ l) (seconds-append xs ys (omega (arith, even)))

-- one pair more
pub take_pair : (xs : List ℤ) (i : ℕ) → i < length xs / 2 → take (2 * (i + 1)) xs ≡ take (2 * i) xs ++ (get_or xs (2 * i) (pos 0) ∷ get_or xs (2 * i + 1) (pos 0) ∷ [])
take_pair xs i lt =
    let first : drop (2 * i) xs ≡ get_or xs (2 * i) (pos 0) ∷ drop (2 * i + 1) xs = drop_more xs (2 * i) (pos 0) (omega (arith, lt)) in
    let second : drop (2 * i + 1) xs ≡ get_or xs (2 * i + 1) (pos 0) ∷ drop (2 * i + 1 + 1) xs = drop_more xs (2 * i + 1) (pos 0) (omega (arith, lt)) in
    let two : take 2 (drop (2 * i) xs) ≡ get_or xs (2 * i) (pos 0) ∷ get_or xs (2 * i + 1) (pos 0) ∷ [] = ap (take 2) (first ∙ ap (λ l. get_or xs (2 * i) (pos 0) ∷ l) second) in
    ap (λ n. take n xs) (omega arith) ∙ (take-add (2 * i) 2 xs ∙ ap (λ l. take (2 * i) xs ++ l) two)

even_take : (xs : List ℤ) (i : ℕ) → i < length xs / 2 → length (take (2 * i) xs) % 2 ≡ 0
even_take xs i lt = ap (λ n. n % 2) (length-take-le (2 * i) xs (omega (arith, lt))) ∙ omega arith

pub firsts_more : (xs front now : List ℤ) (i : ℕ) → i < length xs / 2 → now ≡ front ++ firsts (take (2 * i) xs) → now ++ (get_or xs (2 * i) (pos 0) ∷ []) ≡ front ++ firsts (take (2 * (i + 1)) xs)
firsts_more xs front now i lt is =
    let more : firsts (take (2 * (i + 1)) xs) ≡ firsts (take (2 * i) xs) ++ (get_or xs (2 * i) (pos 0) ∷ []) =
    ap firsts (take_pair xs i lt) ∙ firsts-append (take (2 * i) xs) _ (even_take xs i lt) in
    ap (λ l. l ++ (get_or xs (2 * i) (pos 0) ∷ [])) is ∙ (append_assoc front (firsts (take (2 * i) xs)) _ ∙ ap (λ l. front ++ l) (sym more))

pub seconds_more : (xs front now : List ℤ) (i : ℕ) → i < length xs / 2 → now ≡ front ++ seconds (take (2 * i) xs) → now ++ (get_or xs (2 * i + 1) (pos 0) ∷ []) ≡ front ++ seconds (take (2 * (i + 1)) xs)
seconds_more xs front now i lt is =
    let more : seconds (take (2 * (i + 1)) xs) ≡ seconds (take (2 * i) xs) ++ (get_or xs (2 * i + 1) (pos 0) ∷ []) =
    ap seconds (take_pair xs i lt) ∙ seconds-append (take (2 * i) xs) _ (even_take xs i lt) in
    ap (λ l. l ++ (get_or xs (2 * i + 1) (pos 0) ∷ [])) is ∙ (append_assoc front (seconds (take (2 * i) xs)) _ ∙ ap (λ l. front ++ l) (sym more))

pub left_of-append : (channels : Channels) (xs ys : List ℤ) → length xs % channels_of channels ≡ 0 → left_of channels (xs ++ ys) ≡ left_of channels xs ++ left_of channels ys
left_of-append Mono xs ys whole = refl
left_of-append Stereo xs ys whole = firsts-append xs ys whole

pub right_of-append : (channels : Channels) (xs ys : List ℤ) → length xs % channels_of channels ≡ 0 → right_of channels (xs ++ ys) ≡ right_of channels xs ++ right_of channels ys
right_of-append Mono xs ys whole = refl
right_of-append Stereo xs ys whole = seconds-append xs ys whole

-- there are as many second values as first ones
pub pairs_even : (xs : List ℤ) → length xs % 2 ≡ 0 → (length (seconds xs) ≡ length (firsts xs)) × (2 * length (firsts xs) ≡ length xs)
pairs_even [] even = (refl, refl)
pairs_even (x ∷ []) even = absurd cc
pairs_even (x ∷ y ∷ xs) even =
    let rest = pairs_even xs (omega (arith, even)) in
    (ap (λ n. suc n) rest.0, omega (arith, rest.1))

-- so many values have as many samples to the right as stand beside those to the left, which are no
-- more
pub right_beside : (channels : Channels) (xs : List ℤ) → length xs % channels_of channels ≡ 0 →
    (length (right_of channels xs) ≡ right_count channels (length (left_of channels xs))) × (length (left_of channels xs) ≤ length xs)
right_beside Mono xs whole = (refl, omega arith)
right_beside Stereo xs whole =
    let rest = pairs_even xs whole in
    (rest.0, omega (arith, rest.1))

-- behind the bytes of some values no more bytes are declared than were
remaining_after : (short : Bool) (n remaining : ℕ) → 2 * n ≤ remaining → 2 * n + cond short 0 (remaining - 2 * n) ≤ remaining
remaining_after true n remaining declared = omega (arith, declared)
remaining_after false n remaining declared = omega (arith, declared)

-- the bytes gone with n values, and those still declared behind them
pub gone_values : (samples : SamplesState) (n wanted : ℕ) (mid new : Option (List ℕ)) → 2 * n ≤ samples.remaining →
    IfSome mid (λ l. new ≡ Some (left_after samples n wanted l)) →
    (front : List ℕ) × (length front + (samples_after samples n wanted).remaining ≤ samples.remaining) × Consumes mid new front
gone_values samples n wanted None new declared is = ([], omega (arith, remaining_after (nat_lt n wanted) n samples.remaining declared), tt)
gone_values samples n wanted (Some l) new declared is = by_test (nat_lt n wanted) is
  where
    by_test : (short : Bool) → new ≡ Some (cond short (drop samples.remaining l) (drop (2 * n) l)) →
        (front : List ℕ) × (length front + cond short 0 (samples.remaining - 2 * n) ≤ samples.remaining) × Consumes (Some l) new front
    by_test true is = (take samples.remaining l, omega (arith, length-take samples.remaining l), rw is (sym (take-append-drop samples.remaining l)))
    by_test false is = (take (2 * n) l, omega (arith, declared, length-take (2 * n) l), rw is (sym (take-append-drop (2 * n) l)))

-- bytes gone in two turns, and those still declared
pub gone_further : (old mid new : Option (List ℕ)) (all between now : ℕ) → ((front : List ℕ) × (length front + between ≤ all) × Consumes old mid front) →
    ((front : List ℕ) × (length front + now ≤ between) × Consumes mid new front) → (front : List ℕ) × (length front + now ≤ all) × Consumes old new front
gone_further old mid new all between now first second =
    (first.0 ++ second.0, omega (arith, length-append first.0 second.0, first.1, second.1), Consumes-then old mid new first.0 second.0 first.2 second.2)
