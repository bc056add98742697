-- Samples by the number at which the noise stands.
use Rattle.std.proofs.Common.{◌≡◌, ◌∙◌, ap, sym, refl, ℕ, zero, suc, ◌+◌, ◌-◌, ◌*◌, ◌<◌, ◌≤◌, List, [], ◌∷◌, ◌++◌, length, length-drop, drop, take, append_assoc, arith, slice_index_or}
use Rattle.l3_io.proofs.ReadLemmas.{given-front}
use Rattle.l3_wav.specs.Demo.{after, block_after, block_at, demo_file, head_of, left_at, noise_of, right_by, sample_bytes, samples_after, samples_for, samples_from, state_at}

state_next : (seed n : ℕ) → state_at seed (suc n) ≡ after (state_at seed n)
unfolding state_at
state_next seed n = refl

state_is : (seed n m : ℕ) → n ≡ suc m → state_at seed n ≡ after (state_at seed m)
state_is seed n m is = ap (state_at seed) is ∙ state_next seed m

block_is : (seed at : ℕ) → block_at seed at ≡ block_after (state_at seed (2 * at)) at
block_is seed at = ap (λ x. sample_bytes (left_at seed at) ++ sample_bytes (right_by at (left_at seed at) (noise_of (after x)))) (state_is seed (2 * at + 1) (2 * at) (omega arith))

two_later : (seed at : ℕ) → state_at seed (2 * (at + 1)) ≡ after (after (state_at seed (2 * at)))
two_later seed at = state_is seed (2 * (at + 1)) (2 * at + 1) (omega arith) ∙ ap after (state_is seed (2 * at + 1) (2 * at) (omega arith))

samples_is : (seed at count : ℕ) → samples_from seed at count ≡ samples_after (state_at seed (2 * at)) at count
unfolding samples_from samples_after
samples_is seed at zero = refl
samples_is seed at (suc count) =
    ap (λ b. b ++ samples_from seed (at + 1) count) (block_is seed at)
    ∙ ap (λ l. block_after (state_at seed (2 * at)) at ++ l) (samples_is seed (at + 1) count ∙ ap (λ x. samples_after x (at + 1) count) (two_later seed at))

state_first : (seed : ℕ) → state_at seed 0 ≡ seed
unfolding state_at
state_first seed = refl

-- a source that has read nothing stands for the whole file
pub whole_file : (frames seed end : ℕ) → end ≡ samples_for frames → head_of frames ++ samples_after seed 0 (end - 0) ≡ demo_file frames seed
unfolding demo_file
whole_file frames seed end is =
    let all : end - 0 ≡ samples_for frames = omega (arith, is) in
    ap (λ n. head_of frames ++ samples_after seed 0 n) all
    ∙ ap (λ x. head_of frames ++ samples_after x 0 (samples_for frames)) (sym (state_first seed))
    ∙ ap (λ l. head_of frames ++ l) (sym (samples_is seed 0 (samples_for frames)))

samples_next : (state at left : ℕ) → samples_after state at (suc left) ≡ block_after state at ++ samples_after (after (after state)) (at + 1) left
unfolding samples_after
samples_next state at left = refl

-- one more sample of both channels
pub made_more : (state at end : ℕ) → at < end →
    samples_after state at (end - at) ≡ block_after state at ++ samples_after (after (after state)) (at + 1) (end - (at + 1))
made_more state at end there =
    let one : end - at ≡ suc (end - (at + 1)) = omega (arith, there) in
    ap (samples_after state at) one ∙ samples_next state at (end - (at + 1))

none_left : (state at : ℕ) → samples_after state at 0 ≡ []
unfolding samples_after
none_left state at = refl

no_items : (xs : List ℕ) → length xs ≡ 0 → xs ≡ []
no_items [] h = refl
no_items (x ∷ xs) h = absurd (omega (arith, h))

no_front : (made : List ℕ) (at : ℕ) → length made ≡ 44 → 44 ≤ at → drop at made ≡ []
no_front made at size past = no_items (drop at made) (omega (arith, length-drop at made, size, past))

-- nothing is left where all that was made is given, and the time of the end has come
pub all_gone : (made : List ℕ) (at state time end : ℕ) → length made ≡ 44 → 44 ≤ at → time ≡ end →
    drop at made ++ samples_after state time (end - time) ≡ []
all_gone made at state time end size past is =
    let none : end - time ≡ 0 = omega (arith, is) in
    ap (λ l. l ++ samples_after state time (end - time)) (no_front made at size past)
    ∙ (ap (samples_after state time) none ∙ none_left state time)

-- what is left of what was made and of the samples, and what was given of it
pub given : (whole made out : List ℕ) (at n : ℕ) (rest : List ℕ) → whole ≡ drop at made ++ rest → take n out ≡ take n (take (length made - at) (drop at made)) →
    whole ≡ take n out ++ (drop (at + n) made ++ rest)
given whole made out at n rest is same =
    is ∙ (ap (λ l. l ++ rest) (given-front at n (drop at made) made made out refl refl same) ∙ append_assoc (take n out) (drop (at + n) made) rest)

-- the samples at the next time stand behind 40 bytes that are gone
pub refilled : (whole made again : List ℕ) (at state time end : ℕ) → length made ≡ 44 → 44 ≤ at → time < end →
    whole ≡ drop at made ++ samples_after state time (end - time) → drop 40 again ≡ block_after state time →
    whole ≡ drop 40 again ++ samples_after (after (after state)) (time + 1) (end - (time + 1))
refilled whole made again at state time end size past there is block =
    is ∙ (ap (λ l. l ++ samples_after state time (end - time)) (no_front made at size past)
    ∙ (made_more state time end there ∙ ap (λ l. l ++ samples_after (after (after state)) (time + 1) (end - (time + 1))) (sym block)))

-- two bytes are their first and their second
pub two_bytes : (xs : List ℕ) → length xs ≡ 2 → (slice_index_or xs 0 0 ∷ slice_index_or xs 1 0 ∷ []) ≡ xs
two_bytes [] size = absurd (omega (arith, size))
two_bytes (a ∷ []) size = absurd (omega (arith, size))
two_bytes (a ∷ b ∷ []) size = refl
two_bytes (a ∷ b ∷ c ∷ xs) size = absurd (omega (arith, size))
