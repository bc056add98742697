-- What the windows keep by their type, after a read.
use Rattle.std.proofs.Common.{◌≡◌, ◌∙◌, sym, ℕ, ◌+◌, ◌*◌, ◌<◌, ◌≤◌, Bool, true, false, List, ℤ, length, drop, length-drop, arith, nat_lt, refl}
use Rattle.l3_base.specs.declared.rate.Channels.{Channels}
use Rattle.l3_base.specs.declared.rate.Channels.TheVariants.{Mono, Stereo}
use Rattle.l3_wav.specs.Pcm.{right_count}
use Rattle.l3_wav.specs.Samples.{SamplesState}
use Rattle.l3_wav.specs.Holding.{AreSound}
use Rattle.l3_wav.specs.ReadingOn.{InStereo}
use Rattle.l3_wav.proofs.ReadLemmas.{lt-from, stands, stands-right}

-- so many more behind those that stand
drop-longer : (k count : ℕ) (xs ys : List ℤ) → k ≤ length xs → length ys ≡ length xs + count → length (drop k ys) ≡ length (drop k xs) + count
drop-longer k count xs ys low long = omega (arith, low, long, length-drop k xs, length-drop k ys)

-- the right channel has as many as the left one, or none
right-longer : (channels : Channels) (k count n : ℕ) (xs ys : List ℤ) → InStereo channels (k ≤ length xs) → length (drop k xs) ≡ right_count channels n →
    length ys ≡ length xs + right_count channels count → length (drop k ys) ≡ right_count channels (n + count)
right-longer Mono k count n xs ys low was long = omega (arith, was, long, length-drop k xs, length-drop k ys)
right-longer Stereo k count n xs ys low was long = omega (arith, was, drop-longer k count xs ys low long)

-- room in a channel that is there
same-room : (channels : Channels) (least before now : ℕ) → now ≡ before → InStereo channels (least ≤ before) → InStereo channels (least ≤ now)
same-room Mono least before now same room = tt
same-room Stereo least before now same room = omega (arith, same, room)

module _ (channels : Channels) (ahead base read : ℕ) (ended : Bool) (samples samples_now : SamplesState) (left left_now right right_now : List ℤ)
    (stale left_room left_room_now right_room right_room_now : ℕ)
    (sound : AreSound (record { channels = channels; ahead = ahead; base = base; read = read; ended = ended; samples = samples; left = drop (576 * stale) left; right = drop (576 * stale) right }) stale left_room right_room)
    (going : ended ≡ false) (left_same : left_room_now ≡ left_room) (right_same : right_room_now ≡ right_room) where
  -- after a fault all stands as before, and the samples say that they failed
  pub sound-failed : samples_now.failed ≡ true → left_now ≡ left → right_now ≡ right →
      AreSound (record { channels = channels; ahead = ahead; base = base; read = read; ended = ended; samples = samples_now; left = drop (576 * stale) left_now; right = drop (576 * stale) right_now })
      stale left_room_now right_room_now
  sound-failed failed left_is right_is = rw (left_is, right_is) (record {
    ahead = sound.ahead;
    base = sound.base;
    few = sound.few;
    near = sound.near;
    left_long = sound.left_long;
    right_long = sound.right_long;
    few_stale = sound.few_stale;
    left_room = omega (arith, left_same, sound.left_room);
    right_room = same-room channels _ right_room right_room_now right_same sound.right_room;
    channels = λ fine. let bad : false ≡ true = sym fine ∙ failed in cc;
    declared = λ fine. let bad : false ≡ true = sym fine ∙ failed in cc;
    small = sound.small;
    done = λ over. let bad : false ≡ true = sym going ∙ over in cc;
  })

  -- after a read as many more stand behind, and the end is known where these were fewer than wanted
  pub sound-read : (count room : ℕ) → read + count ≤ 576 * (base + ahead + 1) → samples.failed ≡ false → samples_now.channels ≡ channels →
      2 * count + samples_now.remaining ≤ samples.remaining → (count < room → samples_now.remaining ≡ 0) →
      length left_now ≡ length left + count → length right_now ≡ length right + right_count channels count →
      AreSound (record { channels = channels; ahead = ahead; base = base; read = read + count; ended = nat_lt count room; samples = samples_now; left = drop (576 * stale) left_now; right = drop (576 * stale) right_now })
      stale left_room_now right_room_now
  sound-read count room few fine same declared ends left_long right_long =
      let k = 576 * stale in
      let near : 576 * base ≤ read = sound.near going in
      let some : 0 < length (drop k left) = omega (arith, near, sound.left_long) in
      let left_longer : length (drop k left_now) ≡ length (drop k left) + count = drop-longer k count left left_now (stands left k (length (drop k left)) refl some) left_long in
      let total : 2 * read + samples.remaining < 4294967296 = sound.declared fine in
      record {
        ahead = sound.ahead;
        base = sound.base;
        few = few;
        near = λ _. omega (arith, near);
        left_long = omega (arith, near, sound.left_long, left_longer);
        right_long = rw left_longer (right-longer channels k count (length (drop k left)) right right_now (stands-right channels left right k sound.right_long some) sound.right_long right_long);
        few_stale = sound.few_stale;
        left_room = omega (arith, left_same, sound.left_room);
        right_room = same-room channels _ right_room right_room_now right_same sound.right_room;
        channels = λ _. same;
        declared = λ _. omega (arith, total, declared);
        small = omega (arith, total, declared);
        done = λ over. ends (lt-from count room over);
      }
