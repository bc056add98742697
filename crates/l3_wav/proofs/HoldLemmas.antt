-- What windows hold, as they go on.
use Rattle.std.proofs.Common.{◌≡◌, ◌∙◌, sym, ap, subst, refl, inl, inr, ◌⊎◌, ℕ, ◌+◌, ◌-◌, ◌*◌, ◌<◌, ◌≤◌, Bool, true, false, List, [], ◌++◌, ℤ, pos, negsuc, length, take, drop, replicate, arith, append_assoc, length-append, length-drop, length-take-le}
use Rattle.std.specs.Prelude.{Option, Some, None, IfSome, IsSomeAnd, ◌-ℤ◌}
use Rattle.std.proofs.lemmas.List.{drop-drop, take_all, append-nil, length-replicate, drop-append-le}
use Rattle.std.proofs.Math.Seq.{take-add}
use Rattle.l3_base.specs.declared.rate.Channels.{Channels}
use Rattle.l3_base.specs.declared.rate.Channels.TheVariants.{Mono, Stereo}
use Rattle.l3_base.specs.Lists.{entry}
use Rattle.l3_base.specs.Filterbank.{sample_at, window_of}
use Rattle.l3_base.proofs.ListLemmas.{tabulate-same}
use Rattle.l3_wav.specs.Pcm.{left_of, right_of, right_count}
use Rattle.l3_wav.specs.Samples.{SamplesState, coming}
use Rattle.l3_wav.specs.ReadingOn.{right_zeros, InStereo, InMono, Adds, ReadsOn}
use Rattle.l3_wav.specs.Windows.{kept_of, window_in}
use Rattle.l3_wav.specs.Holding.{WindowsView, HoldsChannel, Holds, StillHolds, GoesOn, AreSound}
use Rattle.l3_wav.proofs.WindowLemmas.{windows-of-samples, windows-of-fronts}

pub first-holds : (samples : List ℤ) → HoldsChannel (replicate 1056 (pos 0)) 0 0 false samples samples
unfolding kept_of
first-holds samples = record {
  kept_is = sym (append-nil (replicate 1056 (pos 0)));
  within = omega arith;
  all_read = λ (e : false ≡ true). absurd cc;
  rest_is = refl;
}

kept-more : (samples : List ℤ) (base read count : ℕ) → 576 * base ≤ read → read ≤ length samples →
    kept_of (take read samples) base ++ take count (drop read samples) ≡ kept_of (take (read + count) samples) base
unfolding kept_of
kept-more samples base read count near within =
    let zeros = replicate 1056 (pos 0) in
    let long : 576 * base ≤ length (replicate 1056 (pos 0) ++ take read samples) =
    omega (arith, length-append (replicate 1056 (pos 0)) (take read samples), length-replicate 1056 (pos 0), length-take-le read samples within) in
    sym (ap (λ (l : List ℤ). drop (576 * base) (replicate 1056 (pos 0) ++ l)) (take-add read count samples)
    ∙ (ap (drop (576 * base)) (sym (append_assoc (replicate 1056 (pos 0)) (take read samples) (take count (drop read samples))))
    ∙ drop-append-le (576 * base) (replicate 1056 (pos 0) ++ take read samples) (take count (drop read samples)) long))

pub more-holds : (kept kept_now : List ℤ) (base read count : ℕ) (is_short : Bool) (rest rest_now samples : List ℤ) → 576 * base ≤ read →
    Adds count is_short rest rest_now kept kept_now → HoldsChannel kept base read false rest samples → HoldsChannel kept_now base (read + count) is_short rest_now samples
more-holds kept kept_now base read count is_short rest rest_now samples near adds holds =
    let long : length rest ≡ length samples - read = ap length holds.rest_is ∙ length-drop read samples in
    record {
      kept_is = adds.added ∙ (ap (λ (l : List ℤ). l ++ take count rest) holds.kept_is
          ∙ (ap (λ (l : List ℤ). kept_of (take read samples) base ++ take count l) holds.rest_is ∙ kept-more samples base read count near holds.within));
      within = omega (arith, long, adds.there, holds.within);
      all_read = λ (e : is_short ≡ true). let all = adds.short e in omega (arith, all, long, holds.within);
      rest_is = adds.rest ∙ (ap (drop count) holds.rest_is ∙ drop-drop count read samples);
    }

kept-next : (samples : List ℤ) (base : ℕ) → drop 576 (kept_of samples base) ≡ kept_of samples (base + 1)
unfolding kept_of
kept-next samples base =
    let more : 576 * base + 576 ≡ 576 * (base + 1) = omega arith in
    drop-drop 576 (576 * base) (replicate 1056 (pos 0) ++ samples) ∙ ap (λ (k : ℕ). drop k (replicate 1056 (pos 0) ++ samples)) more

pub next-holds : (kept : List ℤ) (base read : ℕ) (ended : Bool) (rest samples : List ℤ) → HoldsChannel kept base read ended rest samples → HoldsChannel (drop 576 kept) (base + 1) read ended rest samples
next-holds kept base read ended rest samples holds = record {
  kept_is = ap (drop 576) holds.kept_is ∙ kept-next (take read samples) base;
  within = holds.within;
  all_read = holds.all_read;
  rest_is = holds.rest_is;
}

pub window-holds : (kept : List ℤ) (base read : ℕ) (ended : Bool) (rest samples : List ℤ) (g : ℕ) → HoldsChannel kept base read ended rest samples → base ≤ g → (ended ≡ true) ⊎ (576 * (g + 1) ≤ read) →
    window_in kept (g - base) ≡ window_of samples g
window-holds kept base read ended rest samples g holds le there =
    ap (λ (l : List ℤ). window_in l (g - base)) holds.kept_is ∙ (windows-of-samples (take read samples) base g le ∙ by there)
  where
    by : (ended ≡ true) ⊎ (576 * (g + 1) ≤ read) → window_of (take read samples) g ≡ window_of samples g
    by (inl e) = let all = holds.all_read e in ap (λ (l : List ℤ). window_of l g) (take_all read samples (omega (arith, all)))
    by (inr far) = windows-of-fronts samples read g far

nothing-at : (z : ℤ) → pos 0 ≡ sample_at [] z
nothing-at (pos n) = refl
nothing-at (negsuc n) = refl

-- windows of no samples
pub no-window : (after g : ℕ) → window_in [] after ≡ window_of [] g
unfolding window_in window_of
no-window after g = tabulate-same 1632 (λ n. entry [] (576 * after + n)) (λ n. sample_at [] (pos (576 * g + n) -ℤ pos 1056)) (λ n below. nothing-at (pos (576 * g + n) -ℤ pos 1056))

-- before the first sample
pub open-holds : (v : WindowsView) (bytes : List ℕ) → v.base ≡ 0 → v.read ≡ 0 → v.ended ≡ false → v.left ≡ replicate 1056 (pos 0) → v.right ≡ right_zeros v.channels →
    Holds v bytes (left_of v.channels (coming v.samples bytes)) (right_of v.channels (coming v.samples bytes))
open-holds v bytes base read ended left right = record {
  left_holds = one v.left (left_of v.channels (coming v.samples bytes)) left;
  right_holds = two v.channels right;
  no_right = none v.channels right;
}
  where
    one : (kept samples : List ℤ) → kept ≡ replicate 1056 (pos 0) → HoldsChannel kept v.base v.read v.ended samples samples
    one kept samples is = rw (is, base, read, ended) (first-holds samples)

    two : (channels : Channels) → v.right ≡ right_zeros channels → InStereo channels (HoldsChannel v.right v.base v.read v.ended (right_of channels (coming v.samples bytes)) (right_of channels (coming v.samples bytes)))
    two Mono is = tt
    two Stereo is = one v.right (right_of Stereo (coming v.samples bytes)) is

    none : (channels : Channels) → v.right ≡ right_zeros channels → InMono channels ((v.right ≡ []) × (right_of channels (coming v.samples bytes) ≡ []))
    none Mono is = (is, refl)
    none Stereo is = tt

-- the windows of a granule
pub windows-hold : (v : WindowsView) (bytes : List ℕ) (left right : List ℤ) (g : ℕ) → Holds v bytes left right → v.base ≤ g → (v.ended ≡ true) ⊎ (576 * (g + 1) ≤ v.read) →
    (window_in v.left (g - v.base) ≡ window_of left g) × (window_in v.right (g - v.base) ≡ window_of right g)
windows-hold v bytes left right g h le there =
    (window-holds v.left v.base v.read v.ended _ left g h.left_holds le there, by v.channels h.right_holds h.no_right)
  where
    by : (channels : Channels) → InStereo channels (HoldsChannel v.right v.base v.read v.ended (right_of v.channels (coming v.samples bytes)) right) → InMono channels ((v.right ≡ []) × (right ≡ [])) →
        window_in v.right (g - v.base) ≡ window_of right g
    by Mono two none = ap (λ (l : List ℤ). window_in l (g - v.base)) none.0 ∙ (no-window (g - v.base) g ∙ ap (λ (l : List ℤ). window_of l g) (sym none.1))
    by Stereo two none = window-holds v.right v.base v.read v.ended _ right g two le there

-- samples were read into each channel
pub read-holds : (old new : WindowsView) (bytes now : List ℕ) (count : ℕ) (is_short : Bool) → new.channels ≡ old.channels → new.base ≡ old.base → new.read ≡ old.read + count → new.ended ≡ is_short →
    old.ended ≡ false → 576 * old.base ≤ old.read →
    ReadsOn old.channels count is_short old.samples new.samples bytes now old.left new.left old.right new.right → StillHolds old new bytes now
read-holds old new bytes now count is_short channels base read ended going near reads = record {
  holds = λ left right h. record {
    left_holds = one old.left new.left (left_of old.channels (coming old.samples bytes)) (left_of new.channels (coming new.samples now)) left
        (subst (λ (k : Channels). Adds count is_short (left_of old.channels (coming old.samples bytes)) (left_of k (coming new.samples now)) old.left new.left) (sym channels) reads.left_added) h.left_holds;
    right_holds = subst (λ (k : Channels). InStereo k (HoldsChannel new.right new.base new.read new.ended (right_of k (coming new.samples now)) right)) (sym channels) (two right old.channels reads.right_added h.right_holds);
    no_right = subst (λ (k : Channels). InMono k ((new.right ≡ []) × (right ≡ []))) (sym channels) (none right old.channels reads.right_stays h.no_right);
  };
  after = reads.after;
}
  where
    one : (kept kept_now rest rest_now samples : List ℤ) → Adds count is_short rest rest_now kept kept_now → HoldsChannel kept old.base old.read old.ended rest samples → HoldsChannel kept_now new.base new.read new.ended rest_now samples
    one kept kept_now rest rest_now samples adds holds =
        let before : HoldsChannel kept old.base old.read false rest samples = subst (λ (e : Bool). HoldsChannel kept old.base old.read e rest samples) going holds in
        rw (base, read, ended) (more-holds kept kept_now old.base old.read count is_short rest rest_now samples near adds before)

    two : (right : List ℤ) (k : Channels) → InStereo k (Adds count is_short (right_of k (coming old.samples bytes)) (right_of k (coming new.samples now)) old.right new.right) →
        InStereo k (HoldsChannel old.right old.base old.read old.ended (right_of k (coming old.samples bytes)) right) →
        InStereo k (HoldsChannel new.right new.base new.read new.ended (right_of k (coming new.samples now)) right)
    two right Mono adds holds = tt
    two right Stereo adds holds = one old.right new.right (right_of Stereo (coming old.samples bytes)) (right_of Stereo (coming new.samples now)) right adds holds

    none : (right : List ℤ) (k : Channels) → InMono k (new.right ≡ old.right) → InMono k ((old.right ≡ []) × (right ≡ [])) → InMono k ((new.right ≡ []) × (right ≡ []))
    none right Mono same was = (same ∙ was.0, was.1)
    none right Stereo same was = tt

pub goes-on-by : (old new : WindowsView) (left_old left_new : Option (List ℕ)) (count : ℕ) (is_short : Bool) → new.channels ≡ old.channels → new.base ≡ old.base → new.read ≡ old.read + count → new.ended ≡ is_short →
    old.ended ≡ false → 576 * old.base ≤ old.read →
    IfSome left_old (λ bytes. IsSomeAnd left_new (λ now. ReadsOn old.channels count is_short old.samples new.samples bytes now old.left new.left old.right new.right)) → GoesOn old new left_old left_new
goes-on-by old new None left_new count is_short channels base read ended going near reads = tt
goes-on-by old new (Some bytes) None count is_short channels base read ended going near reads = reads
goes-on-by old new (Some bytes) (Some now) count is_short channels base read ended going near reads = read-holds old new bytes now count is_short channels base read ended going near reads

-- at no step, and at two steps one after the other
pub goes-nowhere : (v : WindowsView) (left : Option (List ℕ)) → GoesOn v v left left
goes-nowhere v None = tt
goes-nowhere v (Some bytes) = record { holds = λ left right h. h; after = refl }

pub goes-twice : (first mid last : WindowsView) (left_first left_mid left_last : Option (List ℕ)) → GoesOn first mid left_first left_mid → GoesOn mid last left_mid left_last → GoesOn first last left_first left_last
goes-twice first mid last None left_mid left_last one two = tt
goes-twice first mid last (Some bytes) None left_last one two = absurd one
goes-twice first mid last (Some bytes) (Some between) None one two = two
goes-twice first mid last (Some bytes) (Some between) (Some now) one two = record { holds = λ left right h. two.holds left right (one.holds left right h); after = two.after ∙ one.after }

-- the next granule's samples are kept
abbrev next_with : WindowsView → (left right : List ℤ) → WindowsView
next_with v left right = record v { base = v.base + 1; left = left; right = right }

right-next : (channels : Channels) (left right : List ℤ) → length right ≡ right_count channels (length left) → length (drop 576 right) ≡ right_count channels (length (drop 576 left))
right-next Mono left right is = omega (arith, length-drop 576 right, is)
right-next Stereo left right is = length-drop 576 right ∙ (ap (λ (k : ℕ). k - 576) is ∙ sym (length-drop 576 left))

pub sound-next : (v : WindowsView) (left right : List ℤ) (stale stale_now left_room right_room left_now right_now : ℕ) → left ≡ drop 576 v.left → right ≡ drop 576 v.right → stale_now ≤ 7 → left_now ≡ left_room → right_now ≡ right_room →
    (v.ended ≡ true) ⊎ (576 * (v.base + 1) ≤ v.read) → v.base < 8589934592 → AreSound v stale left_room right_room → AreSound (next_with v left right) stale_now left_now right_now
sound-next v left right stale stale_now left_room right_room left_now right_now left_is right_is few same_left same_right there limit s = record {
  ahead = s.ahead;
  base = omega (arith, limit);
  few = omega (arith, s.few);
  near = λ (e : v.ended ≡ false). by e there;
  left_long = ap length left_is ∙ (length-drop 576 v.left ∙ (ap (λ (k : ℕ). k - 576) s.left_long ∙ omega arith));
  right_long = rw (left_is, right_is) (right-next v.channels v.left v.right s.right_long);
  few_stale = few;
  left_room = rw same_left s.left_room;
  right_room = rw same_right s.right_room;
  channels = s.channels;
  declared = s.declared;
  small = s.small;
  done = s.done;
}
  where
    by : v.ended ≡ false → (v.ended ≡ true) ⊎ (576 * (v.base + 1) ≤ v.read) → 576 * (v.base + 1) ≤ v.read
    by going (inl e) = absurd cc
    by going (inr le) = le

pub next-holds-all : (v : WindowsView) (left_now right_now : List ℤ) (bytes : List ℕ) (left right : List ℤ) → left_now ≡ drop 576 v.left → right_now ≡ drop 576 v.right →
    Holds v bytes left right → Holds (next_with v left_now right_now) bytes left right
next-holds-all v left_now right_now bytes left right left_is right_is h = record {
  left_holds = rw left_is (next-holds v.left v.base v.read v.ended _ left h.left_holds);
  right_holds = two v.channels h.right_holds;
  no_right = none v.channels h.no_right;
}
  where
    two : (k : Channels) → InStereo k (HoldsChannel v.right v.base v.read v.ended (right_of v.channels (coming v.samples bytes)) right) → InStereo k (HoldsChannel right_now (v.base + 1) v.read v.ended (right_of v.channels (coming v.samples bytes)) right)
    two Mono holds = tt
    two Stereo holds = rw right_is (next-holds v.right v.base v.read v.ended _ right holds)

    none : (k : Channels) → InMono k ((v.right ≡ []) × (right ≡ [])) → InMono k ((right_now ≡ []) × (right ≡ []))
    none Mono was = (right_is ∙ ap (drop 576) was.0, was.1)
    none Stereo was = tt

-- where nothing is read
pub goes-still : (old new : WindowsView) (left : Option (List ℕ)) → ((bytes : List ℕ) (p q : List ℤ) → Holds old bytes p q → Holds new bytes p q) → new.samples ≡ old.samples → GoesOn old new left left
goes-still old new None holds same = tt
goes-still old new (Some bytes) holds same = record { holds = λ p q h. holds bytes p q h; after = ap (λ (s : SamplesState). drop s.remaining bytes) same }
