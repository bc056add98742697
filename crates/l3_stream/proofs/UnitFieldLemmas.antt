-- Side information laid down field after field.
use Rattle.std.proofs.Common.{◌≡◌, ℕ, ◌+◌, ◌*◌, ◌^◌, ◌<◌, Bool, List, [], ◌∷◌, ◌++◌, length, take, drop, get_or, refl, ap, sym, subst, ◌∙◌, arith, append_assoc, length-append}
use Rattle.std.specs.List.{flat_map, AllByRecursion}
use Rattle.std.proofs.lemmas.List.{take_at, drop_at, drop-drop, drop_all, take_all}
use Rattle.l3_bits.specs.Bits.{digits, bits_of}
use Rattle.l3_bits.proofs.Places.{length-bits_of}
use Rattle.l3_base.specs.declared.settings.Settings.{Settings}
use Rattle.l3_base.specs.declared.rate.Channels.{Channels}
use Rattle.l3_base.specs.declared.rate.Channels.TheVariants.{Mono, Stereo}
use Rattle.l3_stream.specs.declared.unit.Unit.{Unit}
use Rattle.l3_stream.specs.declared.unit.ChosenFrame.{ChosenFrame}
use Rattle.l3_stream.specs.Units.{HasFields, IsCodedUnit}
use Rattle.l3_stream.specs.Frames.{units_of, units_number, IsCoded}
use Rattle.l3_stream.specs.Side.{unit_side, front_bits, front_width, front_widths, side_of}
use Rattle.l3_stream.proofs.Side.{unit_side-length, front-length}
use Rattle.l3_stream.proofs.NumberLemmas.{number_in, number_in-digits}

-- ---- the front

pub front_digits : (c : Channels) (begin number : ℕ) → begin < 2 ^ 9 → number ≡ number_in (front_widths c) (begin ∷ 0 ∷ 0 ∷ []) → digits (front_width c) number ≡ front_bits c begin
unfolding front_bits
front_digits Mono begin number lt is = ap (digits 18) is ∙ number_in-digits (front_widths Mono) (begin ∷ 0 ∷ 0 ∷ []) (lt, (omega arith, (omega arith, tt)))
front_digits Stereo begin number lt is = ap (digits 20) is ∙ number_in-digits (front_widths Stereo) (begin ∷ 0 ∷ 0 ∷ []) (lt, (omega arith, (omega arith, tt)))

pub mono_front : (begin number : ℕ) → begin < 2 ^ 9 → number ≡ begin → digits 18 (number * 512) ≡ front_bits Mono begin
mono_front begin number lt is = front_digits Mono begin (number * 512) lt (omega arith)

pub stereo_front : (begin number : ℕ) → begin < 2 ^ 9 → number ≡ begin → digits 20 (number * 2048) ≡ front_bits Stereo begin
stereo_front begin number lt is = front_digits Stereo begin (number * 2048) lt (omega arith)

pub front_written : (new old field front : List Bool) (c d : Channels) → c ≡ d → field ≡ front → new ≡ field ++ drop (front_width d) old → new ≡ front ++ drop (front_width c) old
front_written new old field front c d same is written = written ∙ (ap (λ l. l ++ drop (front_width d) old) is ∙ ap (λ e. front ++ drop (front_width e) old) (sym same))

-- ---- one field more

pub laid : (first mid new done more : List Bool) (at to : ℕ) → length done ≡ at → at + length more ≡ to → mid ≡ done ++ drop at first →
    new ≡ take at mid ++ more ++ drop to mid → new ≡ (done ++ more) ++ drop to first
laid first mid new done more at to is_at is_to is written =
    let front : take at mid ≡ done = ap (take at) is ∙ take_at done (drop at first) at is_at in
    let back : drop at mid ≡ drop at first = ap (drop at) is ∙ drop_at done (drop at first) at is_at in
    let rest : drop to mid ≡ drop to first =
    ap (λ n. drop n mid) (sym is_to) ∙ (sym (drop-drop (length more) at mid) ∙ (ap (drop (length more)) back ∙ (drop-drop (length more) at first ∙ ap (λ n. drop n first) is_to))) in
    written ∙ (ap (λ l. l ++ more ++ drop to mid) front ∙ ap (λ l. done ++ more ++ l) rest)

-- ---- the units of a frame by granule and channel

pub mono_units : (us : List (List Unit)) (d : Unit) → length (units_of Mono us) ≡ 2 → units_of Mono us ≡ get_or (get_or us 0 []) 0 d ∷ get_or (get_or us 1 []) 0 d ∷ []
unfolding units_of
mono_units [] d e = absurd (omega arith)
mono_units ([] ∷ gs) d e = absurd (omega arith)
mono_units ((a ∷ g) ∷ []) d e = absurd (omega arith)
mono_units ((a ∷ g) ∷ [] ∷ gs) d e = absurd (omega arith)
mono_units ((a ∷ g) ∷ (b ∷ h) ∷ gs) d e = refl

pub stereo_units : (us : List (List Unit)) (d : Unit) → length (units_of Stereo us) ≡ 4 →
    units_of Stereo us ≡ get_or (get_or us 0 []) 0 d ∷ get_or (get_or us 0 []) 1 d ∷ get_or (get_or us 1 []) 0 d ∷ get_or (get_or us 1 []) 1 d ∷ []
unfolding units_of
stereo_units [] d e = absurd (omega arith)
stereo_units ([] ∷ gs) d e = absurd (omega arith)
stereo_units ((a ∷ []) ∷ gs) d e = absurd (omega arith)
stereo_units ((a ∷ b ∷ g) ∷ []) d e = absurd (omega arith)
stereo_units ((a ∷ b ∷ g) ∷ [] ∷ gs) d e = absurd (omega arith)
stereo_units ((a ∷ b ∷ g) ∷ (p ∷ []) ∷ gs) d e = absurd (omega arith)
stereo_units ((a ∷ b ∷ g) ∷ (p ∷ q ∷ h) ∷ gs) d e = refl

pub mono_fields : (us : List (List Unit)) (d : Unit) → length (units_of Mono us) ≡ 2 → AllByRecursion HasFields (units_of Mono us) →
    HasFields (get_or (get_or us 0 []) 0 d) × HasFields (get_or (get_or us 1 []) 0 d)
mono_fields us d number all =
    let both = subst (AllByRecursion HasFields) (mono_units us d number) all in
    (both.0, both.1.0)

pub stereo_fields : (us : List (List Unit)) (d : Unit) → length (units_of Stereo us) ≡ 4 → AllByRecursion HasFields (units_of Stereo us) →
    HasFields (get_or (get_or us 0 []) 0 d) × HasFields (get_or (get_or us 0 []) 1 d) × HasFields (get_or (get_or us 1 []) 0 d) × HasFields (get_or (get_or us 1 []) 1 d)
stereo_fields us d number all =
    let four = subst (AllByRecursion HasFields) (stereo_units us d number) all in
    (four.0, four.1.0, four.1.1.0, four.1.1.1.0)

all_fields : (st : Settings) (us : List Unit) → AllByRecursion (IsCodedUnit st) us → AllByRecursion HasFields us
all_fields st [] all = tt
all_fields st (u ∷ us) all = let one : IsCodedUnit st u = all.0 in (one.fields, all_fields st us all.1)

pub record CanSay (c : Channels) (f : ChosenFrame) : Type 0 where
  pub number : length (units_of c f.units) ≡ units_number c
  pub fields : AllByRecursion HasFields (units_of c f.units)

pub can_say : (st : Settings) (c : Channels) (f : ChosenFrame) → st.channels ≡ c → IsCoded st f → CanSay c f
can_say st c f is coded = subst (λ (x : Channels). CanSay x f) is (record { number = coded.number; fields = all_fields st (units_of st.channels f.units) coded.units })

-- ---- the whole

abbrev pub mono_side : ℕ → Unit → Unit → List Bool
mono_side begin a b = (front_bits Mono begin ++ unit_side a) ++ unit_side b

abbrev pub stereo_side : ℕ → Unit → Unit → Unit → Unit → List Bool
stereo_side begin a b p q = (((front_bits Stereo begin ++ unit_side a) ++ unit_side b) ++ unit_side p) ++ unit_side q

nothing_left : (bytes : List ℕ) (n : ℕ) → length bytes ≡ n → drop (8 * n) (bits_of bytes) ≡ []
nothing_left bytes n size = drop_all (8 * n) (bits_of bytes) (omega (arith, length-bits_of bytes))

regroup_two : (f a b : List Bool) → ((f ++ a) ++ b) ++ [] ≡ f ++ (a ++ (b ++ []))
regroup_two f a b = simp append_assoc

regroup_four : (f a b p q : List Bool) → ((((f ++ a) ++ b) ++ p) ++ q) ++ [] ≡ f ++ (a ++ (b ++ (p ++ (q ++ []))))
regroup_four f a b p q = simp append_assoc

pub mono_written : (old : List ℕ) (o1 o2 o3 : List Bool) (f : ChosenFrame) (d : Unit) → length old ≡ 17 → length (units_of Mono f.units) ≡ 2 →
    o1 ≡ front_bits Mono f.begin ++ drop 18 (bits_of old) →
    o2 ≡ take 18 o1 ++ unit_side (get_or (get_or f.units 0 []) 0 d) ++ drop 77 o1 →
    o3 ≡ take 77 o2 ++ unit_side (get_or (get_or f.units 1 []) 0 d) ++ drop 136 o2 →
    o3 ≡ side_of Mono f
mono_written old o1 o2 o3 f d size number w1 w2 w3 =
    let a = get_or (get_or f.units 0 []) 0 d in
    let b = get_or (get_or f.units 1 []) 0 d in
    let front = front_bits Mono f.begin in
    let l1 : length front ≡ 18 = front-length Mono f.begin in
    let l2 : length (front ++ unit_side a) ≡ 77 = omega (arith, length-append front (unit_side a), unit_side-length a, l1) in
    let s2 = laid (bits_of old) o1 o2 front (unit_side a) 18 77 l1 (ap (λ n. 18 + n) (unit_side-length a)) w1 w2 in
    let s3 = laid (bits_of old) o2 o3 (front ++ unit_side a) (unit_side b) 77 136 l2 (ap (λ n. 77 + n) (unit_side-length b)) s2 w3 in
    s3 ∙ (ap (λ l. mono_side f.begin a b ++ l) (nothing_left old 17 size)
    ∙ (regroup_two front (unit_side a) (unit_side b) ∙ ap (λ us. front ++ flat_map unit_side us) (sym (mono_units f.units d number))))

pub stereo_written : (old : List ℕ) (o1 o2 o3 o4 o5 : List Bool) (f : ChosenFrame) (d : Unit) → length old ≡ 32 → length (units_of Stereo f.units) ≡ 4 →
    o1 ≡ front_bits Stereo f.begin ++ drop 20 (bits_of old) →
    o2 ≡ take 20 o1 ++ unit_side (get_or (get_or f.units 0 []) 0 d) ++ drop 79 o1 →
    o3 ≡ take 79 o2 ++ unit_side (get_or (get_or f.units 0 []) 1 d) ++ drop 138 o2 →
    o4 ≡ take 138 o3 ++ unit_side (get_or (get_or f.units 1 []) 0 d) ++ drop 197 o3 →
    o5 ≡ take 197 o4 ++ unit_side (get_or (get_or f.units 1 []) 1 d) ++ drop 256 o4 →
    o5 ≡ side_of Stereo f
stereo_written old o1 o2 o3 o4 o5 f d size number w1 w2 w3 w4 w5 =
    let a = get_or (get_or f.units 0 []) 0 d in
    let b = get_or (get_or f.units 0 []) 1 d in
    let p = get_or (get_or f.units 1 []) 0 d in
    let q = get_or (get_or f.units 1 []) 1 d in
    let front = front_bits Stereo f.begin in
    let first = front ++ unit_side a in
    let second = first ++ unit_side b in
    let third = second ++ unit_side p in
    let l1 : length front ≡ 20 = front-length Stereo f.begin in
    let l2 : length first ≡ 79 = omega (arith, length-append front (unit_side a), unit_side-length a, l1) in
    let l3 : length second ≡ 138 = omega (arith, length-append first (unit_side b), unit_side-length b, l2) in
    let l4 : length third ≡ 197 = omega (arith, length-append second (unit_side p), unit_side-length p, l3) in
    let s2 = laid (bits_of old) o1 o2 front (unit_side a) 20 79 l1 (ap (λ n. 20 + n) (unit_side-length a)) w1 w2 in
    let s3 = laid (bits_of old) o2 o3 first (unit_side b) 79 138 l2 (ap (λ n. 79 + n) (unit_side-length b)) s2 w3 in
    let s4 = laid (bits_of old) o3 o4 second (unit_side p) 138 197 l3 (ap (λ n. 138 + n) (unit_side-length p)) s3 w4 in
    let s5 = laid (bits_of old) o4 o5 third (unit_side q) 197 256 l4 (ap (λ n. 197 + n) (unit_side-length q)) s4 w5 in
    s5 ∙ (ap (λ l. stereo_side f.begin a b p q ++ l) (nothing_left old 32 size)
    ∙ (regroup_four front (unit_side a) (unit_side b) (unit_side p) (unit_side q) ∙ ap (λ us. front ++ flat_map unit_side us) (sym (stereo_units f.units d number))))

-- ---- bytes in front

pub bytes_first : (new rest : List ℕ) (n : ℕ) (bits : List Bool) → length new ≡ n → bits_of new ≡ bits → bits_of (take n (new ++ rest)) ≡ bits
bytes_first new rest n bits size is = ap bits_of (take_at new rest n size) ∙ is

pub bytes_all : (new : List ℕ) (n : ℕ) (bits : List Bool) → length new ≡ n → bits_of new ≡ bits → bits_of (take n new) ≡ bits
bytes_all new n bits size is = ap bits_of (take_all n new (omega arith)) ∙ is

pub none_past : (new old : List ℕ) (n : ℕ) → length new ≡ n → length old ≡ n → drop n new ≡ drop n old
none_past new old n a b = drop_all n new (omega arith) ∙ sym (drop_all n old (omega arith))
