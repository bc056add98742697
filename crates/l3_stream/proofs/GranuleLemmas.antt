-- Side information read: its front, and its units by granule and channel.
use Rattle.std.proofs.Common.{◌≡◌, ℕ, zero, suc, ◌*◌, Bool, ◌&&◌, List, [], ◌∷◌, length, take, drop, replicate, get_or, set, map, Option, Some, None, refl, ap, sym, subst, ◌∙◌, arith}
use Rattle.std.specs.List.{AllByRecursion}
use Rattle.std.proofs.lemmas.List.{drop-drop}
use Rattle.std.proofs.lemmas.Option.{cond_some}
use Rattle.l3_base.specs.declared.rate.Channels.{Channels}
use Rattle.l3_base.specs.declared.rate.Channels.TheVariants.{Mono, Stereo}
use Rattle.l3_stream.specs.declared.unit.Unit.{Unit}
use Rattle.l3_stream.specs.declared.unit.ChosenFrame.{ChosenFrame}
use Rattle.l3_stream.specs.Frames.{blank, placed, units_of, units_number}
use Rattle.l3_stream.specs.Fields.{fields_at}
use Rattle.l3_stream.specs.Side.{front_width, unit_widths, side_bytes, IsSide}
use Rattle.l3_stream.specs.SideReading.{begin_at, front_passes, unit_side_of, units_at, units_pass, side_at, stripped, PassesRule, SidePassesRule}
use Rattle.l3_stream.proofs.Side.{IsSideUnit, side_takes, side_is_found}
use Rattle.l3_stream.proofs.Rules.{side_is_exact}
use Rattle.l3_stream.specs.FieldReading.{side_in, IsBare, IsClearFront}

-- the unit from a bit on
abbrev pub unit_from_bit : List Bool → ℕ → Unit
unit_from_bit bits at = unit_side_of (take 59 (drop at bits))

abbrev pub PassesFrom : List Bool → ℕ → Type 0
PassesFrom bits at = PassesRule (fields_at unit_widths (take 59 (drop at bits)))

abbrev Passes : List Bool → Type 0
Passes rest = PassesRule (fields_at unit_widths (take 59 rest))

later : (bits : List Bool) → drop 59 (drop 59 (drop 20 bits)) ≡ drop 138 bits
later bits = ap (drop 59) (drop-drop 59 20 bits) ∙ drop-drop 59 79 bits

last : (bits : List Bool) → drop 59 (drop 59 (drop 59 (drop 20 bits))) ≡ drop 197 bits
last bits = ap (drop 59) (later bits) ∙ drop-drop 59 138 bits

-- ---- mono

pub mono_rule : (bits : List Bool) → IsClearFront Mono bits → PassesFrom bits 18 → PassesFrom bits 77 → SidePassesRule Mono bits
mono_rule bits front a b = record {
  private_bits = front.private_bits;
  scfsi = front.scfsi;
  units = (a, (subst Passes (sym (drop-drop 59 18 bits)) b, tt));
}

pub record MonoPasses (bits : List Bool) : Type 0 where
  pub front : IsClearFront Mono bits
  pub first : PassesFrom bits 18
  pub second : PassesFrom bits 77

pub mono_parts : (bits : List Bool) → SidePassesRule Mono bits → MonoPasses bits
mono_parts bits rule = record {
  front = record { private_bits = rule.private_bits; scfsi = rule.scfsi };
  first = rule.units.0;
  second = subst Passes (drop-drop 59 18 bits) rule.units.1.0;
}

mono_set : (us : List (List Unit)) (a b : Unit) → us ≡ replicate 2 (replicate 2 blank) →
    set (set us 0 (set (get_or us 0 []) 0 a)) 1 (set (get_or (set us 0 (set (get_or us 0 []) 0 a)) 1 []) 0 b) ≡ placed Mono (a ∷ b ∷ [])
unfolding placed
mono_set us a b is = ap (λ (gs : List (List Unit)). set (set gs 0 (set (get_or gs 0 []) 0 a)) 1 (set (get_or (set gs 0 (set (get_or gs 0 []) 0 a)) 1 []) 0 b)) is

pub mono_placed : (us : List (List Unit)) (bits : List Bool) (a b : Unit) → us ≡ replicate 2 (replicate 2 blank) → a ≡ unit_from_bit bits 18 → b ≡ unit_from_bit bits 77 →
    set (set us 0 (set (get_or us 0 []) 0 a)) 1 (set (get_or (set us 0 (set (get_or us 0 []) 0 a)) 1 []) 0 b) ≡ placed Mono (units_at 2 (drop 18 bits))
unfolding units_at
mono_placed us bits a b empty first second =
    mono_set us a b empty
    ∙ (ap (λ x. placed Mono (x ∷ b ∷ [])) first
    ∙ ap (λ x. placed Mono (unit_from_bit bits 18 ∷ x ∷ [])) (second ∙ ap (λ l. unit_side_of (take 59 l)) (sym (drop-drop 59 18 bits))))

-- ---- stereo

pub stereo_rule : (bits : List Bool) → IsClearFront Stereo bits → PassesFrom bits 20 → PassesFrom bits 79 → PassesFrom bits 138 → PassesFrom bits 197 → SidePassesRule Stereo bits
stereo_rule bits front a b p q = record {
  private_bits = front.private_bits;
  scfsi = front.scfsi;
  units = (a, (subst Passes (sym (drop-drop 59 20 bits)) b, (subst Passes (sym (later bits)) p, (subst Passes (sym (last bits)) q, tt))));
}

pub record StereoPasses (bits : List Bool) : Type 0 where
  pub front : IsClearFront Stereo bits
  pub first : PassesFrom bits 20
  pub second : PassesFrom bits 79
  pub third : PassesFrom bits 138
  pub fourth : PassesFrom bits 197

pub stereo_parts : (bits : List Bool) → SidePassesRule Stereo bits → StereoPasses bits
stereo_parts bits rule = record {
  front = record { private_bits = rule.private_bits; scfsi = rule.scfsi };
  first = rule.units.0;
  second = subst Passes (drop-drop 59 20 bits) rule.units.1.0;
  third = subst Passes (later bits) rule.units.1.1.0;
  fourth = subst Passes (last bits) rule.units.1.1.1.0;
}

-- both units of a granule
pub both_set : (us : List Unit) (a b x y : Unit) → us ≡ replicate 2 blank → a ≡ x → b ≡ y → set (set us 0 a) 1 b ≡ x ∷ y ∷ []
both_set us a b x y empty first second = ap (λ (l : List Unit). set (set l 0 a) 1 b) empty ∙ (ap (λ u. u ∷ b ∷ []) first ∙ ap (λ u. x ∷ u ∷ []) second)

pub stereo_placed : (us : List (List Unit)) (bits : List Bool) (g h : List Unit) → us ≡ replicate 2 (replicate 2 blank) →
    g ≡ unit_from_bit bits 20 ∷ unit_from_bit bits 79 ∷ [] → h ≡ unit_from_bit bits 138 ∷ unit_from_bit bits 197 ∷ [] →
    set (set us 0 g) 1 h ≡ placed Stereo (units_at 4 (drop 20 bits))
unfolding units_at placed
stereo_placed us bits g h empty first second =
    let b = ap (λ l. unit_side_of (take 59 l)) (sym (drop-drop 59 20 bits)) in
    let p = ap (λ l. unit_side_of (take 59 l)) (sym (later bits)) in
    let q = ap (λ l. unit_side_of (take 59 l)) (sym (last bits)) in
    ap (λ (gs : List (List Unit)). set (set gs 0 g) 1 h) empty
    ∙ (ap (λ l. l ∷ h ∷ []) (first ∙ ap (λ x. unit_from_bit bits 20 ∷ x ∷ []) b)
    ∙ ap (λ l. (unit_from_bit bits 20 ∷ unit_side_of (take 59 (drop 59 (drop 20 bits))) ∷ []) ∷ l ∷ [])
    (second ∙ (ap (λ x. x ∷ unit_from_bit bits 197 ∷ []) p ∙ ap (λ x. unit_side_of (take 59 (drop 59 (drop 59 (drop 20 bits)))) ∷ x ∷ []) q)))

-- ---- the whole

-- a frame was read off the bits
pub record IsReadOff (c : Channels) (bits : List Bool) (f : ChosenFrame) : Type 0 where
  pub rule : SidePassesRule c bits
  pub begin : f.begin ≡ begin_at bits
  pub units : f.units ≡ placed c (units_at (units_number c) (drop (front_width c) bits))

pub record IsFound (c : Channels) (bits : List Bool) (f : ChosenFrame) : Type 0 where
  pub value : side_at c bits ≡ Some (side_in c f)
  pub found : IsSide c bits f.begin (units_of c f.units)
  pub placed_so : f.units ≡ placed c (units_of c f.units)
  pub bare : AllByRecursion IsBare (units_of c f.units)

units_of-placed : (c : Channels) (us : List Unit) → length us ≡ units_number c → units_of c (placed c us) ≡ us
unfolding units_of placed
units_of-placed Mono [] e = absurd (omega arith)
units_of-placed Mono (a ∷ []) e = absurd (omega arith)
units_of-placed Mono (a ∷ b ∷ []) e = refl
units_of-placed Mono (a ∷ b ∷ x ∷ us) e = absurd (omega arith)
units_of-placed Stereo [] e = absurd (omega arith)
units_of-placed Stereo (a ∷ []) e = absurd (omega arith)
units_of-placed Stereo (a ∷ b ∷ []) e = absurd (omega arith)
units_of-placed Stereo (a ∷ b ∷ p ∷ []) e = absurd (omega arith)
units_of-placed Stereo (a ∷ b ∷ p ∷ q ∷ []) e = refl
units_of-placed Stereo (a ∷ b ∷ p ∷ q ∷ x ∷ us) e = absurd (omega arith)

length-units_at : (n : ℕ) (bits : List Bool) → length (units_at n bits) ≡ n
unfolding units_at
length-units_at zero bits = refl
length-units_at (suc n) bits = ap suc (length-units_at n (drop 59 bits))

all_bare : (us : List Unit) → AllByRecursion IsSideUnit us → AllByRecursion IsBare us
all_bare [] all = tt
all_bare (u ∷ us) all = let one : IsSideUnit u = all.0 in (one.bare, all_bare us all.1)

side_value : (c : Channels) (bits : List Bool) (side : ℕ × List Unit) → side_at c bits ≡ Some side → side_at c bits ≡ Some (begin_at bits, units_at (units_number c) (drop (front_width c) bits))
unfolding side_at
side_value c bits side e =
    let rest = drop (front_width c) bits in
    let own : ℕ × List Unit = (begin_at bits, units_at (units_number c) rest) in
    let p = cond_some (front_passes c bits && units_pass (units_number c) rest) own side e in
    rw p.0 refl

pub found_from : (c : Channels) (bits : List Bool) (f : ChosenFrame) → length bits ≡ 8 * side_bytes c → IsReadOff c bits f → IsFound c bits f
found_from c bits f size is =
    let us = units_at (units_number c) (drop (front_width c) bits) in
    let read = (side_is_exact c bits size).read is.rule in
    let units : units_of c f.units ≡ us = ap (units_of c) is.units ∙ units_of-placed c us (length-units_at (units_number c) (drop (front_width c) bits)) in
    let value : side_at c bits ≡ Some (side_in c f) =
    side_value c bits read.0 read.1 ∙ (ap (λ (b : ℕ). Some (b, us)) (sym is.begin) ∙ ap (λ (vs : List Unit). Some (f.begin, vs)) (sym units)) in
    let taken = side_takes c bits (f.begin, units_of c f.units) size value in
    record {
      value = value;
      found = taken.side;
      placed_so = is.units ∙ ap (placed c) (sym units);
      bare = all_bare (units_of c f.units) taken.units;
    }

none_of : {X : Type 0} (o : Option X) → ((x : X) → o ≡ Some x → ⊥) → o ≡ None
none_of None never = refl
none_of (Some x) never = absurd (never x refl)

pub record IsRefused (c : Channels) (bits : List Bool) : Type 0 where
  pub value : side_at c bits ≡ None
  pub none : (begin : ℕ) (us : List Unit) → IsSide c bits begin us → ⊥

pub refused_from : (c : Channels) (bits : List Bool) → length bits ≡ 8 * side_bytes c → (SidePassesRule c bits → ⊥) → IsRefused c bits
refused_from c bits size never =
    let exact = side_is_exact c bits size in
    record {
      value = none_of (side_at c bits) (λ side e. never (exact.allowed side e));
      none = λ begin us is. never (exact.allowed (begin, map stripped us) (side_is_found c bits begin us is));
    }
