-- Reading a unit and units one after the other: what each step gives.
use Rattle.std.proofs.Common.{◌≡◌, ℕ, ◌+◌, ◌-◌, ◌*◌, ◌/◌, Bool, List, [], ◌∷◌, ◌++◌, take, drop, Result, Ok, Err, refl, sym, ap, ◌∙◌, arith}
use Rattle.std.specs.Prelude.{ℤ}
use Rattle.std.proofs.lemmas.List.{drop-drop}
use Rattle.l3_bits.specs.Bits.{bits_of}
use Rattle.l3_huff.specs.Words.{between}
use Rattle.l3_base.specs.declared.settings.Settings.{Settings}
use Rattle.l3_stream.specs.declared.fault.StreamFault.{StreamFault}
use Rattle.l3_stream.specs.declared.unit.Unit.{Unit}
use Rattle.l3_stream.specs.Units.{table_at, lengths}
use Rattle.l3_stream.specs.Faults.{◌>>=◌}
use Rattle.l3_stream.specs.UnitReading.{pairs_at, quads_at, with_lines, unit_at, main_units_at}
use Rattle.l3_stream.proofs.Steps.{bind_ok, bind_again, ok_is}
use Rattle.l3_frames.specs.Steps.{gives}

-- ---- answers

pub gives_err : {A B : Type 0} (said : Result B StreamFault) (made : A → B)
    (r : Result A StreamFault) (fault : StreamFault) → r ≡ Err fault → said ≡ Err fault
    → said ≡ gives made r
gives_err said made r fault is e = e ∙ sym (ap (gives made) is)

pub bind_bad : {A B : Type 0} (r : Result A StreamFault) (f : A → Result B StreamFault)
    (fault : StreamFault) → r ≡ Err fault → (r >>= f) ≡ Err fault
unfolding ◌>>=◌
bind_bad r f fault e = rw e refl

-- ---- a unit

pub unit_bad_pair : (st : Settings) (end : ℕ) (u : Unit) (bits : List Bool) (fault : StreamFault)
    → pairs_at (table_at st u) end 0 u.big bits ≡ Err fault → unit_at st end u bits ≡ Err fault
unfolding unit_at
unit_bad_pair st end u bits fault e = bind_bad (pairs_at (table_at st u) end 0 u.big bits) _ fault e

pub unit_bad_quad : (st : Settings) (end : ℕ) (u : Unit) (bits : List Bool)
    (pairs : List ℤ × List Bool) (fault : StreamFault) → pairs_at (table_at st u) end 0 u.big bits
    ≡ Ok pairs
    → quads_at u.quad end ((576 - 2 * u.big) / 4) pairs.1 ≡ Err fault → unit_at st end u bits
    ≡ Err fault
unfolding unit_at
unit_bad_quad st end u bits pairs fault p q = bind_again (pairs_at (table_at st u) end 0 u.big bits)
    _ pairs (Err fault) p (bind_bad (quads_at u.quad end ((576 - 2 * u.big) / 4) pairs.1) _ fault q)

pub unit_read : (st : Settings) (end : ℕ) (u : Unit) (bits : List Bool) (pairs : List ℤ × List Bool)
    (quads : List ℤ) → pairs_at (table_at st u) end 0 u.big bits ≡ Ok pairs
    → quads_at u.quad end ((576 - 2 * u.big) / 4) pairs.1 ≡ Ok quads → unit_at st end u bits
    ≡ Ok (with_lines u pairs.0 quads)
unfolding unit_at
unit_read st end u bits pairs quads p q = bind_again (pairs_at (table_at st u) end 0 u.big bits) _
    pairs (Ok (with_lines u pairs.0 quads)) p
    (bind_again (quads_at u.quad end ((576 - 2 * u.big) / 4) pairs.1) _ quads
    (Ok (with_lines u pairs.0 quads)) q refl)

-- ---- units one after the other

module _ (st : Settings) (first at : ℕ) (bytes : List ℕ) (u : Unit) (us : List Unit) where
  here : take u.length (drop at (bits_of bytes)) ≡ between bytes at (at + u.length)
  here = let width : u.length ≡ at + u.length - at = omega arith in
      ap (λ n. take n (drop at (bits_of bytes))) width

  place : first + at + u.length ≡ first + (at + u.length)
  place = omega arith

  behind : drop u.length (drop at (bits_of bytes)) ≡ drop (at + u.length) (bits_of bytes)
  behind = drop-drop u.length at (bits_of bytes)

  pub first_bad : (fault : StreamFault) → unit_at st (first + (at + u.length)) u
      (between bytes at (at + u.length)) ≡ Err fault → main_units_at st (first + at) (u ∷ us)
      (drop at (bits_of bytes)) ≡ Err fault
  unfolding main_units_at
  first_bad fault e = bind_bad (unit_at st (first + at + u.length) u
      (take u.length (drop at (bits_of bytes)))) _ fault
      (ap (λ n. unit_at st n u (take u.length (drop at (bits_of bytes)))) place
      ∙ (ap (unit_at st (first + (at + u.length)) u) here ∙ e))

  pub first_read : (v : Unit) (said : Result (List Unit) StreamFault)
      → unit_at st (first + (at + u.length)) u (between bytes at (at + u.length)) ≡ Ok v
      → main_units_at st (first + (at + u.length)) us (drop (at + u.length) (bits_of bytes)) ≡ said
      → main_units_at st (first + at) (u ∷ us) (drop at (bits_of bytes))
      ≡ (said >>= λ others. Ok (v ∷ others))
  unfolding main_units_at
  first_read v said e more =
      let next : main_units_at st (first + at + u.length) us
      (drop u.length (drop at (bits_of bytes))) ≡ said =
      ap (λ n. main_units_at st n us (drop u.length (drop at (bits_of bytes)))) place
      ∙ (ap (main_units_at st (first + (at + u.length)) us) behind ∙ more) in
      bind_again (unit_at st (first + at + u.length) u (take u.length (drop at (bits_of bytes)))) _
      v (said >>= λ others. Ok (v ∷ others))
      (ap (λ n. unit_at st n u (take u.length (drop at (bits_of bytes)))) place
      ∙ (ap (unit_at st (first + (at + u.length)) u) here ∙ e))
      (ap (λ (r : Result (List Unit) StreamFault). r >>= λ others. Ok (v ∷ others)) next)

pub two_read : (st : Settings) (first at : ℕ) (bytes : List ℕ) (u w u' w' : Unit)
    → unit_at st (first + (at + u.length)) u (between bytes at (at + u.length)) ≡ Ok u'
    → unit_at st (first + (at + u.length + w.length)) w (between bytes (at + u.length)
    (at + u.length + w.length)) ≡ Ok w'
    → main_units_at st (first + at) (u ∷ w ∷ []) (drop at (bits_of bytes)) ≡ Ok (u' ∷ w' ∷ [])
unfolding ◌>>=◌ main_units_at
two_read st first at bytes u w u' w' e h =
    first_read st first at bytes u (w ∷ []) u' (Ok (w' ∷ [])) e
    (first_read st first (at + u.length) bytes w [] w' (Ok []) h refl)

pub second_bad : (st : Settings) (first at : ℕ) (bytes : List ℕ) (u w u' : Unit)
    (fault : StreamFault) → unit_at st (first + (at + u.length)) u
    (between bytes at (at + u.length)) ≡ Ok u'
    → unit_at st (first + (at + u.length + w.length)) w (between bytes (at + u.length)
    (at + u.length + w.length)) ≡ Err fault
    → main_units_at st (first + at) (u ∷ w ∷ []) (drop at (bits_of bytes)) ≡ Err fault
unfolding ◌>>=◌
second_bad st first at bytes u w u' fault e h =
    first_read st first at bytes u (w ∷ []) u' (Err fault) e
    (first_bad st first (at + u.length) bytes w [] fault h)

-- ---- four units, two by two

bad_part : {A B : Type 0} (r : Result A StreamFault) (f : A → B) (fault : StreamFault)
    → (r >>= λ x. Ok (f x)) ≡ Err fault → r ≡ Err fault
unfolding ◌>>=◌
bad_part (Ok x) f fault e = absurd cc
bad_part (Err d) f fault e = let same : d ≡ fault = cc in ap (λ z. Err z) same

module _ (st : Settings) (vs : List Unit) where
  pub both_read : (t : ℕ) (us : List Unit) (bits : List Bool) (xs ys : List Unit)
      → main_units_at st t us bits ≡ Ok xs → main_units_at st (t + lengths us) vs
      (drop (lengths us) bits) ≡ Ok ys
      → main_units_at st t (us ++ vs) bits ≡ Ok (xs ++ ys)
  unfolding main_units_at
  both_read t [] bits xs ys e h =
      let none : [] ≡ xs = ok_is [] xs e in
      let place : t + 0 ≡ t = omega arith in
      ap (λ n. main_units_at st n vs bits) (sym place)
      ∙ (h ∙ ap (λ (l : List Unit). Ok (l ++ ys)) none)
  both_read t (u ∷ us) bits xs ys e h =
      let a = bind_ok (unit_at st (t + u.length) u (take u.length bits)) (λ unit. main_units_at st
      (t + u.length) us (drop u.length bits) >>= λ others. Ok (unit ∷ others)) xs e in
      let b = bind_ok (main_units_at st (t + u.length) us (drop u.length bits))
      (λ others. Ok (a.0 ∷ others)) xs a.2 in
      let place : t + u.length + lengths us ≡ t + (u.length + lengths us) = omega arith in
      let later : main_units_at st (t + u.length + lengths us) vs
      (drop (lengths us) (drop u.length bits)) ≡ Ok ys =
      ap (λ n. main_units_at st n vs (drop (lengths us) (drop u.length bits))) place
      ∙ (ap (main_units_at st (t + (u.length + lengths us)) vs)
      (drop-drop (lengths us) u.length bits) ∙ h) in
      let more = both_read (t + u.length) us (drop u.length bits) b.0 ys b.1 later in
      bind_again (unit_at st (t + u.length) u (take u.length bits)) _ a.0 (Ok (xs ++ ys)) a.1
      (bind_again (main_units_at st (t + u.length) (us ++ vs) (drop u.length bits)) _ (b.0 ++ ys)
      (Ok (xs ++ ys)) more (ap (λ (l : List Unit). Ok (l ++ ys)) (ok_is (a.0 ∷ b.0) xs b.2)))

  pub later_bad : (t : ℕ) (us : List Unit) (bits : List Bool) (xs : List Unit) (fault : StreamFault)
      → main_units_at st t us bits ≡ Ok xs → main_units_at st (t + lengths us) vs
      (drop (lengths us) bits) ≡ Err fault
      → main_units_at st t (us ++ vs) bits ≡ Err fault
  unfolding main_units_at
  later_bad t [] bits xs fault e h =
      let place : t + 0 ≡ t = omega arith in
      ap (λ n. main_units_at st n vs bits) (sym place) ∙ h
  later_bad t (u ∷ us) bits xs fault e h =
      let a = bind_ok (unit_at st (t + u.length) u (take u.length bits)) (λ unit. main_units_at st
      (t + u.length) us (drop u.length bits) >>= λ others. Ok (unit ∷ others)) xs e in
      let b = bind_ok (main_units_at st (t + u.length) us (drop u.length bits))
      (λ others. Ok (a.0 ∷ others)) xs a.2 in
      let place : t + u.length + lengths us ≡ t + (u.length + lengths us) = omega arith in
      let later : main_units_at st (t + u.length + lengths us) vs
      (drop (lengths us) (drop u.length bits)) ≡ Err fault =
      ap (λ n. main_units_at st n vs (drop (lengths us) (drop u.length bits))) place
      ∙ (ap (main_units_at st (t + (u.length + lengths us)) vs)
      (drop-drop (lengths us) u.length bits) ∙ h) in
      let more = later_bad (t + u.length) us (drop u.length bits) b.0 fault b.1 later in
      bind_again (unit_at st (t + u.length) u (take u.length bits)) _ a.0 (Err fault) a.1
      (bind_bad (main_units_at st (t + u.length) (us ++ vs) (drop u.length bits)) _ fault more)

  unit_of : (t : ℕ) (u : Unit) (us : List Unit) (bits : List Bool) (fault : StreamFault)
      (r : Result Unit StreamFault) → unit_at st (t + u.length) u (take u.length bits) ≡ r
      → (main_units_at st (t + u.length) us (drop u.length bits) ≡ Err fault → main_units_at st
      (t + u.length) (us ++ vs) (drop u.length bits) ≡ Err fault)
      → (r >>= λ unit. main_units_at st (t + u.length) us (drop u.length bits) >>= λ others. Ok
      (unit ∷ others)) ≡ Err fault
      → (r >>= λ unit. main_units_at st (t + u.length) (us ++ vs) (drop u.length bits) >>= λ others.
      Ok (unit ∷ others)) ≡ Err fault
  unfolding ◌>>=◌
  unit_of t u us bits fault (Err d) is more e = e
  unit_of t u us bits fault (Ok v) is more e =
      bind_bad (main_units_at st (t + u.length) (us ++ vs) (drop u.length bits))
      (λ others. Ok (v ∷ others)) fault
      (more (bad_part (main_units_at st (t + u.length) us (drop u.length bits))
      (λ others. v ∷ others) fault e))

  pub earlier_bad : (t : ℕ) (us : List Unit) (bits : List Bool) (fault : StreamFault)
      → main_units_at st t us bits ≡ Err fault → main_units_at st t (us ++ vs) bits ≡ Err fault
  unfolding main_units_at
  earlier_bad t [] bits fault e = absurd cc
  earlier_bad t (u ∷ us) bits fault e =
      unit_of t u us bits fault (unit_at st (t + u.length) u (take u.length bits)) refl
      (earlier_bad (t + u.length) us (drop u.length bits) fault) e
