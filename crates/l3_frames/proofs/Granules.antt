-- The units of a frame as its reader sets them, granule by granule.
use Rattle.std.proofs.Common.{◌≡◌, ℕ, ◌+◌, List, [], ◌∷◌, ◌++◌, length, drop, get_or, set, Result, Ok, Err, refl, sym, ap, subst, ◌∙◌, arith}
use Rattle.std.specs.List.{AllByRecursion}
use Rattle.std.proofs.lemmas.List.{drop-drop}
use Rattle.l3_bits.specs.Bits.{bits_of}
use Rattle.l3_huff.specs.Words.{between}
use Rattle.l3_base.specs.declared.settings.Settings.{Settings}
use Rattle.l3_base.specs.declared.rate.Channels.TheVariants.{Mono, Stereo}
use Rattle.l3_huff.specs.declared.quads.QuadTable.TheVariants.{A}
use Rattle.l3_stream.specs.declared.fault.StreamFault.{StreamFault}
use Rattle.l3_stream.specs.declared.unit.Unit.{Unit}
use Rattle.l3_stream.specs.Units.{HasFields, lengths}
use Rattle.l3_stream.specs.Frames.{blank, placed, units_of}
use Rattle.l3_stream.specs.UnitReading.{unit_at, main_units_at}
use Rattle.l3_stream.specs.FieldReading.{IsBare}
use Rattle.l3_frames.proofs.UnitSteps.{first_bad, two_read, second_bad, both_read, later_bad, earlier_bad}

module _ (st : Settings) (first : ℕ) (bytes : List ℕ) where
  -- a unit's reading from a bit on gave this
  abbrev pub IsUnit : ℕ → Unit → Result Unit StreamFault → Type 0
  IsUnit at u said = unit_at st (first + (at + u.length)) u (between bytes at (at + u.length))
      ≡ said

  -- the reading of units one after the other from a bit on gave this
  abbrev pub AreUnits : ℕ → List Unit → Result (List Unit) StreamFault → Type 0
  AreUnits at us said = main_units_at st (first + at) us (drop at (bits_of bytes)) ≡ said

  -- ---- a granule

  pub granule_first_bad : (at : ℕ) (g : List Unit) (d : Unit) (fault : StreamFault) → length g ≡ 2
      → IsUnit at (get_or g 0 d) (Err fault) → AreUnits at g (Err fault)
  granule_first_bad at [] d fault two e = absurd (omega arith)
  granule_first_bad at (u ∷ us) d fault two e = first_bad st first at bytes u us fault e

  pub granule_second_bad : (at next : ℕ) (g : List Unit) (d v : Unit) (fault : StreamFault)
      → length g ≡ 2 → next ≡ at + (get_or g 0 d).length → IsUnit at (get_or g 0 d) (Ok v)
      → IsUnit next (get_or (set g 0 v) 1 d) (Err fault) → AreUnits at g (Err fault)
  granule_second_bad at next [] d v fault two n e h = absurd (omega arith)
  granule_second_bad at next (u ∷ []) d v fault two n e h = absurd (omega arith)
  granule_second_bad at next (u ∷ w ∷ []) d v fault two n e h = second_bad st first at bytes u w v
      fault e (subst (λ k. IsUnit k w (Err fault)) n h)
  granule_second_bad at next (u ∷ w ∷ x ∷ us) d v fault two n e h = absurd (omega arith)

  pub granule_read : (at next : ℕ) (g : List Unit) (d v v' : Unit) → length g ≡ 2
      → next ≡ at + (get_or g 0 d).length → IsUnit at (get_or g 0 d) (Ok v)
      → IsUnit next (get_or (set g 0 v) 1 d) (Ok v') → AreUnits at g (Ok (set (set g 0 v) 1 v'))
  granule_read at next [] d v v' two n e h = absurd (omega arith)
  granule_read at next (u ∷ []) d v v' two n e h = absurd (omega arith)
  granule_read at next (u ∷ w ∷ []) d v v' two n e h = two_read st first at bytes u w v v' e
      (subst (λ k. IsUnit k w (Ok v')) n h)
  granule_read at next (u ∷ w ∷ x ∷ us) d v v' two n e h = absurd (omega arith)

  -- ---- two granules of two units

  next_place : (at next size : ℕ) (us : List Unit) (said : Result (List Unit) StreamFault)
      → next ≡ at + size → AreUnits next us said → main_units_at st (first + at + size) us
      (drop size (drop at (bits_of bytes))) ≡ said
  next_place at next size us said n h =
      let place : first + at + size ≡ first + next = omega arith in
      ap (λ k. main_units_at st k us (drop size (drop at (bits_of bytes)))) place
      ∙ (ap (main_units_at st (first + next) us) (drop-drop size at (bits_of bytes)
      ∙ ap (λ k. drop k (bits_of bytes)) (sym n)) ∙ h)

  pub granules_first_bad : (at : ℕ) (us vs : List Unit) (fault : StreamFault) → AreUnits at us
      (Err fault) → AreUnits at (us ++ vs) (Err fault)
  granules_first_bad at us vs fault e = earlier_bad st vs (first + at) us (drop at (bits_of bytes))
      fault e

  pub granules_second_bad : (at next : ℕ) (us vs xs : List Unit) (fault : StreamFault)
      → next ≡ at + lengths us → AreUnits at us (Ok xs) → AreUnits next vs (Err fault)
      → AreUnits at (us ++ vs) (Err fault)
  granules_second_bad at next us vs xs fault n e h = later_bad st vs (first + at) us
      (drop at (bits_of bytes)) xs fault e (next_place at next (lengths us) vs (Err fault) n h)

  pub granules_read : (at next : ℕ) (us vs xs ys : List Unit) → next ≡ at + lengths us
      → AreUnits at us (Ok xs) → AreUnits next vs (Ok ys) → AreUnits at (us ++ vs) (Ok (xs ++ ys))
  granules_read at next us vs xs ys n e h = both_read st vs (first + at) us
      (drop at (bits_of bytes)) xs ys e (next_place at next (lengths us) vs (Ok ys) n h)

-- ---- a frame in mono

-- the unit that an index out of range would give
abbrev pub nothing : Unit
nothing = record {
  length = 0;
  big = 0;
  quads = 0;
  gain = 0;
  region0 = 0;
  region1 = 0;
  tables = [];
  quad = A;
  lines = [];
}

-- what its reader does to the first and to the second granule
abbrev once : List (List Unit) → Unit → List (List Unit)
once g v = set g 0 (set (get_or g 0 []) 0 v)

abbrev twice : List (List Unit) → Unit → Unit → List (List Unit)
twice g v w = set (once g v) 1 (set (get_or (once g v) 1 []) 0 w)

pub record MonoSteps (st : Settings) (first : ℕ) (bytes : List ℕ) (at : ℕ) (d : Unit)
    (g : List (List Unit)) : Type 0 where
  pub fields1 : AllByRecursion HasFields (units_of Mono g) → HasFields (get_or (get_or g 0 []) 0 d)
  pub fields2 : (v : Unit) → AllByRecursion HasFields (units_of Mono g)
      → HasFields (get_or (get_or (once g v) 1 []) 0 d)
  pub bare1 : AllByRecursion IsBare (units_of Mono g) → IsBare (get_or (get_or g 0 []) 0 d)
  pub bare2 : (v : Unit) → AllByRecursion IsBare (units_of Mono g)
      → IsBare (get_or (get_or (once g v) 1 []) 0 d)
  pub sizes : (v : Unit) → lengths (units_of Mono g) ≡ (get_or (get_or g 0 []) 0 d).length +
      (get_or (get_or (once g v) 1 []) 0 d).length
  pub bad1 : (fault : StreamFault) → IsUnit st first bytes at (get_or (get_or g 0 []) 0 d)
      (Err fault) → AreUnits st first bytes at (units_of Mono g) (Err fault)
  pub bad2 : (next : ℕ) (v : Unit) (fault : StreamFault)
      → next ≡ at + (get_or (get_or g 0 []) 0 d).length → IsUnit st first bytes at
      (get_or (get_or g 0 []) 0 d) (Ok v)
      → IsUnit st first bytes next (get_or (get_or (once g v) 1 []) 0 d) (Err fault)
      → AreUnits st first bytes at (units_of Mono g) (Err fault)
  pub read : (next : ℕ) (v w : Unit) → next ≡ at + (get_or (get_or g 0 []) 0 d).length
      → IsUnit st first bytes at (get_or (get_or g 0 []) 0 d) (Ok v)
      → IsUnit st first bytes next (get_or (get_or (once g v) 1 []) 0 d) (Ok w)
      → AreUnits st first bytes at (units_of Mono g) (Ok (units_of Mono (twice g v w)))
  pub shape : (v w : Unit) → twice g v w ≡ placed Mono (units_of Mono (twice g v w))

mono_steps_of : (st : Settings) (first : ℕ) (bytes : List ℕ) (at : ℕ) (d a b : Unit)
    → MonoSteps st first bytes at d ((a ∷ blank ∷ []) ∷ (b ∷ blank ∷ []) ∷ [])
unfolding units_of placed
mono_steps_of st first bytes at d a b = record {
  fields1 = λ all. all.0;
  fields2 = λ v all. all.1.0;
  bare1 = λ all. all.0;
  bare2 = λ v all. all.1.0;
  sizes = λ v. omega arith;
  bad1 = λ fault e. granule_first_bad st first bytes at (a ∷ b ∷ []) d fault refl e;
  bad2 = λ next v fault n e h. granule_second_bad st first bytes at next (a ∷ b ∷ []) d v fault refl
      n e h;
  read = λ next v w n e h. granule_read st first bytes at next (a ∷ b ∷ []) d v w refl n e h;
  shape = λ v w. refl;
}

mono_from : (st : Settings) (first : ℕ) (bytes : List ℕ) (at : ℕ) (d : Unit) (g : List (List Unit))
    (us : List Unit) → g ≡ placed Mono us → length us ≡ 2 → MonoSteps st first bytes at d g
unfolding placed
mono_from st first bytes at d g [] shape two = absurd (omega arith)
mono_from st first bytes at d g (a ∷ []) shape two = absurd (omega arith)
mono_from st first bytes at d g (a ∷ b ∷ us) shape two = subst (MonoSteps st first bytes at d)
    (sym shape) (mono_steps_of st first bytes at d a b)

pub mono_steps : (st : Settings) (first : ℕ) (bytes : List ℕ) (at : ℕ) (d : Unit)
    (g : List (List Unit)) → g ≡ placed Mono (units_of Mono g) → length (units_of Mono g) ≡ 2
    → MonoSteps st first bytes at d g
mono_steps st first bytes at d g shape two = mono_from st first bytes at d g (units_of Mono g) shape
    two

-- ---- a frame in stereo

abbrev both : List (List Unit) → List Unit → List Unit → List (List Unit)
both g xs ys = set (set g 0 xs) 1 ys

pub record StereoSteps (st : Settings) (first : ℕ) (bytes : List ℕ) (at : ℕ)
    (g : List (List Unit)) : Type 0 where
  pub fields1 : AllByRecursion HasFields (units_of Stereo g) → AllByRecursion HasFields
      (get_or g 0 [])
  pub fields2 : (xs : List Unit) → AllByRecursion HasFields (units_of Stereo g)
      → AllByRecursion HasFields (get_or (set g 0 xs) 1 [])
  pub bare1 : AllByRecursion IsBare (units_of Stereo g) → AllByRecursion IsBare (get_or g 0 [])
  pub bare2 : (xs : List Unit) → AllByRecursion IsBare (units_of Stereo g) → AllByRecursion IsBare
      (get_or (set g 0 xs) 1 [])
  pub sizes : (xs : List Unit) → lengths (units_of Stereo g) ≡ lengths (get_or g 0 []) + lengths
      (get_or (set g 0 xs) 1 [])
  pub bad1 : (fault : StreamFault) → AreUnits st first bytes at (get_or g 0 []) (Err fault)
      → AreUnits st first bytes at (units_of Stereo g) (Err fault)
  pub bad2 : (next : ℕ) (xs : List Unit) (fault : StreamFault) → next ≡ at + lengths (get_or g 0 [])
      → AreUnits st first bytes at (get_or g 0 []) (Ok xs)
      → AreUnits st first bytes next (get_or (set g 0 xs) 1 []) (Err fault)
      → AreUnits st first bytes at (units_of Stereo g) (Err fault)
  pub read : (next : ℕ) (xs ys : List Unit) → length xs ≡ 2 → length ys ≡ 2 → next ≡ at + lengths
      (get_or g 0 []) → AreUnits st first bytes at (get_or g 0 []) (Ok xs)
      → AreUnits st first bytes next (get_or (set g 0 xs) 1 []) (Ok ys) → AreUnits st first bytes at
      (units_of Stereo g) (Ok (units_of Stereo (both g xs ys)))
  pub shape : (xs ys : List Unit) → length xs ≡ 2 → length ys ≡ 2 → both g xs ys ≡ placed Stereo
      (units_of Stereo (both g xs ys))

four_units : (xs ys : List Unit) → length xs ≡ 2 → length ys ≡ 2 → xs ++ ys ≡ units_of Stereo
    (xs ∷ ys ∷ [])
unfolding units_of
four_units (a ∷ b ∷ []) (c ∷ d ∷ []) two two' = refl
four_units (a ∷ b ∷ []) [] two two' = absurd (omega arith)
four_units (a ∷ b ∷ []) (c ∷ []) two two' = absurd (omega arith)
four_units (a ∷ b ∷ []) (c ∷ d ∷ e ∷ ys) two two' = absurd (omega arith)
four_units [] ys two two' = absurd (omega arith)
four_units (a ∷ []) ys two two' = absurd (omega arith)
four_units (a ∷ b ∷ c ∷ xs) ys two two' = absurd (omega arith)

four_placed : (xs ys : List Unit) → length xs ≡ 2 → length ys ≡ 2 → xs ∷ ys ∷ [] ≡ placed Stereo
    (units_of Stereo (xs ∷ ys ∷ []))
unfolding units_of placed
four_placed (a ∷ b ∷ []) (c ∷ d ∷ []) two two' = refl
four_placed (a ∷ b ∷ []) [] two two' = absurd (omega arith)
four_placed (a ∷ b ∷ []) (c ∷ []) two two' = absurd (omega arith)
four_placed (a ∷ b ∷ []) (c ∷ d ∷ e ∷ ys) two two' = absurd (omega arith)
four_placed [] ys two two' = absurd (omega arith)
four_placed (a ∷ []) ys two two' = absurd (omega arith)
four_placed (a ∷ b ∷ c ∷ xs) ys two two' = absurd (omega arith)

stereo_steps_of : (st : Settings) (first : ℕ) (bytes : List ℕ) (at : ℕ) (a b c d : Unit)
    → StereoSteps st first bytes at ((a ∷ b ∷ []) ∷ (c ∷ d ∷ []) ∷ [])
unfolding units_of
stereo_steps_of st first bytes at a b c d = record {
  fields1 = λ all. (all.0, (all.1.0, tt));
  fields2 = λ xs all. all.1.1;
  bare1 = λ all. (all.0, (all.1.0, tt));
  bare2 = λ xs all. all.1.1;
  sizes = λ xs. omega arith;
  bad1 = λ fault e. granules_first_bad st first bytes at (a ∷ b ∷ []) (c ∷ d ∷ []) fault e;
  bad2 = λ next xs fault n e h. granules_second_bad st first bytes at next (a ∷ b ∷ [])
      (c ∷ d ∷ []) xs fault n e h;
  read = λ next xs ys two two' n e h. granules_read st first bytes at next (a ∷ b ∷ [])
      (c ∷ d ∷ []) xs ys n e h ∙ ap (λ (l : List Unit). Ok l) (four_units xs ys two two');
  shape = λ xs ys two two'. four_placed xs ys two two';
}

stereo_from : (st : Settings) (first : ℕ) (bytes : List ℕ) (at : ℕ) (g : List (List Unit))
    (us : List Unit) → g ≡ placed Stereo us → length us ≡ 4 → StereoSteps st first bytes at g
unfolding placed
stereo_from st first bytes at g [] shape four = absurd (omega arith)
stereo_from st first bytes at g (a ∷ []) shape four = absurd (omega arith)
stereo_from st first bytes at g (a ∷ b ∷ []) shape four = absurd (omega arith)
stereo_from st first bytes at g (a ∷ b ∷ c ∷ []) shape four = absurd (omega arith)
stereo_from st first bytes at g (a ∷ b ∷ c ∷ d ∷ us) shape four = subst
    (StereoSteps st first bytes at) (sym shape) (stereo_steps_of st first bytes at a b c d)

pub stereo_steps : (st : Settings) (first : ℕ) (bytes : List ℕ) (at : ℕ) (g : List (List Unit))
    → g ≡ placed Stereo (units_of Stereo g) → length (units_of Stereo g) ≡ 4
    → StereoSteps st first bytes at g
stereo_steps st first bytes at g shape four = stereo_from st first bytes at g (units_of Stereo g)
    shape four
