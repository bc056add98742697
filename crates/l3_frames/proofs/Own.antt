-- Faults of a frame that has the right header and all its bytes.
use Rattle.std.proofs.Common.{◌≡◌, ℕ, zero, suc, ◌+◌, ◌-◌, ◌*◌, ◌/◌, leb, Bool, true, false, ◌&&◌, List, [], ◌∷◌, ◌++◌, length, take, drop, Option, Some, None, Result, Ok, Err, subst}
use Rattle.std.specs.Prelude.{IfErr}
use Rattle.l3_base.specs.declared.settings.Settings.{Settings}
use Rattle.l3_base.specs.Lengths.{slots_before, slot_bytes_of}
use Rattle.l3_huff.specs.declared.quads.QuadTable.{QuadTable}
use Rattle.l3_huff.specs.Reading.{pair_at, quad_at}
use Rattle.l3_stream.specs.declared.fault.StreamFault.{StreamFault}
use Rattle.l3_stream.specs.declared.fault.StreamFault.TheVariants as faults
use Rattle.l3_stream.specs.declared.unit.Unit.{Unit}
use Rattle.l3_stream.specs.Units.{table_at, lengths}
use Rattle.l3_stream.specs.Tape.{start_of}
use Rattle.l3_stream.specs.Faults.{◌>>=◌, checked, or_fault, clear}
use Rattle.l3_stream.specs.UnitReading.{pairs_at, quads_at, unit_at, main_units_at}
use Rattle.l3_stream.specs.Deviation.{Place, main_at}
use Rattle.l3_frames.specs.Steps.{IsWithin}

-- an answer whose fault, where it is one, is of this kind
abbrev pub IsOwn : {A : Type 0} → Result A StreamFault → Type 0
IsOwn r = IfErr r IsWithin

own_bind : {A B : Type 0} (r : Result A StreamFault) (f : A → Result B StreamFault) → IsOwn r
    → ((x : A) → IsOwn (f x)) → IsOwn (r >>= f)
unfolding ◌>>=◌
own_bind (Ok x) f own more = more x
own_bind (Err fault) f own more = own

own_checked : (b : Bool) (fault : StreamFault) → IsWithin fault → IsOwn (checked b fault)
unfolding checked
own_checked true fault own = tt
own_checked false fault own = own

own_option : {A : Type 0} (fault : StreamFault) (o : Option A) → IsWithin fault
    → IsOwn (or_fault fault o)
unfolding or_fault
own_option fault None own = own
own_option fault (Some x) own = tt

pub own_clear : (at : ℕ) (bits : List Bool) → IsOwn (clear at bits)
unfolding clear
own_clear at [] = tt
own_clear at (false ∷ bits) = own_clear (at + 1) bits
own_clear at (true ∷ bits) = tt

own_pairs : (table : ℕ → ℕ) (end line n : ℕ) (bits : List Bool)
    → IsOwn (pairs_at table end line n bits)
unfolding pairs_at
own_pairs table end line zero bits = tt
own_pairs table end line (suc n) bits =
    own_bind (or_fault (faults.BadCode (end - length bits)) (pair_at (table line) bits)) _
    (own_option _ _ tt)
    (λ pair. own_bind (pairs_at table end (line + 2) n pair.1) _
    (own_pairs table end (line + 2) n pair.1) (λ others. tt))

own_quads : (table : QuadTable) (end room : ℕ) (bits : List Bool)
    → IsOwn (quads_at table end room bits)
unfolding quads_at
own_quads table end zero [] = tt
own_quads table end (suc room) [] = tt
own_quads table end zero (b ∷ bits) = tt
own_quads table end (suc room) (b ∷ bits) =
    own_bind (or_fault (faults.BadCode (end - length (b ∷ bits))) (quad_at table (b ∷ bits))) _
    (own_option _ _ tt)
    (λ quad. own_bind (quads_at table end room quad.1) _ (own_quads table end room quad.1)
    (λ others. tt))

own_unit : (st : Settings) (end : ℕ) (u : Unit) (bits : List Bool) → IsOwn (unit_at st end u bits)
unfolding unit_at
own_unit st end u bits =
    own_bind (pairs_at (table_at st u) end 0 u.big bits) _
    (own_pairs (table_at st u) end 0 u.big bits)
    (λ pairs. own_bind (quads_at u.quad end ((576 - 2 * u.big) / 4) pairs.1) _
    (own_quads u.quad end ((576 - 2 * u.big) / 4) pairs.1) (λ quads. tt))

own_units : (st : Settings) (at : ℕ) (us : List Unit) (bits : List Bool)
    → IsOwn (main_units_at st at us bits)
unfolding main_units_at
own_units st at [] bits = tt
own_units st at (u ∷ us) bits =
    own_bind (unit_at st (at + u.length) u (take u.length bits)) _ (own_unit st (at + u.length) u
    (take u.length bits))
    (λ unit. own_bind (main_units_at st (at + u.length) us (drop u.length bits)) _
    (own_units st (at + u.length) us (drop u.length bits)) (λ others. tt))

pub own_main : (st : Settings) (p : Place) (side : ℕ × List Unit) (slot : List Bool)
    → IsOwn (main_at st p side slot)
unfolding main_at
own_main st p side slot =
    let start = start_of st p.number side.0 in
    own_bind (checked (leb side.0 (slots_before st p.number) && leb p.end start)
    (faults.BadBegin p.at)) _ (own_checked _ _ tt)
    (λ begun. own_bind (clear p.end (take (start - p.end) p.rest)) _ (own_clear _ _)
    (λ zeros. own_bind (checked (leb (lengths side.1) (8 * (side.0 + slot_bytes_of st p.number)))
    (faults.WrongLength start)) _ (own_checked _ _ tt)
    (λ sized. own_units st start side.1 (drop (start - p.end) (p.rest ++ slot)))))

pub own_fault : {A : Type 0} (r : Result A StreamFault) (fault : StreamFault) → IsOwn r
    → r ≡ Err fault → IsWithin fault
own_fault r fault own e = subst (λ x. IfErr x IsWithin) e own

pub within_not_read : (fault : StreamFault) → IsWithin fault → fault ≡ faults.Read → ⊥
within_not_read fault own e = subst IsWithin e own

pub within_not_memory : (fault : StreamFault) → IsWithin fault → fault ≡ faults.Memory → ⊥
within_not_memory fault own e = subst IsWithin e own
