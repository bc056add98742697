-- Faults of a stream, and the steps of a reading that ends at the first of them.
use Rattle.std.specs.Prelude.{ℕ, ◌+◌, Bool, true, false, List, [], ◌∷◌, Option, Some, None, Result, Ok, Err, ⊤}
use Rattle.l3_stream.specs.declared.fault.StreamFault.{StreamFault}
use Rattle.l3_stream.specs.declared.fault.StreamFault.TheVariants as faults

-- the number of a fault, in the order in which the rules of reading name them
abbrev pub fault_number : StreamFault → ℕ
fault_number (faults.BadHeader at) = 1
fault_number (faults.ShortFrame at) = 2
fault_number (faults.BadSide at) = 3
fault_number (faults.BadBegin at) = 4
fault_number (faults.BadCode bit) = 5
fault_number (faults.WrongLength bit) = 6
fault_number (faults.NotZero bit) = 7
fault_number faults.Read = 8
fault_number faults.Memory = 9
fault_number (faults.TooLong at) = 10

infixl 10 ◌>>=◌
-- to go on with what was read, where nothing was wrong
unfoldable pub ◌>>=◌ : {A B : Type 0} → Result A StreamFault → (A → Result B StreamFault) → Result B StreamFault
(Ok x) >>= f = f x
(Err fault) >>= f = Err fault

-- the fault, where a test does not hold
unfoldable pub checked : Bool → StreamFault → Result ⊤ StreamFault
checked true fault = Ok tt
checked false fault = Err fault

-- the fault, where nothing was found
unfoldable pub or_fault : {A : Type 0} → StreamFault → Option A → Result A StreamFault
or_fault fault None = Err fault
or_fault fault (Some x) = Ok x

-- the fault at the first bit that is not 0, where bits begin at this bit of the tape
unfoldable pub clear : ℕ → List Bool → Result ⊤ StreamFault
clear at [] = Ok tt
clear at (false ∷ bits) = clear (at + 1) bits
clear at (true ∷ bits) = Err (faults.NotZero at)
