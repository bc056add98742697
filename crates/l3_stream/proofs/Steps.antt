-- Steps of a reading: what was read where nothing was wrong, and how a reading goes on.
use Rattle.std.proofs.Common.{◌≡◌, ℕ, zero, suc, ◌+◌, Bool, true, false, List, [], ◌∷◌, length, replicate, Option, Some, None, Result, Ok, Err, refl, ap}
use Rattle.std.specs.Prelude.{⊤}
use Rattle.l3_stream.specs.declared.fault.StreamFault.{StreamFault}
use Rattle.l3_stream.specs.Faults.{◌>>=◌, checked, or_fault, clear}

-- the value of a step that did not fail
pub bind_ok : {A B : Type 0} (r : Result A StreamFault) (f : A → Result B StreamFault) (y : B) → (r >>= f) ≡ Ok y → (x : A) × (r ≡ Ok x) × (f x ≡ Ok y)
unfolding ◌>>=◌
bind_ok (Ok x) f y e = (x, refl, e)
bind_ok (Err d) f y e = absurd cc

pub bind_again : {A B : Type 0} (r : Result A StreamFault) (f : A → Result B StreamFault) (x : A) (y : Result B StreamFault) → r ≡ Ok x → f x ≡ y → (r >>= f) ≡ y
unfolding ◌>>=◌
bind_again r f x y e h = rw e h

abbrev done : {A : Type 0} → A → Result A StreamFault
done x = Ok x

pub ok_is : {A : Type 0} (x y : A) → done x ≡ done y → x ≡ y
ok_is x y e = cc

pub checked_ok : (b : Bool) (d : StreamFault) (x : ⊤) → checked b d ≡ Ok x → b ≡ true
unfolding checked
checked_ok true d x e = refl
checked_ok false d x e = absurd cc

pub checked_again : (b : Bool) (d : StreamFault) → b ≡ true → checked b d ≡ Ok tt
unfolding checked
checked_again b d e = rw e refl

pub or_fault_ok : {A : Type 0} (d : StreamFault) (o : Option A) (x : A) → or_fault d o ≡ Ok x → o ≡ Some x
unfolding or_fault
or_fault_ok d None x e = absurd cc
or_fault_ok d (Some y) x e = ap (λ z. Some z) (ok_is y x e)

pub or_fault_again : {A : Type 0} (d : StreamFault) (o : Option A) (x : A) → o ≡ Some x → or_fault d o ≡ Ok x
unfolding or_fault
or_fault_again d o x e = rw e refl

pub clear_ok : (at : ℕ) (bits : List Bool) (x : ⊤) → clear at bits ≡ Ok x → bits ≡ replicate (length bits) false
unfolding clear
clear_ok at [] x e = refl
clear_ok at (false ∷ bits) x e = ap (λ l. false ∷ l) (clear_ok (at + 1) bits x e)
clear_ok at (true ∷ bits) x e = absurd cc

pub clear_again : (at n : ℕ) → clear at (replicate n false) ≡ Ok tt
unfolding clear
clear_again at zero = refl
clear_again at (suc n) = clear_again (at + 1) n
