-- What the steps of reading a head give.
use Rattle.std.specs.Prelude.{◌≡◌, ℕ, ◌-◌, ◌<◌, ◌≤◌, ◌⊎◌, List, [], Option, Some, Result, Ok, Err, length, drop}
use Rattle.l3_wav.specs.declared.head.WavHead.{WavHead}
use Rattle.l3_wav.specs.declared.fault.WavFault.{WavFault}
use Rattle.l3_wav.specs.declared.fault.WavFault.TheVariants.{HeaderEnds, Read}
use Rattle.l3_wav.specs.Wav.{Said, HasLost}

-- so many bytes were there, and just these are gone
pub record HasPassed (count : ℕ) (bytes : List ℕ) (now : Option (List ℕ)) : Type 0 where
  pub there : count ≤ length bytes
  pub rest : now ≡ Some (drop count bytes)

-- fewer bytes were there, and all are gone; or a read failed, and of so many some are gone
abbrev pub EndsWithin : ℕ → WavFault → List ℕ → Option (List ℕ) → Type 0
EndsWithin count fault bytes now = ((fault ≡ Read) × HasLost count bytes now)
    ⊎ ((fault ≡ HeaderEnds) × (length bytes < count) × (now ≡ Some []))

-- a body of so many bytes was read, and this is said of it; or it ends early, or a read failed
-- (only the inside of this crate)
abbrev pub ReadsBody : {T : Type 0} → ℕ → List ℕ → Option (List ℕ) → Result T WavFault → Result T WavFault → Type 0
ReadsBody count bytes now (Ok known) said = HasPassed count bytes now × (said ≡ Ok known)
ReadsBody count bytes now (Err fault) said = (HasPassed count bytes now × (said ≡ Err fault)) ⊎ EndsWithin count fault bytes now

-- the answer and what is left are what was said of the file; or a read failed, and of what goes
-- before that some is gone (only the inside of this crate)
abbrev pub Opens : List ℕ → Result WavHead WavFault → Option (List ℕ) → Said → Type 0
Opens bytes result now said = ((result ≡ Err Read) × HasLost (length bytes - length said.left) bytes now)
    ⊎ ((said.answer ≡ result) × (now ≡ Some said.left))
