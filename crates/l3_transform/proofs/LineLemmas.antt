-- A spectrum that is filled line by line.
use Rattle.std.proofs.Common.{◌≡◌, ℕ, ◌+◌, ◌<◌, List, length, get_or, ℤ, pos, sym, subst}
use Rattle.std.specs.Prelude.{slice_set}
use Rattle.l3_base.specs.Lists.{entry}
use Rattle.l3_base.proofs.ListLemmas.{filled_more}

-- one line more has what each line was to have
pub entry-set : (P : ℕ → ℤ → Type 0) (old new : List ℤ) (k : ℕ) (x : ℤ) →
    new ≡ slice_set old k x → k < length old →
    ((m : ℕ) → m < k → P m (entry old m)) → P k x → (m : ℕ) → m < k + 1 → P m (entry new m)
entry-set P old new k x is room before here m lt =
    let Q : List ℤ → Type 0 = λ xs. P m (get_or xs m (pos 0)) in
    subst Q (sym is) (filled_more P old k x (pos 0) room before here m lt)
