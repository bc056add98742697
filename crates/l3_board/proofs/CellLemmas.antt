-- What stays true of the cells of a board.
use Rattle.std.proofs.Common.{◌≡◌, ◌≤◌, ◌<◌, ◌⊎◌, inl, inr, ⊎_elim, ℕ, zero, suc, Bool, Some, List, [], ◌∷◌, length, map, set, slice_get, refl, subst, ap, arith, length-set}
use Rattle.std.proofs.lemmas.List.{length-map}
use Rattle.l3_board.specs.declared.cell.Content.{Content}
use Rattle.l3_board.specs.declared.cell.Content.TheVariants.{Empty}
use Rattle.l3_board.specs.Machine.{IsSound, StandsIn, fresh}

-- an element of a list in which one was set is that one, or was there before
at_set : {A : Type 0} (l : List A) (i j : ℕ) (a b : A) → slice_get (set l i a) j ≡ Some b → ((j ≡ i) × (a ≡ b)) ⊎ (slice_get l j ≡ Some b)
at_set [] i j a b e = inr e
at_set (x ∷ xs) zero zero a b e = inl (refl, cc)
at_set (x ∷ xs) zero (suc j) a b e = inr e
at_set (x ∷ xs) (suc i) zero a b e = inr e
at_set (x ∷ xs) (suc i) (suc j) a b e = ⊎_elim (λ t. inl (ap suc t.0, t.1)) inr (at_set xs i j a b e)

module _ {T : Type 0} (number : T → ℕ) where
  StandsIn-fresh : (n c : ℕ) (blanks : List T) (k : ℕ) (content : Content T) → slice_get (map Empty blanks) k ≡ Some content → StandsIn number n c content
  StandsIn-fresh n c [] k content e = absurd cc
  StandsIn-fresh n c (x ∷ xs) zero content e = let q : Empty x ≡ content = cc in subst (StandsIn number n c) q tt
  StandsIn-fresh n c (x ∷ xs) (suc k) content e = StandsIn-fresh n c xs k content e

  -- a fresh board is sound
  pub IsSound-fresh : (blanks : List T) → 0 < length blanks → length blanks ≤ 64 → IsSound number (fresh blanks)
  IsSound-fresh blanks some limit =
      let n : length (map (λ (x : T). Empty x) blanks) ≡ length blanks = simp length-map in
      record { some = omega arith; limit = omega arith; placed = λ c content e. StandsIn-fresh (length (map Empty blanks)) c blanks c content e }

  -- a board stays sound where one cell changes to what may stand in it
  pub IsSound-set : (cells : List (Content T)) (shut shut' : Bool) (c : ℕ) (new : Content T) → IsSound number record { cells = cells; shut = shut } → StandsIn number (length cells) c new → IsSound number record { cells = set cells c new; shut = shut' }
  IsSound-set cells shut shut' c new sound here =
      let n : length (set cells c new) ≡ length cells = simp length-set in
      record { some = rw n sound.some; limit = rw n sound.limit; placed = λ k content e. rw n (⊎_elim (λ t. rw t.0 (subst (StandsIn number (length cells) c) t.1 here)) (λ t. sound.placed k content t) (at_set cells c k new content e)) }
