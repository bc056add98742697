-- What the rule says of the board.
use Rattle.std.proofs.Common.{◌≡◌, ℕ, ◌+◌, ◌*◌, ◌%◌, ◌≤◌, ◌⊎◌, inl, inr, ⊎_elim, List, length, get_or, refl, sym, ap, ◌∙◌, subst, arith, Option, Some}
use mathlib.Core.Option.{some, some-injective}
use mathlib.Core.Option as maybe
use lib.ListN.{get_elem?}
use Rattle.l3_lanes.specs.declared.view.View.{View}
use Rattle.l3_lanes.specs.declared.view.Tell.{Tell}
use Rattle.l3_lanes.specs.Words.{Lane, empty, offered, claimed, ready, withdrawn, code, IsOwned, IsOffered}
use Rattle.l3_lanes.specs.Views.{known, words_at}
use Rattle.l3_lanes.specs.Rule.{Fits, free_empty, held_empty, told_offered, told_claimed, told_ready, told_claimed_claimed, told_claimed_ready, told_ready_ready, left_withdrawn, left_empty}
use Rattle.l3_lanes.specs.Laws.{IsOnBoard, DeskKnows, CellWords, OneClaim, LostByCounts, last_word, word_before}
use Rattle.l3_lanes.proofs.MoveLemmas.{is_there, word_is, is_desk}
use Rattle.l3_lanes.proofs.DepositLemmas.{owned_by}

module _ {T : Type 0} (number : T → ℕ) where
  -- what fits is on the board exactly where it is known
  known_on_board : (t : Tell) (x : Lane) (h : maybe.Option (Option T)) (i : ℕ) → Fits number t x h → known t ≡ Some i → IsOnBoard i (code x)
  known_on_board t x h i (free_empty full) e = absurd cc
  known_on_board t x h i held_empty e = absurd cc
  known_on_board t x h i (told_offered {i = j} n) e = let q : j ≡ i = cc in inl (omega arith)
  known_on_board t x h i (told_claimed {i = j}) e = let q : j ≡ i = cc in inr (inl (omega arith))
  known_on_board t x h i (told_ready {i = j} n) e = let q : j ≡ i = cc in inr (inr (omega arith))
  known_on_board t x h i (told_claimed_claimed {i = j}) e = let q : j ≡ i = cc in inr (inl (omega arith))
  known_on_board t x h i (told_claimed_ready {i = j} n) e = let q : j ≡ i = cc in inr (inr (omega arith))
  known_on_board t x h i (told_ready_ready {i = j} n) e = let q : j ≡ i = cc in inr (inr (omega arith))
  known_on_board t x h i left_withdrawn e = absurd cc
  known_on_board t x h i (left_empty full) e = absurd cc

  -- a word on the board is no empty one and no withdrawn one, and of one granule
  on_board : (i word : ℕ) → IsOnBoard i word → (8 * i + 1 ≤ word) × (word ≤ 8 * i + 3)
  on_board i word on = ⊎_elim (λ e. (omega arith, omega arith)) (λ e. ⊎_elim (λ f. (omega arith, omega arith)) (λ f. (omega arith, omega arith)) e) on

  board_known : (t : Tell) (x : Lane) (h : maybe.Option (Option T)) (i : ℕ) → Fits number t x h → IsOnBoard i (code x) → known t ≡ Some i
  board_known t x h i fits on = go t x h fits (on_board i (code x) on)
    where
      go : (t : Tell) (x : Lane) (h : maybe.Option (Option T)) → Fits number t x h → (8 * i + 1 ≤ code x) × (code x ≤ 8 * i + 3) → known t ≡ Some i
      go t x h (free_empty full) b = let p = b.0 in absurd (omega arith)
      go t x h held_empty b = let p = b.0 in absurd (omega arith)
      go t x h (told_offered {i = j} n) b = let p = b.0 in let q = b.1 in let r : j ≡ i = omega arith in ap Some r
      go t x h (told_claimed {i = j}) b = let p = b.0 in let q = b.1 in let r : j ≡ i = omega arith in ap Some r
      go t x h (told_ready {i = j} n) b = let p = b.0 in let q = b.1 in let r : j ≡ i = omega arith in ap Some r
      go t x h (told_claimed_claimed {i = j}) b = let p = b.0 in let q = b.1 in let r : j ≡ i = omega arith in ap Some r
      go t x h (told_claimed_ready {i = j} n) b = let p = b.0 in let q = b.1 in let r : j ≡ i = omega arith in ap Some r
      go t x h (told_ready_ready {i = j} n) b = let p = b.0 in let q = b.1 in let r : j ≡ i = omega arith in ap Some r
      go t x h (left_withdrawn {i = j}) b = let p = b.0 in let q = b.1 in absurd (omega arith)
      go t x h (left_empty full) b = let p = b.0 in absurd (omega arith)

  pub desk_knows : DeskKnows number
  desk_knows s p desk cell granule h at is low knows i =
      let d = is_desk number h.4 p desk at is in
      let x = is_there h.0 cell (let m = h.4.as_many in omega arith) in
      let word = word_is number h.4 cell x.0 x.1 in
      let g = h.4.fits cell x.0 x.1 in
      let tell : get_elem? h.1.tells cell ≡ some knows.0 = subst (λ (v : View). get_elem? v.tells cell ≡ some knows.0) d.1 knows.1 in
      let same : g.0 ≡ knows.0 = some-injective g.0 knows.0 (sym g.2 ∙ tell) in
      let fits : Fits number knows.0 x.0 g.1 = subst (λ (z : Tell). Fits number z x.0 g.1) same g.4 in (
        (λ e. subst (λ (z : ℕ). IsOnBoard i z) (sym word) (known_on_board knows.0 x.0 g.1 i fits (knows.2 ∙ e))),
        (λ on. sym knows.2 ∙ board_known knows.0 x.0 g.1 i fits (subst (λ (z : ℕ). IsOnBoard i z) word on)),
      )

  words_of : (x : Lane) (cells cell : ℕ) → ((i : ℕ) → Rattle.l3_lanes.specs.Words.granule_of x ≡ Some i → i % cells ≡ cell)
      → (code x ≡ 0) ⊎ ((i : ℕ) × (i % cells ≡ cell) × (IsOnBoard i (code x) ⊎ (code x ≡ 8 * i + 4)))
  words_of empty cells cell p = inl refl
  words_of (offered i) cells cell p = inr (i, p i refl, inl (inl refl))
  words_of (claimed i q) cells cell p = inr (i, p i refl, inl (inr (inl refl)))
  words_of (ready i) cells cell p = inr (i, p i refl, inl (inr (inr refl)))
  words_of (withdrawn i q) cells cell p = inr (i, p i refl, inr refl)

  pub cell_words : CellWords number
  cell_words s cell h low =
      let x = is_there h.0 cell (let m = h.4.as_many in omega arith) in
      let word = word_is number h.4 cell x.0 x.1 in
      rw word (words_of x.0 (length s.homes) cell (h.4.placed cell x.0 x.1))

  pub one_claim : OneClaim number
  one_claim s p q v w cell i j h at other claim again =
      let a = h.4.claims p v cell i at claim in
      let b = h.4.claims q w cell j other again in
      let same : b.0 ≡ a.0 = some-injective b.0 a.0 (sym b.1 ∙ a.1) in
      let o = owned_by number a.0 p q i j a.2 (subst (λ (z : Lane). IsOwned z q j) same b.2) in
      let word = word_is number h.4 cell a.0 a.1 in
      (sym o.0, sym o.1, ⊎_elim (λ (e : a.0 ≡ claimed i p). inl (word ∙ ap code e)) (λ (e : a.0 ≡ withdrawn i p). inr (word ∙ ap code e)) a.2)

pub lost_by_counts : LostByCounts
lost_by_counts cell v w (n, inl e) =
    let noted = e.1 in
    let l : length (words_at w cell) ≡ length (words_at v cell) + 1 = ap (λ (z : List ℕ). length z) noted ∙ omega arith in
    let last : last_word w cell ≡ n = ap (λ (z : List ℕ). get_or z 0 0) noted in
    inl (omega arith, λ on. e.0 (subst (λ (z : ℕ). IsOffered z) last on))
lost_by_counts cell v w (n, inr e) =
    let noted = e.3 in
    let l : length (words_at w cell) ≡ length (words_at v cell) + 2 = ap (λ (z : List ℕ). length z) noted ∙ omega arith in
    let last : last_word w cell ≡ e.0 = ap (λ (z : List ℕ). get_or z 0 0) noted in
    let before : word_before w cell ≡ n = ap (λ (z : List ℕ). get_or z 1 0) noted in
    inr (omega arith, λ same. e.2 (sym last ∙ (same ∙ before)))
