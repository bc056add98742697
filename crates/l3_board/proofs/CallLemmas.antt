-- What the code of a call reads of a board and leaves on it, and the step that this is.
use Rattle.std.proofs.Common.{◌≡◌, ◌⊎◌, inl, inr, ◌<◌, ◌≤◌, ◌%◌, ℕ, Bool, true, false, Some, List, [], ◌∷◌, length, set, get_or, refl, ap, sym, ◌∙◌, subst, arith}
use Rattle.std.proofs.lemmas.Option.{slice_get_read}
use Rattle.std.specs.Option.{option_map}
use Rattle.l3_board.specs.declared.cell.Cell.{Cell}
use Rattle.l3_board.specs.declared.cell.Cell.TheVariants as state
use Rattle.l3_board.specs.declared.cell.Content.{Content}
use Rattle.l3_board.specs.declared.cell.Content.TheVariants.{Empty, Offered, Claimed, Ready, Withdrawn}
use Rattle.l3_board.specs.declared.event.Event.TheVariants as event
use Rattle.l3_board.specs.declared.event.Answer.TheVariants as answer
use Rattle.l3_board.specs.declared.event.Offer.TheVariants.{Placed, Busy}
use Rattle.l3_board.specs.declared.event.Deposit.TheVariants.{Kept, Late, Stray}
use Rattle.l3_board.specs.declared.event.Take.TheVariants.{Got, Revoked, InWork, NotOffered}
use Rattle.l3_board.specs.Machine.{BoardState, IsSound, StandsIn, Step, cell_of, with_cell, state_of, state_at}
use Rattle.l3_board.specs.Items.{items_of}
use Rattle.l3_board.proofs.CellLemmas.{IsSound-set}

module _ {T : Type 0} (number : T → ℕ) where
  -- the content is what stands at a place of the board's cells, the place of granule i
  pub record Reads (board : BoardState T) (cells : List (Content T)) (shut : Bool) (i at : ℕ) (content : Content T) : Type 0 where
    pub view : record { cells = cells; shut = shut } ≡ board
    pub sound : IsSound number record { cells = cells; shut = shut }
    pub place : at ≡ i % length cells
    pub content_is : content ≡ get_or cells at content

  -- what the place of a granule asks
  pub place_asked : (cells : List (Content T)) (shut : Bool) (len count : ℕ) → len ≡ count → count ≡ length cells → IsSound number record { cells = cells; shut = shut } → (0 < len) × (len ≤ 64)
  place_asked cells shut len count e ok sound = rw (e, ok) (sound.some, sound.limit)

  -- the place of a granule is one of the cells
  pub place_within : (cells : List (Content T)) (shut : Bool) (len count i at : ℕ) → len ≡ count → count ≡ length cells → at ≡ i % len → IsSound number record { cells = cells; shut = shut } → at < count
  place_within cells shut len count i at e ok place sound =
      let some : 0 < len = rw (e, ok) sound.some in
      let within : i % len < len = omega arith in
      rw place (subst (λ m. i % len < m) e within)

  -- what the code read, from what each of its calls promises
  pub reads : (board : BoardState T) (cells : List (Content T)) (shut : Bool) (i n len count at : ℕ) (content : Content T) → record { cells = cells; shut = shut } ≡ board → IsSound number record { cells = cells; shut = shut } → n ≡ i → len ≡ count → count ≡ length cells → at ≡ n % len → content ≡ get_or cells at content → Reads board cells shut i at content
  reads board cells shut i n len count at content view sound same e ok place is =
      record { view = view; sound = sound; place = place ∙ ap (λ m. m % len) same ∙ ap (λ m. i % m) (e ∙ ok); content_is = is }

  module _ {board : BoardState T} {cells : List (Content T)} {shut : Bool} {i at : ℕ} {content : Content T} (r : Reads board cells shut i at content) where
    -- what is read at the place stands in the granule's cell
    stands : (c : Content T) → c ≡ get_or cells at c → cell_of board i ≡ Some c
    stands c is =
        let within : at < length cells = place_within cells shut (length cells) (length cells) i at refl refl r.place r.sound in
        subst (λ (b : BoardState T). cell_of b i ≡ Some c) r.view (rw (← r.place) (slice_get_read cells (length cells) at c refl within is))

    -- so does the content
    there : cell_of board i ≡ Some content
    there = stands content r.content_is

    -- what is read there once more is the same
    pub same_again : (again : Content T) → again ≡ get_or cells at again → again ≡ content
    same_again again is = let e = stands again is in let f = there in cc

    -- what is left at the place is left in the granule's cell
    left_there : (new left : Content T) → new ≡ left → record { cells = set cells at new; shut = shut } ≡ with_cell board i left
    left_there new left e =
        subst (λ (b : BoardState T). record { cells = set cells at new; shut = shut } ≡ with_cell b i left) r.view (rw (e, r.place) refl)

    -- the board is shut where the code's flag is
    same_shut : board.shut ≡ shut
    same_shut = subst (λ (b : BoardState T). b.shut ≡ shut) r.view refl

    -- the item that an exchange hands out is the one that was there
    handed : (again old : Content T) (x y : T) → again ≡ get_or cells at again → content ≡ old → items_of old ≡ x ∷ [] → items_of again ≡ y ∷ [] → x ≡ y
    handed again old x y again_is is one item =
        let e : again ≡ old = same_again again again_is ∙ is in
        let f : x ∷ [] ≡ y ∷ [] = sym one ∙ ap items_of (sym e) ∙ item in
        cc

    -- an exchange finds an item there
    pub one_item : (again old : Content T) (x : T) → again ≡ get_or cells at again → content ≡ old → items_of old ≡ x ∷ [] → length (items_of again) ≡ 1
    one_item again old x again_is is one = ap (λ c. length (items_of c)) (same_again again again_is ∙ is) ∙ ap length one

    -- the board stays sound with what may stand there
    pub sound_after : (new left : Content T) → new ≡ left → StandsIn number (length cells) at left → IsSound number record { cells = set cells at new; shut = shut }
    sound_after new left e here = IsSound-set number cells shut shut at new r.sound (rw e here)

    -- the state of the granule's cell is that of the content
    state_there : (s : Cell) → state_at number board i ≡ Some s → state_of number content ≡ s
    state_there s q = let f : option_map (state_of number) (Some content) ≡ Some s = rw there at q in cc

  -- by its state a cell is empty, on offer, claimed, ready or withdrawn
  is_empty : (content : Content T) → state_of number content ≡ state.Empty → (x : T) × (content ≡ Empty x)
  is_empty (Empty x) e = (x, refl)
  is_empty (Offered x) e = absurd cc
  is_empty (Claimed j) e = absurd cc
  is_empty (Ready x) e = absurd cc
  is_empty (Withdrawn j) e = absurd cc

  is_offered : (content : Content T) (i : ℕ) → state_of number content ≡ state.Offered i → (x : T) × (content ≡ Offered x) × (number x ≡ i)
  is_offered (Empty x) i e = absurd cc
  is_offered (Offered x) i e = (x, refl, cc)
  is_offered (Claimed j) i e = absurd cc
  is_offered (Ready x) i e = absurd cc
  is_offered (Withdrawn j) i e = absurd cc

  is_claimed : (content : Content T) (i : ℕ) → state_of number content ≡ state.Claimed i → content ≡ Claimed i
  is_claimed (Empty x) i e = absurd cc
  is_claimed (Offered x) i e = absurd cc
  is_claimed (Claimed j) i e = cc
  is_claimed (Ready x) i e = absurd cc
  is_claimed (Withdrawn j) i e = absurd cc

  is_ready : (content : Content T) (i : ℕ) → state_of number content ≡ state.Ready i → (x : T) × (content ≡ Ready x) × (number x ≡ i)
  is_ready (Empty x) i e = absurd cc
  is_ready (Offered x) i e = absurd cc
  is_ready (Claimed j) i e = absurd cc
  is_ready (Ready x) i e = (x, refl, cc)
  is_ready (Withdrawn j) i e = absurd cc

  is_withdrawn : (content : Content T) (i : ℕ) → state_of number content ≡ state.Withdrawn i → content ≡ Withdrawn i
  is_withdrawn (Empty x) i e = absurd cc
  is_withdrawn (Offered x) i e = absurd cc
  is_withdrawn (Claimed j) i e = absurd cc
  is_withdrawn (Ready x) i e = absurd cc
  is_withdrawn (Withdrawn j) i e = cc

  module _ {board : BoardState T} {cells : List (Content T)} {shut : Bool} {at : ℕ} {content : Content T} where
    -- an item that takes the place of a spent one is put on offer
    pub placed_step : (x spent y : T) (again new : Content T) → Reads board cells shut (number x) at content → shut ≡ false → content ≡ Empty spent → again ≡ get_or cells at again → items_of again ≡ y ∷ [] → new ≡ Offered x →
        Step number board (event.Offer x) (answer.Offer (Placed y)) record { cells = set cells at new; shut = shut }
    placed_step x spent y again new r unshut is again_is item left =
        (same_shut r ∙ unshut, there r ∙ ap Some (is ∙ ap Empty (handed r again (Empty spent) spent y again_is is refl item)), left_there r new (Offered x) left)

    -- an item comes back where the board is shut or the cell holds no spent one
    pub busy_step : (x : T) → Reads board cells shut (number x) at content → (shut ≡ true) ⊎ ((y : T) → content ≡ Empty y → ⊥) →
        Step number board (event.Offer x) (answer.Offer (Busy x)) board
    busy_step x r (inl e) = (inl (same_shut r ∙ e), refl, refl)
    busy_step x r (inr n) = (inr (λ q. let t = is_empty content (state_there r state.Empty q) in n t.0 t.1), refl, refl)

    -- the item of a claimed granule is kept
    pub kept_step : (x : T) (granule n : ℕ) → Reads board cells shut (number x) at content → n ≡ number x → content ≡ Claimed granule → granule ≡ n →
        Step number board (event.Deposit x) (answer.Deposit Kept) record { cells = set cells at (Ready x); shut = shut }
    kept_step x granule n r same is e = (there r ∙ ap Some (is ∙ ap Claimed (e ∙ same)), left_there r (Ready x) (Ready x) refl)

    -- the item of a withdrawn granule is late
    pub late_step : (x : T) (granule n : ℕ) → Reads board cells shut (number x) at content → n ≡ number x → content ≡ Withdrawn granule → granule ≡ n →
        Step number board (event.Deposit x) (answer.Deposit Late) record { cells = set cells at (Empty x); shut = shut }
    late_step x granule n r same is e = (there r ∙ ap Some (is ∙ ap Withdrawn (e ∙ same)), left_there r (Empty x) (Empty x) refl)

    -- an item comes back where its granule is neither claimed nor withdrawn
    stray_step : (x : T) → Reads board cells shut (number x) at content → (content ≡ Claimed (number x) → ⊥) → (content ≡ Withdrawn (number x) → ⊥) →
        Step number board (event.Deposit x) (answer.Deposit (Stray x)) board
    stray_step x r claimed withdrawn =
        (λ q. claimed (is_claimed content (number x) (state_there r (state.Claimed (number x)) q)), λ q. withdrawn (is_withdrawn content (number x) (state_there r (state.Withdrawn (number x)) q)), refl, refl)

    -- an item is a stray one where another granule is claimed, another is withdrawn, or neither
    pub stray_claimed : (x : T) (granule n : ℕ) → Reads board cells shut (number x) at content → n ≡ number x → content ≡ Claimed granule → (granule ≡ n → ⊥) →
        Step number board (event.Deposit x) (answer.Deposit (Stray x)) board
    stray_claimed x granule n r same is other = stray_step x r (λ e. other (let f : Claimed granule ≡ Claimed (number x) = sym is ∙ e in cc)) (λ e. let f = sym is ∙ e in cc)

    pub stray_withdrawn : (x : T) (granule n : ℕ) → Reads board cells shut (number x) at content → n ≡ number x → content ≡ Withdrawn granule → (granule ≡ n → ⊥) →
        Step number board (event.Deposit x) (answer.Deposit (Stray x)) board
    stray_withdrawn x granule n r same is other = stray_step x r (λ e. let f = sym is ∙ e in cc) (λ e. other (let f : Withdrawn granule ≡ Withdrawn (number x) = sym is ∙ e in cc))

    pub stray_else : (x : T) → Reads board cells shut (number x) at content → ((j : ℕ) → content ≡ Claimed j → ⊥) → ((j : ℕ) → content ≡ Withdrawn j → ⊥) →
        Step number board (event.Deposit x) (answer.Deposit (Stray x)) board
    stray_else x r claimed withdrawn = stray_step x r (claimed (number x)) (withdrawn (number x))

  module _ {board : BoardState T} {cells : List (Content T)} {shut : Bool} {i at : ℕ} {content : Content T} where
    -- a granule that is ready goes out
    pub got_step : (spare x y : T) (n : ℕ) (again new : Content T) → Reads board cells shut i at content → content ≡ Ready x → n ≡ number x → n ≡ i → again ≡ get_or cells at again → items_of again ≡ y ∷ [] → new ≡ Empty spare →
        Step number board (event.Take i spare) (answer.Take (Got y)) record { cells = set cells at new; shut = shut }
    got_step spare x y n again new r is number_is same again_is item left =
        let e : x ≡ y = handed r again (Ready x) x y again_is is refl item in
        (there r ∙ ap Some (is ∙ ap Ready e), ap number (sym e) ∙ sym number_is ∙ same, left_there r new (Empty spare) left)

    -- a granule on offer goes out
    pub revoked_step : (spare x y : T) (n : ℕ) (again new : Content T) → Reads board cells shut i at content → content ≡ Offered x → n ≡ number x → n ≡ i → again ≡ get_or cells at again → items_of again ≡ y ∷ [] → new ≡ Empty spare →
        Step number board (event.Take i spare) (answer.Take (Revoked y)) record { cells = set cells at new; shut = shut }
    revoked_step spare x y n again new r is number_is same again_is item left =
        let e : x ≡ y = handed r again (Offered x) x y again_is is refl item in
        (there r ∙ ap Some (is ∙ ap Offered e), ap number (sym e) ∙ sym number_is ∙ same, left_there r new (Empty spare) left)

    -- a claimed granule is withdrawn
    pub in_work_step : (spare : T) (granule : ℕ) → Reads board cells shut i at content → content ≡ Claimed granule → granule ≡ i →
        Step number board (event.Take i spare) (answer.Take (InWork spare)) record { cells = set cells at (Withdrawn i); shut = shut }
    in_work_step spare granule r is same = (there r ∙ ap Some (is ∙ ap Claimed same), refl, left_there r (Withdrawn i) (Withdrawn i) refl)

    -- the spare comes back where the granule is not ready, not on offer and not claimed
    not_offered_step : (spare : T) → Reads board cells shut i at content → ((x : T) → content ≡ Ready x → number x ≡ i → ⊥) → ((x : T) → content ≡ Offered x → number x ≡ i → ⊥) → (content ≡ Claimed i → ⊥) →
        Step number board (event.Take i spare) (answer.Take (NotOffered spare)) board
    not_offered_step spare r ready offered claimed =
        (λ q. let t = is_ready content i (state_there r (state.Ready i) q) in ready t.0 t.1 t.2, λ q. let t = is_offered content i (state_there r (state.Offered i) q) in offered t.0 t.1 t.2, λ q. claimed (is_claimed content i (state_there r (state.Claimed i) q)), refl, refl)

    -- a granule is not there where another is ready, on offer or claimed, or none of these
    pub not_ready : (spare x : T) (n : ℕ) → Reads board cells shut i at content → content ≡ Ready x → n ≡ number x → (n ≡ i → ⊥) →
        Step number board (event.Take i spare) (answer.Take (NotOffered spare)) board
    not_ready spare x n r is number_is other =
        not_offered_step spare r (λ y e q. other (let f : Ready x ≡ Ready y = sym is ∙ e in cc)) (λ y e q. let f = sym is ∙ e in cc) (λ e. let f = sym is ∙ e in cc)

    pub not_offered : (spare x : T) (n : ℕ) → Reads board cells shut i at content → content ≡ Offered x → n ≡ number x → (n ≡ i → ⊥) →
        Step number board (event.Take i spare) (answer.Take (NotOffered spare)) board
    not_offered spare x n r is number_is other =
        not_offered_step spare r (λ y e q. let f = sym is ∙ e in cc) (λ y e q. other (let f : Offered x ≡ Offered y = sym is ∙ e in cc)) (λ e. let f = sym is ∙ e in cc)

    pub not_claimed : (spare : T) (granule : ℕ) → Reads board cells shut i at content → content ≡ Claimed granule → (granule ≡ i → ⊥) →
        Step number board (event.Take i spare) (answer.Take (NotOffered spare)) board
    not_claimed spare granule r is other =
        not_offered_step spare r (λ y e q. let f = sym is ∙ e in cc) (λ y e q. let f = sym is ∙ e in cc) (λ e. other (let f : Claimed granule ≡ Claimed i = sym is ∙ e in cc))

    pub not_there : (spare : T) → Reads board cells shut i at content → ((x : T) → content ≡ Ready x → ⊥) → ((x : T) → content ≡ Offered x → ⊥) → ((j : ℕ) → content ≡ Claimed j → ⊥) →
        Step number board (event.Take i spare) (answer.Take (NotOffered spare)) board
    not_there spare r ready offered claimed = not_offered_step spare r (λ x e q. ready x e) (λ x e q. offered x e) (claimed i)
