-- The item of the least number, from cell to cell.
use Rattle.std.proofs.Common.{◌≡◌, inl, inr, ◌≤◌, ◌<◌, ◌+◌, ℕ, zero, suc, true, false, if◌then◌else◌, nat_le, Option, Some, None, IfSome, IfNone, List, [], ◌∷◌, ◌++◌, length, take, slice_get, get_or, refl, ap, sym, ◌∙◌, arith}
use Rattle.std.proofs.lemmas.List.{append-nil, take_more}
use Rattle.std.proofs.Math.Seq.{take-length}
use Rattle.std.proofs.lemmas.Bool.Decides.{nat_tests, leb_tells}
use Rattle.std.proofs.lemmas.Grind.{flat_map-append}
use Rattle.std.specs.List.{flat_map}
use Rattle.l3_board.specs.declared.cell.Content.{Content}
use Rattle.l3_board.specs.declared.cell.Content.TheVariants.{Empty, Offered, Claimed, Ready, Withdrawn}
use Rattle.l3_board.specs.Items.{on_offer}
use Rattle.l3_board.specs.Replies.{lesser, least_item, IsLeastAt, FindsLeast}

-- an element of a list is one of the longer list
slice_get-front : {A : Type 0} (xs ys : List A) (i : ℕ) (x : A) → slice_get xs i ≡ Some x → slice_get (xs ++ ys) i ≡ Some x
slice_get-front [] ys i x e = absurd cc
slice_get-front (a ∷ xs) ys zero x e = e
slice_get-front (a ∷ xs) ys (suc i) x e = slice_get-front xs ys i x e

-- the element after those of a list
slice_get-seam : {A : Type 0} (xs : List A) (x : A) → slice_get (xs ++ x ∷ []) (length xs) ≡ Some x
slice_get-seam [] x = refl
slice_get-seam (a ∷ xs) x = slice_get-seam xs x

-- as many elements as there are
pub front_whole : {A : Type 0} (xs : List A) (at : ℕ) → at ≡ length xs → take at xs ≡ xs
front_whole xs at e = rw e (take-length xs)

-- one element more of a list
pub front_more : {A : Type 0} (xs : List A) (at : ℕ) (x : A) → at < length xs → x ≡ get_or xs at x → take (at + 1) xs ≡ take at xs ++ x ∷ []
front_more xs at x within is = take_more xs at x within ∙ ap (λ y. take at xs ++ y ∷ []) (sym is)

module _ {T : Type 0} (number : T → ℕ) where
  -- the item of the lesser number, the one before where they are equal
  abbrev later : Option T → T → T
  later None x = x
  later (Some y) x = if nat_le (number y) (number x) then y else x

  lesser-later_some : (a y x : T) → lesser number a (Some (later (Some y) x)) ≡ later (Some (lesser number a (Some y))) x
  lesser-later_some a y x =
      elim (leb_tells (number a) (number y)) [
        | inl p ↦ elim (leb_tells (number y) (number x)) [
          | inl q ↦ let r : nat_le (number a) (number x) ≡ true = grind (arith, nat_tests) in rw (p.0, q.0, p.0, r) refl
          | inr q ↦ rw (p.0, q.0) refl
        ]
        | inr p ↦ elim (leb_tells (number y) (number x)) [
          | inl q ↦ rw (p.0, q.0, p.0) refl
          | inr q ↦ let r : nat_le (number a) (number x) ≡ false = grind (arith, nat_tests) in rw (p.0, q.0, r) refl
        ]
      ]

  lesser-later : (a : T) (o : Option T) (x : T) → lesser number a (Some (later o x)) ≡ later (Some (lesser number a o)) x
  lesser-later a None x = refl
  lesser-later a (Some y) x = lesser-later_some a y x

  -- the least of items and one more
  least_item-append : (xs : List T) (x : T) → least_item number (xs ++ x ∷ []) ≡ Some (later (least_item number xs) x)
  least_item-append [] x = refl
  least_item-append (a ∷ xs) x = rw (least_item-append xs x) (ap (λ y. Some y) (lesser-later a (least_item number xs) x))

  on_offer-more : (cells : List (Content T)) (content : Content T) → flat_map on_offer (cells ++ content ∷ []) ≡ flat_map on_offer cells ++ on_offer content
  on_offer-more cells content = flat_map-append on_offer cells (content ∷ []) ∙ ap (λ xs. flat_map on_offer cells ++ xs) (append-nil (on_offer content))

  on_offer-none : (content : Content T) → ((x : T) → content ≡ Offered x → ⊥) → on_offer content ≡ []
  on_offer-none (Offered x) not = absurd (not x refl)
  on_offer-none (Empty x) not = refl
  on_offer-none (Claimed i) not = refl
  on_offer-none (Ready x) not = refl
  on_offer-none (Withdrawn i) not = refl

  none_more : (cells : List (Content T)) (content : Content T) → ((x : T) → content ≡ Offered x → ⊥) → flat_map on_offer (cells ++ content ∷ []) ≡ flat_map on_offer cells
  none_more cells content not = on_offer-more cells content ∙ ap (λ xs. flat_map on_offer cells ++ xs) (on_offer-none content not) ∙ append-nil (flat_map on_offer cells)

  -- a cell that is not on offer
  pub FindsLeast-skip : (cells : List (Content T)) (content : Content T) (least : Option (ℕ × ℕ)) → ((x : T) → content ≡ Offered x → ⊥) → FindsLeast number cells least → FindsLeast number (cells ++ content ∷ []) least
  FindsLeast-skip cells content None not least = ap (least_item number) (none_more cells content not) ∙ least
  FindsLeast-skip cells content (Some found) not least = (
    least.0,
    record {
      offered = slice_get-front cells (content ∷ []) found.0 (Offered least.0) least.1.offered;
      number_is = least.1.number_is;
      least = ap (least_item number) (none_more cells content not) ∙ least.1.least;
    },
  )

  offered_more : (cells : List (Content T)) (x : T) → least_item number (flat_map on_offer (cells ++ Offered x ∷ [])) ≡ Some (later (least_item number (flat_map on_offer cells)) x)
  offered_more cells x = ap (least_item number) (on_offer-more cells (Offered x)) ∙ least_item-append (flat_map on_offer cells) x

  -- an item on offer of no lesser number
  pub FindsLeast-keep : (cells : List (Content T)) (found : ℕ × ℕ) (x : T) → found.1 ≤ number x → FindsLeast number cells (Some found) → FindsLeast number (cells ++ Offered x ∷ []) (Some found)
  FindsLeast-keep cells found x le least =
      let t : nat_le (number least.0) (number x) ≡ true = let e = least.1.number_is in grind (arith, nat_tests) in (
        least.0,
        record {
          offered = slice_get-front cells (Offered x ∷ []) found.0 (Offered least.0) least.1.offered;
          number_is = least.1.number_is;
          least = offered_more cells x ∙ rw (least.1.least, t) refl;
        },
      )

  -- an item on offer of a lesser number
  pub FindsLeast-new : (cells : List (Content T)) (least : Option (ℕ × ℕ)) (x : T) (i : ℕ) → i ≡ number x → ((found : ℕ × ℕ) → least ≡ Some found → i < found.1) → FindsLeast number cells least → FindsLeast number (cells ++ Offered x ∷ []) (Some (length cells, i))
  FindsLeast-new cells None x i is less least = (x, record { offered = slice_get-seam cells (Offered x); number_is = is; least = offered_more cells x ∙ rw least refl })
  FindsLeast-new cells (Some found) x i is less least =
      let t : nat_le (number least.0) (number x) ≡ false = let e = least.1.number_is in let l = less found refl in grind (arith, nat_tests) in
      (x, record { offered = slice_get-seam cells (Offered x); number_is = is; least = offered_more cells x ∙ rw (least.1.least, t) refl })

  pub IfSome-found : (cells : List (Content T)) (least : Option (ℕ × ℕ)) → FindsLeast number cells least → IfSome least (λ found. (x : T) × IsLeastAt number cells found.0 found.1 x)
  IfSome-found cells None least = tt
  IfSome-found cells (Some found) least = least

  pub IfNone-found : (cells : List (Content T)) (least : Option (ℕ × ℕ)) → FindsLeast number cells least → IfNone least (least_item number (flat_map on_offer cells) ≡ None)
  IfNone-found cells None least = least
  IfNone-found cells (Some found) least = tt

  lesser-le_first : (a : T) (o : Option T) → number (lesser number a o) ≤ number a
  lesser-le_first a None = omega arith
  lesser-le_first a (Some y) = elim (leb_tells (number a) (number y)) [ inl p ↦ rw p.0 (omega arith) | inr p ↦ rw p.0 (omega arith) ]

  lesser-le_second : (a y : T) → number (lesser number a (Some y)) ≤ number y
  lesser-le_second a y = elim (leb_tells (number a) (number y)) [ inl p ↦ rw p.0 p.1 | inr p ↦ rw p.0 (omega arith) ]

  least_item-none : (xs : List T) (k : ℕ) (y : T) → least_item number xs ≡ None → slice_get xs k ≡ Some y → ⊥
  least_item-none [] k y e at = cc
  least_item-none (a ∷ xs) k y e at = cc

  least_item-le_rest : (a : T) (xs : List T) (o : Option T) → least_item number xs ≡ o → (k : ℕ) (y : T) → slice_get xs k ≡ Some y → ((z : T) → least_item number xs ≡ Some z → number z ≤ number y) → number (lesser number a o) ≤ number y
  least_item-le_rest a xs None e k y at rest = absurd (least_item-none xs k y e at)
  least_item-le_rest a xs (Some z) e k y at rest = let l = rest z e in let m = lesser-le_second a z in omega arith

  -- the least item has no greater number than any
  least_item-le : (xs : List T) (x : T) (k : ℕ) (y : T) → least_item number xs ≡ Some x → slice_get xs k ≡ Some y → number x ≤ number y
  least_item-le [] x k y e at = absurd cc
  least_item-le (a ∷ xs) x zero y e at = let p : lesser number a (least_item number xs) ≡ x = cc in let q : a ≡ y = cc in rw (← p, ← q) (lesser-le_first a (least_item number xs))
  least_item-le (a ∷ xs) x (suc k) y e at =
      let p : lesser number a (least_item number xs) ≡ x = cc in
      rw (← p) (least_item-le_rest a xs (least_item number xs) refl k y at (λ z q. least_item-le xs z k y q at))

  -- a cell on offer has its item among those on offer
  offers_at : (cells : List (Content T)) (c : ℕ) (y : T) → slice_get cells c ≡ Some (Offered y) → (k : ℕ) × (slice_get (flat_map on_offer cells) k ≡ Some y)
  offers_at [] c y e = absurd cc
  offers_at (Offered z ∷ cells) zero y e = (0, let q : z ≡ y = cc in ap (λ t. Some t) q)
  offers_at (Offered z ∷ cells) (suc c) y e = let r = offers_at cells c y e in (suc r.0, r.1)
  offers_at (Empty z ∷ cells) zero y e = absurd cc
  offers_at (Empty z ∷ cells) (suc c) y e = offers_at cells c y e
  offers_at (Claimed i ∷ cells) zero y e = absurd cc
  offers_at (Claimed i ∷ cells) (suc c) y e = offers_at cells c y e
  offers_at (Ready z ∷ cells) zero y e = absurd cc
  offers_at (Ready z ∷ cells) (suc c) y e = offers_at cells c y e
  offers_at (Withdrawn i ∷ cells) zero y e = absurd cc
  offers_at (Withdrawn i ∷ cells) (suc c) y e = offers_at cells c y e

  -- where there is no least item, nothing is on offer
  pub nothing_offered : (cells : List (Content T)) → least_item number (flat_map on_offer cells) ≡ None → (c : ℕ) (y : T) → slice_get cells c ≡ Some (Offered y) → ⊥
  nothing_offered cells none c y e = let at = offers_at cells c y e in least_item-none (flat_map on_offer cells) at.0 y none at.1

  -- the least item on offer is one
  pub least_on_offer : (cells : List (Content T)) (x : T) → least_item number (flat_map on_offer cells) ≡ Some x → (c : ℕ) (y : T) → slice_get cells c ≡ Some (Offered y) → number x ≤ number y
  least_on_offer cells x least c y e = let at = offers_at cells c y e in least_item-le (flat_map on_offer cells) x at.0 y least at.1

  least_item-in_rest : (a : T) (xs : List T) (o : Option T) → ((z : T) → o ≡ Some z → (k : ℕ) × (slice_get xs k ≡ Some z)) → (k : ℕ) × (slice_get (a ∷ xs) k ≡ Some (lesser number a o))
  least_item-in_rest a xs None rest = (0, refl)
  least_item-in_rest a xs (Some z) rest =
      let r = rest z refl in
      elim (leb_tells (number a) (number z)) [ inl p ↦ (0, rw p.0 refl) | inr p ↦ (suc r.0, rw p.0 r.1) ]

  least_item-in : (xs : List T) (x : T) → least_item number xs ≡ Some x → (k : ℕ) × (slice_get xs k ≡ Some x)
  least_item-in [] x e = absurd cc
  least_item-in (a ∷ xs) x e = let r = least_item-in_rest a xs (least_item number xs) (λ z q. least_item-in xs z q) in (r.0, r.1 ∙ e)

  cell_before : (content : Content T) (cells : List (Content T)) (k : ℕ) (y : T) → ((j : ℕ) → slice_get (flat_map on_offer cells) j ≡ Some y → (c : ℕ) × (slice_get cells c ≡ Some (Offered y))) → slice_get (flat_map on_offer (content ∷ cells)) k ≡ Some y → (c : ℕ) × (slice_get (content ∷ cells) c ≡ Some (Offered y))
  cell_before (Offered z) cells zero y rest e = (0, let q : z ≡ y = cc in ap (λ t. Some (Offered t)) q)
  cell_before (Offered z) cells (suc k) y rest e = let r = rest k e in (suc r.0, r.1)
  cell_before (Empty z) cells k y rest e = let r = rest k e in (suc r.0, r.1)
  cell_before (Claimed i) cells k y rest e = let r = rest k e in (suc r.0, r.1)
  cell_before (Ready z) cells k y rest e = let r = rest k e in (suc r.0, r.1)
  cell_before (Withdrawn i) cells k y rest e = let r = rest k e in (suc r.0, r.1)

  cell_at : (cells : List (Content T)) (k : ℕ) (y : T) → slice_get (flat_map on_offer cells) k ≡ Some y → (c : ℕ) × (slice_get cells c ≡ Some (Offered y))
  cell_at [] k y e = absurd cc
  cell_at (content ∷ cells) k y e = cell_before content cells k y (λ j q. cell_at cells j y q) e

  -- the cell of the least item on offer
  pub least_cell : (cells : List (Content T)) (x : T) → least_item number (flat_map on_offer cells) ≡ Some x → (c : ℕ) × (slice_get cells c ≡ Some (Offered x))
  least_cell cells x least = let at = least_item-in (flat_map on_offer cells) x least in cell_at cells at.0 x at.1
