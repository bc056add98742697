-- What offers and takes do to the granules that a desk's record names.
use Rattle.std.proofs.Common.{◌≡◌, ◌∙◌, sym, ap, refl, ℕ, ◌%◌, ◌==◌, List, ◌∷◌, length, map, replicate, zero, suc, set, get_or, if◌then◌else◌}
use Rattle.std.proofs.Math.ListN.{get_or-map}
use Rattle.std.proofs.Math.Seq.{map-set_same}
use Rattle.std.proofs.lemmas.List.{map-set}
use Rattle.std.proofs.lemmas.Bool.{eq-eqb}
use Rattle.std.specs.Prelude.{Bool, true, false, Option, Some, None, is_some}
use Rattle.l3_board.specs.declared.event.Offer.TheVariants as offer
use Rattle.l3_board.specs.declared.event.Take.{Take}
use Rattle.l3_board.specs.declared.event.Take.TheVariants.{Got, Revoked, InWork, NotOffered}
use Rattle.l3_board.specs.declared.entry.Entry.{Entry}
use Rattle.l3_board.specs.declared.entry.Entry.TheVariants.{Free, Told, Busied, Left, Gone}
use Rattle.l3_board.specs.Desk.{entry_of, offer_entry, take_entry, taken_entry}
use Rattle.l3_board.specs.Offers.{OffersView, told_of, placed_at, AreAhead, IsNear}
use Rattle.l3_board.proofs.OfferLemmas.{own-or-none}

-- one entry is another now
pub goes-set : (last after : List Entry) (placed : List (Option ℕ)) (at place : ℕ) (e : Entry) (o : Option ℕ) → after ≡ set last at e → map told_of last ≡ placed → at ≡ place → told_of e ≡ o
    → map told_of after ≡ set placed place o
goes-set last after placed at place e o is goes same told =
    ap (map told_of) is ∙ (map-set told_of last at e ∙ (ap (λ xs. set xs at (told_of e)) goes ∙ (ap (λ k. set placed k (told_of e)) same ∙ ap (set placed place) told)))

-- a busy cell keeps what is told of it
told-busy : {T : Type 0} (i : ℕ) (x : T) (e : Entry) → told_of (offer_entry i (offer.Busy x) e) ≡ told_of e
told-busy i x Free = refl
told-busy i x (Told j) = refl
told-busy i x (Busied j turn) = refl
told-busy i x (Left j) = refl
told-busy i x (Gone j) = refl

pub goes-busy : {T : Type 0} (last after : List Entry) (at i : ℕ) (x : T) → after ≡ set last at (offer_entry i (offer.Busy x) (get_or last at Free)) → map told_of after ≡ map told_of last
goes-busy last after at i x is = ap (map told_of) is ∙ map-set_same told_of last at _ Free (told-busy i x (get_or last at Free))

told-taken : {T : Type 0} (i : ℕ) (answer : Take T) → told_of (taken_entry i answer) ≡ None
told-taken i (Got x) = refl
told-taken i (Revoked x) = refl
told-taken i (InWork x) = refl
told-taken i (NotOffered x) = refl

by-test : {T : Type 0} (i j : ℕ) (answer : Take T) (test : Bool) → test ≡ true → told_of (if test then taken_entry i answer else Told j) ≡ None
by-test i j answer true is = told-taken i answer
by-test i j answer false is = let bad : false ≡ true = is in cc

same-test : (i : ℕ) → (i == i) ≡ true
same-test i = eq-eqb i i refl

pub told-after : {T : Type 0} (i : ℕ) (answer : Take T) (e : Entry) → (is_some (told_of e) ≡ true → told_of e ≡ Some i) → told_of (take_entry i answer e) ≡ None
told-after i answer Free own = told-taken i answer
told-after i answer (Told j) own =
    let e : j ≡ i = (let p : Some j ≡ Some i = own refl in cc) in
    by-test i j answer (j == i) (ap (λ k. k == i) e ∙ same-test i)
told-after i answer (Busied j turn) own = told-taken i answer
told-after i answer (Left j) own = told-taken i answer
told-after i answer (Gone j) own = told-taken i answer

-- what stands in the next granule's cell is that granule
pub told-next : (last : List Entry) (v : OffersView) (cells i : ℕ) → AreAhead v → IsNear v i → map told_of last ≡ v.placed → length v.placed ≡ cells
    → is_some (told_of (entry_of cells last i)) ≡ true → told_of (entry_of cells last i) ≡ Some i
told-next last v cells i ahead near goes long some =
    let e : told_of (entry_of cells last i) ≡ placed_at v.placed i =
    sym (get_or-map told_of last (i % cells) Free) ∙ (ap (λ xs. get_or xs (i % cells) None) goes ∙ ap (λ k. get_or v.placed (i % k) None) (sym long)) in
    e ∙ own-or-none v i (placed_at v.placed i) ahead near refl (ap is_some (sym e) ∙ some)

-- at first nothing is on offer
pub none-told : (cells : ℕ) → map told_of (replicate cells Free) ≡ replicate cells None
none-told zero = refl
none-told (suc n) = ap (λ xs. None ∷ xs) (none-told n)
