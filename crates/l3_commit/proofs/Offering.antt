-- The loop that offers granules ahead.
use Rattle.std.proofs.Common.{◌≡◌, ◌≢◌, ◌∙◌, ◌⊎◌, sym, ap, subst, refl, inl, inr, ⊎_elim, ℕ, zero, suc, ◌+◌, ◌*◌, ◌%◌, ◌<◌, ◌≤◌, List, ◌∷◌, replicate, length, map, get_or, arith}
use Rattle.std.proofs.lemmas.Bool.{cases_lt, eq-eqb}
use Rattle.std.proofs.Math.ListN.{get_or-map}
use Rattle.std.specs.Prelude.{Option, Some, None}
use Rattle.l3_board.specs.declared.entry.Entry.{Entry}
use Rattle.l3_board.specs.declared.entry.Entry.TheVariants.{Free, Told, Busied, Left, Gone}
use Rattle.l3_board.specs.Desk.{DeskState, fresh_desk, entry_of, is_offered}
use Rattle.l3_board.specs.Offers.{OffersView, no_offers, told_of, placed_at, GoesWith, IsOfferedAnew, OthersStay}
use Rattle.l3_board.proofs.OfferLemmas.{same-cell}
use Rattle.l3_commit.specs.Ahead.{AreOffered, RestStays}

-- the granules below `at` were offered, and the entries of the others are as they were
pub record Offering (cells : ℕ) (old now : List Entry) (from at to : ℕ) : Type 0 where
  pub started : from ≤ at
  pub done : AreOffered cells old now from at
  pub others : (i : ℕ) → at ≤ i → i < to → entry_of cells now i ≡ entry_of cells old i
  pub rest : RestStays cells old now from to

pub offering-first : (cells : ℕ) (old : List Entry) (from to : ℕ) → Offering cells old old from from to
offering-first cells old from to = record {
  started = omega arith;
  done = λ i low high. absurd (omega arith);
  others = λ i low high. refl;
  rest = λ k other. refl;
}

told-entry : (i : ℕ) (e : Entry) → told_of e ≡ Some i → e ≡ Told i
told-entry i Free is = (let none : Option ℕ = None in let bad : none ≡ Some i = is in absurd (cc))
told-entry i (Told j) is = (let e : Some j ≡ Some i = is in ap Told (cc))
told-entry i (Busied j turn) is = (let none : Option ℕ = None in let bad : none ≡ Some i = is in absurd (cc))
told-entry i (Left j) is = (let none : Option ℕ = None in let bad : none ≡ Some i = is in absurd (cc))
told-entry i (Gone j) is = (let none : Option ℕ = None in let bad : none ≡ Some i = is in absurd (cc))

-- what is on offer is told
told-placed : (last : List Entry) (v : OffersView) (cells i : ℕ) → GoesWith last v → length v.placed ≡ cells → placed_at v.placed i ≡ Some i → entry_of cells last i ≡ Told i
told-placed last v cells i goes long there =
    told-entry i (entry_of cells last i)
    (sym (get_or-map told_of last (i % cells) Free) ∙ (ap (λ xs. get_or xs (i % cells) None) goes ∙ (ap (λ k. get_or v.placed (i % k) None) (sym long) ∙ there)))

offered-told : (cells : ℕ) (old now : List Entry) (i : ℕ) → entry_of cells now i ≡ Told i → IsOfferedAnew cells old now i
offered-told cells old now i told = record {
  offered = ap (is_offered i) told ∙ eq-eqb i i refl;
  anew = λ turn busy before. (let bad : Told i ≡ Busied i turn = sym told ∙ busy in absurd (cc));
}

more : (P : ℕ → Type 0) (from at : ℕ) → ((i : ℕ) → from ≤ i → i < at → P i) → P at → (i : ℕ) → from ≤ i → i < at + 1 → P i
more P from at before own i low high = ⊎_elim (λ less. before i low less) (λ le. (let e : at ≡ i = omega arith in subst P e own)) (cases_lt i at)

-- it was on offer
pub offering-kept : (cells : ℕ) (old now : List Entry) (v : OffersView) (from at to : ℕ) → Offering cells old now from at to → GoesWith now v → length v.placed ≡ cells → placed_at v.placed at ≡ Some at
    → Offering cells old now from (at + 1) to
offering-kept cells old now v from at to o goes long there = record {
  started = (let s = o.started in omega (arith, s));
  done = more (IsOfferedAnew cells old now) from at o.done (offered-told cells old now at (told-placed now v cells at goes long there));
  others = λ i low high. o.others i (omega arith) high;
  rest = o.rest;
}

-- it is offered
pub offering-more : (cells : ℕ) (old now after : List Entry) (from at to : ℕ) → Offering cells old now from at to → at < to → to ≤ from + cells
    → IsOfferedAnew cells now after at → OthersStay cells now after at → Offering cells old after from (at + 1) to
offering-more cells old now after from at to o below near is stay = record {
  started = omega (arith, s);
  done = more (IsOfferedAnew cells old after) from at (λ i low high. moved i low (omega arith) (o.done i low high) (λ e. omega (arith, e))) own;
  others = λ i low high. stay i (apart i (omega (arith, s)) high (λ e. omega (arith, e))) ∙ o.others i (omega arith) high;
  rest = λ k other. stay k (other at s below) ∙ o.rest k other;
}
  where
    s : from ≤ at
    s = o.started

    apart : (i : ℕ) → from ≤ i → i < to → i ≢ at → i % cells ≢ at % cells
    apart i low high not same = not (same-cell cells i at from same low (omega (arith, near)) s (omega (arith, near)))

    moved : (i : ℕ) → from ≤ i → i < to → IsOfferedAnew cells old now i → i ≢ at → IsOfferedAnew cells old after i
    moved i low high before not =
        let e = stay i (apart i low high not) in record {
          offered = ap (is_offered i) e ∙ before.offered;
          anew = λ turn busy. before.anew turn (sym e ∙ busy);
        }

    own : IsOfferedAnew cells old after at
    own =
        let e = o.others at (omega arith) below in record {
          offered = is.offered;
          anew = λ turn busy first. is.anew turn busy (e ∙ first);
        }

pub offering-all : (cells : ℕ) (old now : List Entry) (from at to : ℕ) → Offering cells old now from at to → to ≤ at → AreOffered cells old now from to
offering-all cells old now from at to o end i low high = o.done i low (omega (arith, end))

pub offered-there : (last : List Entry) (v : OffersView) (cells i : ℕ) → GoesWith last v → length v.placed ≡ cells → placed_at v.placed i ≡ Some i → IsOfferedAnew cells last last i
offered-there last v cells i goes long there = offered-told cells last last i (told-placed last v cells i goes long there)

none-told : (n : ℕ) → map told_of (replicate n Free) ≡ replicate n None
none-told zero = refl
none-told (suc n) = ap (λ xs. None ∷ xs) (none-told n)

-- a desk that begins goes with a committer that has offered nothing
pub goes-fresh : (n : ℕ) (desk : DeskState) (v : OffersView) → desk ≡ fresh_desk n → v ≡ no_offers n → GoesWith desk.last v
goes-fresh n desk v is fresh = ap (λ (d : DeskState). map told_of d.last) is ∙ (none-told n ∙ sym (ap (λ (o : OffersView). o.placed) fresh))

-- what one granule of the loop asks, in plain numbers: `at` is from `from` on and below `to`, which is
-- no farther than the cells
pub not-past : (limit at to : ℕ) → limit < at → at < to → to ≤ limit → ⊥
not-past limit at to past below most = omega arith

pub some-cells : (from at to cells : ℕ) → from ≤ at → at < to → to ≤ from + cells → 0 < cells
some-cells from at to cells low below most = omega arith

pub near-next : (next from at to placed cells granule : ℕ) → next ≡ from → from ≤ at → at < to → to ≤ from + cells → placed ≡ cells → granule ≡ at → (next ≤ granule) × (granule < next + placed)
near-next next from at to placed cells granule e low below most long same = (omega arith, omega arith)

pub kept-there : (base from at to cells ahead granule : ℕ) → base ≡ from → from ≤ at → at < to → to ≤ from + cells → cells ≤ ahead → granule ≡ at → (base ≤ granule) × (granule < base + ahead)
kept-there base from at to cells ahead granule e low below most few same = (omega arith, omega arith)

enough-read : (from at to cells ahead granule read : ℕ) → at < to → to ≤ from + cells → cells ≤ ahead → granule ≡ at → 576 * (from + ahead) ≤ read → 576 * (granule + 1) ≤ read
enough-read from at to cells ahead granule read below most few same enough = omega arith

pub read-there : (Ended : Type 0) (from at to cells ahead granule read : ℕ) → at < to → to ≤ from + cells → cells ≤ ahead → granule ≡ at → Ended ⊎ (576 * (from + ahead) ≤ read) → Ended ⊎ (576 * (granule + 1) ≤ read)
read-there Ended from at to cells ahead granule read below most few same (inl ended) = inl ended
read-there Ended from at to cells ahead granule read below most few same (inr enough) = inr (enough-read from at to cells ahead granule read below most few same enough)
