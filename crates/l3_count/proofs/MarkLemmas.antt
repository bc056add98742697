-- Marks that are written band by band.
use Rattle.std.proofs.Common.{◌≡◌, ◌≢◌, ℕ, ◌+◌, ◌<◌, ◌≤◌, ◌-ℤ◌, List, ℤ, pos, length, get_or, set, arith, ap, sym, ◌∙◌, subst, refl, inl, inr, get_or-set_other, get_or-set_same}
use Rattle.std.proofs.lemmas.Bool.{cases_lt, cases_eq}
use Rattle.std.proofs.lemmas.Int.{ints}
use Rattle.l3_base.specs.Amp.{no_amp}
use Rattle.l3_base.specs.Bands.{edges_at, edge_at}
use Rattle.l3_base.proofs.Edges.{edge_order}
use Rattle.l3_quant.specs.Quantiser.{steps_of}
use Rattle.l3_quant.specs.Amplified.{band_of}
use Rattle.l3_quant.proofs.BandLemmas.{band_of-holds}
use Rattle.l3_count.specs.Planes.{key_at}
use Rattle.l3_count.specs.Rows.{line_at}
use Rattle.l3_count.specs.Marks.{AreKeys, AreMarks, IsMark, band_steps, line_steps}
use Rattle.l3_count.proofs.GainLemmas.{equal_steps, one_cell}

-- the mark of a key
abbrev pub mark_of : ℕ → ℤ
mark_of key = pos key -ℤ pos 129

-- one line more has its mark
pub line_marked : (from line at : ℕ) (mark : ℤ) (old : List ℤ) → length old ≡ 576 → at < 576 → line_at at ≡ line →
    ((cell : ℕ) → cell < 576 → from ≤ line_at cell → line_at cell < line → get_or old cell (pos 0) ≡ mark) →
    (cell : ℕ) → cell < 576 → from ≤ line_at cell → line_at cell < line + 1 → get_or (set old at mark) cell (pos 0) ≡ mark
line_marked from line at mark old long room is before cell small low high =
    elim (cases_eq cell at) [
      | inl same ↦ (let here : at < length old = omega (arith, long) in rw same (rw get_or-set_same refl))
      | inr other ↦
          (let ne : cell ≢ at = other in
          let apart : line_at cell ≢ line = λ same. other (one_cell cell at (same ∙ sym is)) in
          rw get_or-set_other (before cell small low (omega (arith, high, apart))))
    ]

-- and those before the first stay as they were
pub line_kept : (from line at : ℕ) (mark : ℤ) (first old : List ℤ) → from ≤ line → line_at at ≡ line →
    ((cell : ℕ) → cell < 576 → line_at cell < from → get_or old cell (pos 0) ≡ get_or first cell (pos 0)) →
    (cell : ℕ) → cell < 576 → line_at cell < from → get_or (set old at mark) cell (pos 0) ≡ get_or first cell (pos 0)
line_kept from line at mark first old order is before cell small low =
    let ne : cell ≢ at = λ same. absurd (omega (arith, low, order, is, ap line_at same)) in
    rw get_or-set_other (before cell small low)

-- so many bands have their marks
abbrev pub AreMarked : ℕ → List ℕ → ℕ → List ℤ → Type 0
AreMarked rate keys bands marks = (b cell : ℕ) → b < bands → cell < 576 → edge_at rate b ≤ line_at cell → line_at cell < edge_at rate (b + 1) →
    get_or marks cell (pos 0) ≡ mark_of (get_or keys b 0)

pub band_marked : (rate band : ℕ) (keys : List ℕ) (mark : ℤ) (old new : List ℤ) → rate < 3 → band < 22 → mark ≡ mark_of (get_or keys band 0) → AreMarked rate keys band old →
    ((cell : ℕ) → cell < 576 → edge_at rate band ≤ line_at cell → line_at cell < edge_at rate (band + 1) → get_or new cell (pos 0) ≡ mark) →
    ((cell : ℕ) → cell < 576 → line_at cell < edge_at rate band → get_or new cell (pos 0) ≡ get_or old cell (pos 0)) →
    AreMarked rate keys (band + 1) new
band_marked rate band keys mark old new small lt is before here same b cell below room from to =
    elim (cases_lt b band) [
      | inl early ↦
          same cell room (omega (arith, edge_order rate (b + 1) band small (omega arith) (omega arith), to)) ∙ before b cell early room from to
      | inr late ↦
          (let last : band ≡ b = omega arith in
          subst (λ (m : ℕ). edge_at rate m ≤ line_at cell → line_at cell < edge_at rate (m + 1) → get_or new cell (pos 0) ≡ mark_of (get_or keys m 0)) last (λ low high. here cell room low high ∙ is) from to)
    ]

-- all of them have
pub all_marked : (rate : ℕ) (amp : List ℕ) (gain : ℕ) (keys : List ℕ) (marks : List ℤ) (key : ℕ) (least : ℤ) → rate < 3 → AreKeys amp gain keys → AreMarked rate keys 22 marks →
    ((b : ℕ) → b < 22 → key ≤ get_or keys b 0) → least ≡ mark_of key → AreMarks (line_steps rate amp gain) marks least
all_marked rate amp gain keys marks key least small are marked lowest e = record {
  is = λ cell lt. at cell lt ∙ ap mark_of (are (band_of (edges_at rate) (line_at cell)) (band_of-holds rate (line_at cell) small (line_small cell lt)).band_lt);
  least_is = λ cell lt.
      let b = band_of (edges_at rate) (line_at cell) in
      let low = lowest b (band_of-holds rate (line_at cell) small (line_small cell lt)).band_lt in
      omega (arith, ints, at cell lt, low, e);
}
  where
    line_small : (cell : ℕ) → cell < 576 → line_at cell < 576
    line_small cell lt = omega arith

    at : (cell : ℕ) → cell < 576 → get_or marks cell (pos 0) ≡ mark_of (get_or keys (band_of (edges_at rate) (line_at cell)) 0)
    at cell lt =
        let is = band_of-holds rate (line_at cell) small (line_small cell lt) in
        marked (band_of (edges_at rate) (line_at cell)) cell is.band_lt lt is.from is.to

-- one mark for all where no band is amplified
pub equal_mark : (rate gain : ℕ) (amp : List ℕ) (key : ℕ) (mark : ℤ) → amp ≡ no_amp → key ≡ key_at (steps_of (pos gain)) → mark ≡ mark_of key → IsMark (line_steps rate amp gain) mark
equal_mark rate gain amp key mark none is e line =
    let b = band_of (edges_at rate) line in
    let steps : band_steps amp gain b ≡ steps_of (pos gain) = ap (λ a. band_steps a gain b) none ∙ equal_steps gain b in
    e ∙ ap mark_of (is ∙ ap key_at (sym steps))
