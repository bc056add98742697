use Rattle.std.proofs.Common.{◌≡◌, ◌+◌, ◌-◌, ◌*◌, ◌/◌, ◌<◌, ℕ, ◌++◌, ◌∷◌, [], take, set, length, Ok, arith, ap, ◌∙◌, w16, rules, FitsSigned}
use Rattle.std.proofs.lemmas.Int.{to_z-of_z}
use Rattle.std.proofs.lemmas.List.{length-set, take_all}
use Rattle.l3_huff.specs.Words.{between}
use Rattle.l3_huff.proofs.Betweens.{length-between}
use Rattle.l3_stream.specs.UnitReading.{pairs_at}
use Rattle.l3_stream.specs.Units.{table_by}
use Rattle.l3_frames.proofs.Found.{pair_found, pair_not_found}
use Rattle.l3_frames.proofs.Loops.{begins_so, goes_on, ends, is_done, two_more, with_front}
use Rattle.l3_frames.proofs.quantised.read_pairs.Goals as goal

pub loop-k-init : goal.loop-k-init
loop-k-init c =
    let count = length c.args.lines.now / 2 in
    let all : count - 0 ≡ count = omega arith in
    let bits = between c.args.bytes.now c.args.at c.args.end in
    let table : ℕ → ℕ = table_by c.args.regions.now in
    let end = c.args.first + c.args.end in
    record {
      order = c.requires.order;
      size = search rules;
      read = begins_so (pairs_at table end 0 (count - 0) bits)
          ∙ ap (λ n. pairs_at table end 0 n bits) all;
    }

pub overflow_add-result : goal.overflow_add-result
overflow_add-result c = omega (arith, c.loop-k.invariant.order, c.requires.first, c.requires.within)

pub loop-k-preserved : goal.loop-k-preserved
loop-k-preserved c =
    let k = c.loop-k.k in
    let bytes = c.args.bytes.now in
    let table : ℕ → ℕ = table_by c.args.regions.now in
    let count = length c.args.lines.now / 2 in
    let end = c.args.first + c.args.end in
    let total = pairs_at table end 0 count (between bytes c.args.at c.args.end) in
    let x = c.in-Some.x in
    let y = c.in-Some.y in
    let fits_x : FitsSigned w16 x = search rules in
    let fits_y : FitsSigned w16 y = search rules in
    let lines = c.loop-k.lines in
    let stands = c.in-Some.ensures.found in
    let found = pair_found c.table.result bytes c.loop-k.place c.args.end x y c.in-Some.next stands
    in
    let after = between bytes c.in-Some.next c.args.end in
    let inside : 2 * k + 1 < length lines = omega (
      arith,
      c.loop-k.invariant.size,
      c.loop-k-test.true,
    ) in
    let lines_are = two_more lines k x y _ _ (to_z-of_z w16 x fits_x) (to_z-of_z w16 y fits_y)
    inside in
    let next_line : 2 * (k + 1) ≡ 2 * k + 2 = omega arith in
    record {
      order = stands.whole;
      size = length-set (set lines (2 * k) _) (2 * k + 1) _ ∙ (length-set lines (2 * k) _
          ∙ c.loop-k.invariant.size);
      read = ap (λ l. with_front l (pairs_at table end (2 * (k + 1)) (count - (k + 1)) after))
          lines_are
          ∙ (ap (λ n. with_front (take (2 * k) lines ++ x ∷ y ∷ [])
          (pairs_at table end n (count - (k + 1)) after)) next_line
          ∙ goes_on table (take (2 * k) lines) end (2 * k) count k
          (between bytes c.loop-k.place c.args.end) after x y total (omega arith)
          (rw c.table.ensures.value at found) c.loop-k.invariant.read);
    }

pub returns-in-None-clause-value : goal.returns-in-None-clause-value
returns-in-None-clause-value c =
    let k = c.loop-k.k in
    let bytes = c.args.bytes.now in
    let table : ℕ → ℕ = table_by c.args.regions.now in
    let count = length c.args.lines.now / 2 in
    let end = c.args.first + c.args.end in
    let total = pairs_at table end 0 count (between bytes c.args.at c.args.end) in
    let none = pair_not_found c.table.result bytes c.loop-k.place c.args.end c.table.ensures.table
    c.loop-k.invariant.order c.requires.within c.in-None.ensures.none in
    ends table (take (2 * k) c.loop-k.lines) end (2 * k) count k (c.args.first + c.loop-k.place)
    (between bytes c.loop-k.place c.args.end) total (omega arith)
    (omega (
      arith,
      c.loop-k.invariant.order,
      length-between bytes c.loop-k.place c.args.end
          c.loop-k.invariant.order c.requires.within,
    )) (rw c.table.ensures.value at none)
    c.loop-k.invariant.read

pub returns-clause-value : goal.returns-clause-value
returns-clause-value c =
    let k = c.loop-k.k in
    let bytes = c.args.bytes.now in
    let table : ℕ → ℕ = table_by c.args.regions.now in
    let count = length c.args.lines.now / 2 in
    let end = c.args.first + c.args.end in
    let total = pairs_at table end 0 count (between bytes c.args.at c.args.end) in
    let full : take (2 * k) c.loop-k.lines ≡ c.loop-k.lines = take_all (2 * k) c.loop-k.lines
    (omega (arith, c.loop-k.invariant.size, c.requires.even, c.loop-k-test.false)) in
    is_done table (take (2 * k) c.loop-k.lines) end (2 * k) count k
    (between bytes c.loop-k.place c.args.end) total (omega arith) c.loop-k.invariant.read
    ∙ ap (λ l. Ok (l, between bytes c.loop-k.place c.args.end)) full
