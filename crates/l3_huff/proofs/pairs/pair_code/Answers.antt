use Rattle.std.proofs.Common.{◌≡◌, ◌++◌, ap, sym, ◌∙◌, min, length, unsigned_abs, to_z, of_z, w16, rules, FitsSigned, append_assoc}
use Rattle.std.proofs.lemmas.Int.{to_z-of_z}
use Rattle.l3_bits.specs.Bits.{digits}
use Rattle.l3_bits.proofs.Places.{length-digits}
use Rattle.l3_huff.specs.Tables.{table_code}
use Rattle.l3_huff.specs.Codes.{pair_code_of, tail_code}
use Rattle.l3_huff.proofs.Tails.{row-lt}
use Rattle.l3_huff.proofs.pairs.pair_code.Goals as goal

pub entry_code-code-requires-clause-row : goal.entry_code-code-requires-clause-row
entry_code-code-requires-clause-row c =
    let same : c.unsigned_abs.result ≡ unsigned_abs c.args.x = c.unsigned_abs.ensures.value ∙ ap unsigned_abs (to_z-of_z w16 c.args.x (let fits : FitsSigned w16 c.args.x = search rules in fits)) in
    rw (c.min-row.ensures, same) (row-lt c.args.table (unsigned_abs c.args.x) c.requires.holds_x)

pub entry_code-code-requires-clause-column : goal.entry_code-code-requires-clause-column
entry_code-code-requires-clause-column c =
    let same : c.unsigned_abs-2.result ≡ unsigned_abs c.args.y = c.unsigned_abs-2.ensures.value ∙ ap unsigned_abs (to_z-of_z w16 c.args.y (let fits : FitsSigned w16 c.args.y = search rules in fits)) in
    rw (c.min-column.ensures, same) (row-lt c.args.table (unsigned_abs c.args.y) c.requires.holds_y)

pub returns-clause-code : goal.returns-clause-code
unfolding pair_code_of
returns-clause-code c =
    let table = c.args.table in
    let x : c.unsigned_abs.result ≡ unsigned_abs c.args.x = c.unsigned_abs.ensures.value ∙ ap unsigned_abs (to_z-of_z w16 c.args.x (let fits : FitsSigned w16 c.args.x = search rules in fits)) in
    let y : c.unsigned_abs-2.result ≡ unsigned_abs c.args.y = c.unsigned_abs-2.ensures.value ∙ ap unsigned_abs (to_z-of_z w16 c.args.y (let fits : FitsSigned w16 c.args.y = search rules in fits)) in
    let row : c.min-row.result ≡ min (unsigned_abs c.args.x) 15 = c.min-row.ensures ∙ ap (λ n. min n 15) x in
    let column : c.min-column.result ≡ min (unsigned_abs c.args.y) 15 = c.min-column.ensures ∙ ap (λ n. min n 15) y in
    let code = table_code table (min (unsigned_abs c.args.x) 15) (min (unsigned_abs c.args.y) 15) in
    let entry = c.entry_code-code.ensures.code ∙ (ap (λ r. table_code table r c.min-column.result) row ∙ ap (table_code table (min (unsigned_abs c.args.x) 15)) column) in
    let own_x : to_z w16 (of_z w16 c.args.x) ≡ c.args.x = to_z-of_z w16 c.args.x (let fits : FitsSigned w16 c.args.x = search rules in fits) in
    let own_y : to_z w16 (of_z w16 c.args.y) ≡ c.args.y = to_z-of_z w16 c.args.y (let fits : FitsSigned w16 c.args.y = search rules in fits) in
    let first = c.with_tail.ensures.code ∙ (ap (λ x. digits c.entry_code-code.result.length c.entry_code-code.result.value ++ tail_code table x) own_x ∙ ap (λ l. l ++ tail_code table c.args.x) entry) in
    c.with_tail-2.ensures.code
    ∙ (ap (λ y. digits c.with_tail.result.length c.with_tail.result.value ++ tail_code table y) own_y
    ∙ (ap (λ l. l ++ tail_code table c.args.y) first
    ∙ append_assoc code (tail_code table c.args.x) (tail_code table c.args.y)))

pub returns-clause-length : goal.returns-clause-length
returns-clause-length c = sym (length-digits c.with_tail-2.result.length c.with_tail-2.result.value) ∙ ap length (returns-clause-code c)
