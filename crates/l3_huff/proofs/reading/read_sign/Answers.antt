use Rattle.std.proofs.Common.{◌≡◌, ℕ, ℤ, true, false, ◌+◌, ◌<◌, ◌≤◌, ap, sym, ◌∙◌, arith, subst, rules, pos, to_z, of_z, w16, FitsSigned}
use Rattle.std.specs.Prelude.{◌-ℤ◌}
use Rattle.std.proofs.lemmas.Int.{to_z-of_z, to_z_pos}
use Rattle.l3_huff.specs.Reading.{sign_at}
use Rattle.l3_huff.specs.Words.{GoesOn}
use Rattle.l3_huff.proofs.SignReading.{bit_at, clear_bit, set_bit, sign-negative, sign-none, sign-positive, sign-zero, bits_ahead-bit}
use Rattle.l3_huff.proofs.reading.read_sign.Goals as goal

pub returns-then-value-eq0-clause-found : goal.returns-then-value-eq0-clause-found
returns-then-value-eq0-clause-found c = sign-zero c.args.value c.args.bytes.now c.args.at c.args.end c.if-value-eq0.true c.requires.order

pub returns-then-at-end-clause-none : goal.returns-then-at-end-clause-none
returns-then-at-end-clause-none c = sign-none c.args.value c.args.bytes.now c.args.at c.args.end c.if-value-eq0.false c.if-at-end.true

before : (at end : ℕ) → at ≤ end → (at ≡ end → ⊥) → at < end
before at end order other = omega (arith, other)

pub returns-then-bits_ahead-eq1-clause-found : goal.returns-then-bits_ahead-eq1-clause-found
returns-then-bits_ahead-eq1-clause-found c =
    let value = c.args.value in
    let bytes = c.args.bytes.now in
    let at = c.args.at in
    let end = c.args.end in
    let lt : at < end = before at end c.requires.order c.if-at-end.false in
    let plain : to_z w16 value ≡ pos value = to_z_pos w16 value c.requires.value in
    let fits : FitsSigned w16 (pos 0 -ℤ to_z w16 value) = search rules in
    let result-is : to_z w16 (of_z w16 (pos 0 -ℤ to_z w16 value)) ≡ pos 0 -ℤ pos value = to_z-of_z w16 (pos 0 -ℤ to_z w16 value) fits ∙ ap (λ z. pos 0 -ℤ z) plain in
    let bit : bit_at bytes at ≡ true = set_bit (bit_at bytes at) (sym (bits_ahead-bit bytes at end lt c.requires.within) ∙ (sym c.bits_ahead.ensures.value ∙ c.if-bits_ahead-eq1.true)) in
    let P : ℤ → Type 0 = λ z. GoesOn (sign_at value) bytes at end z (at + 1) in
    subst P (sym result-is) (sign-negative value bytes at end c.if-value-eq0.false lt c.requires.within bit)

pub returns-else-bits_ahead-eq1-clause-found : goal.returns-else-bits_ahead-eq1-clause-found
returns-else-bits_ahead-eq1-clause-found c =
    let value = c.args.value in
    let bytes = c.args.bytes.now in
    let at = c.args.at in
    let end = c.args.end in
    let lt : at < end = before at end c.requires.order c.if-at-end.false in
    let plain : to_z w16 value ≡ pos value = to_z_pos w16 value c.requires.value in
    let bit : bit_at bytes at ≡ false = clear_bit (bit_at bytes at) (λ one. c.if-bits_ahead-eq1.false (c.bits_ahead.ensures.value ∙ (bits_ahead-bit bytes at end lt c.requires.within ∙ one))) in
    let P : ℤ → Type 0 = λ z. GoesOn (sign_at value) bytes at end z (at + 1) in
    subst P (sym plain) (sign-positive value bytes at end c.if-value-eq0.false lt c.requires.within bit)
