use Rattle.std.proofs.Common.{◌≡◌, ◌/◌, ◌%◌, ◌∙◌, Bool, length, false, rules, sym}
use Rattle.std.specs.Prelude.{nat_eq}
use Rattle.l3_bits.specs.Bits.{bits_of}
use Rattle.l3_base.specs.declared.settings.Settings.{Settings}
use Rattle.l3_base.specs.Header.{header_bits}
use Rattle.l3_stream.proofs.HeaderLemmas.{bytes_there, number_there, fields_there, no_header, read_as, read_as_none}
use Rattle.l3_stream.proofs.header_bits.read_header.Goals as goal
use Rattle.l3_stream.proofs.header_bits.read_header.Goals.{After-from_residual}

pub returns-then-header_number-number-clause-found : goal.returns-then-header_number-number-clause-found
returns-then-header_number-number-clause-found c =
    let four : length c.args.bytes.now ≡ 4 = search rules in
    let same : c.header_number.result ≡ c.take_bits-number.result = search rules in
    bytes_there c.args.bytes.now c.take_bits-number.result c.header_number.result
    (header_bits c.in_ok-settings.settings (nat_eq (c.take_bits-number.result / 512 % 2) 1) false false) four c.take_bits-number.ensures.value same c.header_number.ensures.digits

pub returns-else-header_number-number-clause-none : goal.returns-else-header_number-number-clause-none
returns-else-header_number-number-clause-none c =
    let four : length c.args.bytes.now ≡ 4 = search rules in
    no_header c.args.bytes.now c.take_bits-number.result c.header_number.result c.in_ok-settings.settings four c.take_bits-number.ensures.value
    c.in_ok-settings.ensures.some c.header_number.ensures.digits c.header_number.ensures.small c.if-header_number-number.false

pub returns-then-header_number-number-clause-value : goal.returns-then-header_number-number-clause-value
returns-then-header_number-number-clause-value c =
    read_as (bits_of c.args.bytes.now) c.in_ok-settings.settings (nat_eq (c.take_bits-number.result / 512 % 2) 1) (returns-then-header_number-number-clause-found c)

pub returns-else-header_number-number-clause-value : goal.returns-else-header_number-number-clause-value
returns-else-header_number-number-clause-value c = read_as_none (bits_of c.args.bytes.now) (returns-else-header_number-number-clause-none c)

-- bytes of which the number has no settings are no header
no_settings : (c : After-from_residual) (st : Settings) (padded : Bool) → bits_of c.args.bytes.now ≡ header_bits st padded false false → ⊥
no_settings c st padded header =
    let four : length c.args.bytes.now ≡ 4 = search rules in
    let value = number_there c.args.bytes.now c.take_bits-number.result st padded four c.take_bits-number.ensures.value header in
    c.in_err-settings.ensures.none st (fields_there c.take_bits-number.result st padded value).settings

pub returns-in_err-settings-clause-none : goal.returns-in_err-settings-clause-none
returns-in_err-settings-clause-none c = rw c.from_residual.ensures (no_settings c)

pub returns-in_err-settings-clause-value : goal.returns-in_err-settings-clause-value
returns-in_err-settings-clause-value c = read_as_none (bits_of c.args.bytes.now) (no_settings c) ∙ sym c.from_residual.ensures
