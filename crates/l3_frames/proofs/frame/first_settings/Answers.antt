use Rattle.std.proofs.Common.{◌≡◌, ◌∙◌, None, sym, rules}
use Rattle.l3_bits.specs.Bits.{bits_of}
use Rattle.l3_frames.proofs.Heads.{first_none, first_padded, first_found}
use Rattle.l3_frames.proofs.frame.first_settings.Goals as goal

pub returns-in_err-settings : goal.returns-in_err-settings
returns-in_err-settings c =
    let is : c.from_residual.result ≡ None = search rules in
    first_none (bits_of c.args.header.now) c.in_err-settings.ensures.value ∙ sym is

pub returns-then-padded : goal.returns-then-padded
returns-then-padded c = first_padded (bits_of c.args.header.now) c.in_ok-settings.settings
    c.in_ok-settings.padded c.if-padded.true c.in_ok-settings.ensures.value

pub returns-else-padded : goal.returns-else-padded
returns-else-padded c = first_found (bits_of c.args.header.now) c.in_ok-settings.settings
    c.in_ok-settings.padded c.if-padded.false c.in_ok-settings.ensures.value
