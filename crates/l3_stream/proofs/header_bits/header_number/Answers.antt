use Rattle.std.proofs.Common.{◌≡◌, ◌∙◌, sym, ap, refl, false}
use Rattle.l3_base.specs.Header.{mode_of}
use Rattle.l3_stream.proofs.HeaderLemmas.{header_of-digits, padding}
use Rattle.l3_stream.proofs.header_bits.header_number.Goals as goal
use Rattle.l3_stream.proofs.header_bits.header_number.Goals.{then-padded, else-padded, in-Mono, in-Stereo}

pub returns-clause-digits : goal.returns-clause-digits
returns-clause-digits c =
    let flag : c.if-padded.padding ≡ padding c.args.padded =
    elim c.if-padded.branch [ then-padded w ↦ rw (w.padding-is, w.if-padded.true) refl | else-padded w ↦ rw (w.padding-is, w.if-padded.false) refl ] in
    let mode : c.match-settings.mode ≡ mode_of c.args.settings.now.channels false =
    elim c.match-settings.branch [ in-Mono w ↦ w.mode-is ∙ ap (λ x. mode_of x false) (sym w.in-Mono.is) | in-Stereo w ↦ w.mode-is ∙ ap (λ x. mode_of x false) (sym w.in-Stereo.is) ] in
    header_of-digits c.args.settings.now c.args.padded c.from.result c.index-2.result c.if-padded.padding c.match-settings.mode
    (c.from.ensures ∙ c.index.ensures) c.index-2.ensures flag mode
