use Rattle.std.proofs.Common.{◌≡◌, ◌*◌, ◌∙◌, length, true, false, sym, ap, subst}
use Rattle.l3_bits.specs.Bits.{bits_of}
use Rattle.l3_bits.proofs.Places.{length-bits_of}
use Rattle.l3_base.specs.declared.rate.Channels.{Channels}
use Rattle.l3_base.specs.declared.rate.Channels.TheVariants.{Mono, Stereo}
use Rattle.l3_stream.specs.Side.{side_bytes}
use Rattle.l3_stream.specs.SideReading.{SidePassesRule}
use Rattle.l3_stream.proofs.GranuleLemmas.{IsReadOff, IsFound, IsRefused, found_from, refused_from}
use Rattle.l3_stream.proofs.side_reading.read_side.Goals as goal
use Rattle.l3_stream.proofs.side_reading.read_side.Goals.{in-Mono, in-Stereo, Then-whole, Else-whole}

found : (c : Then-whole) → IsFound c.args.settings.now.channels (bits_of c.args.bytes.now) c.match-settings.frame
found c =
    let bits = bits_of c.args.bytes.now in
    let channels = c.args.settings.now.channels in
    let frame = c.match-settings.frame in
    let yes : c.match-settings.whole ≡ true = c.if-whole.true in
    let size : length bits ≡ 8 * side_bytes channels = length-bits_of c.args.bytes.now ∙ ap (λ n. 8 * n) c.requires in
    let read : IsReadOff channels bits frame =
    elim c.match-settings.branch [
      | in-Mono w ↦
          let whole : w.read_mono-whole.result ≡ true = sym w.whole-is ∙ yes in
          subst (λ (x : Channels). IsReadOff x bits frame) (sym w.in-Mono.is) (subst (IsReadOff Mono bits) (sym w.frame-is)
          (record { rule = w.read_mono-whole.ensures.rule whole; begin = w.read_mono-whole.ensures.begin whole; units = w.read_mono-whole.ensures.units whole }))
      | in-Stereo w ↦
          let whole : w.read_stereo-whole.result ≡ true = sym w.whole-is ∙ yes in
          subst (λ (x : Channels). IsReadOff x bits frame) (sym w.in-Stereo.is) (subst (IsReadOff Stereo bits) (sym w.frame-is)
          (record { rule = w.read_stereo-whole.ensures.rule whole; begin = w.read_stereo-whole.ensures.begin whole; units = w.read_stereo-whole.ensures.units whole }))
    ] in
    found_from channels bits frame size read

refused : (c : Else-whole) → IsRefused c.args.settings.now.channels (bits_of c.args.bytes.now)
refused c =
    let bits = bits_of c.args.bytes.now in
    let channels = c.args.settings.now.channels in
    let no : c.match-settings.whole ≡ false = c.if-whole.false in
    let size : length bits ≡ 8 * side_bytes channels = length-bits_of c.args.bytes.now ∙ ap (λ n. 8 * n) c.requires in
    let none : SidePassesRule channels bits → ⊥ =
    elim c.match-settings.branch [
      | in-Mono w ↦ λ rule. w.read_mono-whole.ensures.refused (sym w.whole-is ∙ no) (subst (λ (x : Channels). SidePassesRule x bits) w.in-Mono.is rule)
      | in-Stereo w ↦ λ rule. w.read_stereo-whole.ensures.refused (sym w.whole-is ∙ no) (subst (λ (x : Channels). SidePassesRule x bits) w.in-Stereo.is rule)
    ] in
    refused_from channels bits size none

pub returns-then-whole-clause-value : goal.returns-then-whole-clause-value
returns-then-whole-clause-value c = (found c).value

pub returns-then-whole-clause-found : goal.returns-then-whole-clause-found
returns-then-whole-clause-found c = (found c).found

pub returns-then-whole-clause-placed : goal.returns-then-whole-clause-placed
returns-then-whole-clause-placed c = (found c).placed_so

pub returns-then-whole-clause-bare : goal.returns-then-whole-clause-bare
returns-then-whole-clause-bare c = (found c).bare

pub returns-else-whole-clause-value : goal.returns-else-whole-clause-value
returns-else-whole-clause-value c = (refused c).value

pub returns-else-whole-clause-none : goal.returns-else-whole-clause-none
returns-else-whole-clause-none c = (refused c).none
