use Rattle.std.proofs.Common.{◌≡◌, arith, rules, Err}
use Rattle.l3_stream.specs.Frames.{blank}
use Rattle.l3_frames.proofs.UnitSteps.{gives_err}
use Rattle.l3_frames.proofs.Granules.{mono_steps, nothing}
use Rattle.l3_frames.proofs.units.read_mono.Goals as goal

pub read_unit-requires-clause-fields : goal.read_unit-requires-clause-fields
read_unit-requires-clause-fields c = (mono_steps c.args.settings.now c.args.first c.args.bytes.now
    c.args.at nothing c.args.units.now c.requires.shape c.requires.number).fields1 c.requires.fields

pub read_unit-requires-clause-bare : goal.read_unit-requires-clause-bare
read_unit-requires-clause-bare c = (mono_steps c.args.settings.now c.args.first c.args.bytes.now
    c.args.at nothing c.args.units.now c.requires.shape c.requires.number).bare1 c.requires.bare

pub read_unit-requires-clause-within : goal.read_unit-requires-clause-within
read_unit-requires-clause-within c =
    let steps = mono_steps c.args.settings.now c.args.first c.args.bytes.now c.args.at nothing
    c.args.units.now c.requires.shape c.requires.number in
    omega (arith, steps.sizes blank, c.requires.within)

pub returns-in_err-next-clause-value : goal.returns-in_err-next-clause-value
returns-in_err-next-clause-value c =
    let is : c.from_residual.result ≡ Err c.in_err-next.field-0.0 = search rules in
    gives_err _ _ c.from_residual.result c.in_err-next.field-0.0 is
    ((mono_steps c.args.settings.now c.args.first c.args.bytes.now c.args.at nothing
    c.args.units.now c.requires.shape c.requires.number).bad1 c.in_err-next.field-0.0
    c.in_err-next.ensures.value)

pub read_unit-requires-2-clause-fields : goal.read_unit-requires-2-clause-fields
read_unit-requires-2-clause-fields c = (mono_steps c.args.settings.now c.args.first c.args.bytes.now
    c.args.at nothing c.args.units.now c.requires.shape c.requires.number).fields2
    c.read_unit.new.unit c.requires.fields

pub read_unit-requires-2-clause-bare : goal.read_unit-requires-2-clause-bare
read_unit-requires-2-clause-bare c = (mono_steps c.args.settings.now c.args.first c.args.bytes.now
    c.args.at nothing c.args.units.now c.requires.shape c.requires.number).bare2
    c.read_unit.new.unit c.requires.bare

pub read_unit-requires-2-clause-within : goal.read_unit-requires-2-clause-within
read_unit-requires-2-clause-within c =
    let steps = mono_steps c.args.settings.now c.args.first c.args.bytes.now c.args.at nothing
    c.args.units.now c.requires.shape c.requires.number in
    omega (arith, steps.sizes c.read_unit.new.unit, c.in_ok-next.ensures.next, c.requires.within)

pub returns-in_err-end-clause-value : goal.returns-in_err-end-clause-value
returns-in_err-end-clause-value c =
    let is : c.from_residual-in_err-end.result ≡ Err c.in_err-end.field-0.0 = search rules in
    gives_err _ _ c.from_residual-in_err-end.result c.in_err-end.field-0.0 is
    ((mono_steps c.args.settings.now c.args.first c.args.bytes.now c.args.at nothing
    c.args.units.now c.requires.shape c.requires.number).bad2 c.in_ok-next.next
    c.read_unit.new.unit c.in_err-end.field-0.0 c.in_ok-next.ensures.next
    c.in_ok-next.ensures.value c.in_err-end.ensures.value)

pub returns-clause-value : goal.returns-clause-value
returns-clause-value c =
    (mono_steps c.args.settings.now c.args.first c.args.bytes.now c.args.at nothing c.args.units.now
    c.requires.shape c.requires.number).read c.in_ok-next.next c.read_unit.new.unit
    c.read_unit-2.new.unit c.in_ok-next.ensures.next c.in_ok-next.ensures.value
    c.in_ok-end.ensures.value

pub returns-clause-shape : goal.returns-clause-shape
returns-clause-shape c =
    (mono_steps c.args.settings.now c.args.first c.args.bytes.now c.args.at nothing c.args.units.now
    c.requires.shape c.requires.number).shape c.read_unit.new.unit c.read_unit-2.new.unit

pub returns-clause-next : goal.returns-clause-next
returns-clause-next c =
    let steps = mono_steps c.args.settings.now c.args.first c.args.bytes.now c.args.at nothing
    c.args.units.now c.requires.shape c.requires.number in
    omega (
      arith,
      steps.sizes c.read_unit.new.unit,
      c.in_ok-next.ensures.next,
      c.in_ok-end.ensures.next,
    )
