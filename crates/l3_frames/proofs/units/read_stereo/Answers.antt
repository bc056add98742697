use Rattle.std.proofs.Common.{◌≡◌, [], length, arith, rules, Err}
use Rattle.l3_frames.proofs.UnitSteps.{gives_err}
use Rattle.l3_frames.proofs.Granules.{stereo_steps}
use Rattle.l3_frames.proofs.units.read_stereo.Goals as goal

pub read_granule-requires-clause-fields : goal.read_granule-requires-clause-fields
read_granule-requires-clause-fields c = (stereo_steps c.args.settings.now c.args.first
    c.args.bytes.now c.args.at c.args.units.now c.requires.shape c.requires.number).fields1
    c.requires.fields

pub read_granule-requires-clause-bare : goal.read_granule-requires-clause-bare
read_granule-requires-clause-bare c = (stereo_steps c.args.settings.now c.args.first
    c.args.bytes.now c.args.at c.args.units.now c.requires.shape c.requires.number).bare1
    c.requires.bare

pub read_granule-requires-clause-within : goal.read_granule-requires-clause-within
read_granule-requires-clause-within c =
    let steps = stereo_steps c.args.settings.now c.args.first c.args.bytes.now c.args.at
    c.args.units.now c.requires.shape c.requires.number in
    omega (arith, steps.sizes [], c.requires.within)

pub returns-in_err-next-clause-value : goal.returns-in_err-next-clause-value
returns-in_err-next-clause-value c =
    let is : c.from_residual.result ≡ Err c.in_err-next.field-0.0 = search rules in
    gives_err _ _ c.from_residual.result c.in_err-next.field-0.0 is
    ((stereo_steps c.args.settings.now c.args.first c.args.bytes.now c.args.at c.args.units.now
    c.requires.shape c.requires.number).bad1 c.in_err-next.field-0.0
    c.in_err-next.ensures.value)

pub read_granule-requires-2-clause-fields : goal.read_granule-requires-2-clause-fields
read_granule-requires-2-clause-fields c = (stereo_steps c.args.settings.now c.args.first
    c.args.bytes.now c.args.at c.args.units.now c.requires.shape c.requires.number).fields2
    c.read_granule.new.units c.requires.fields

pub read_granule-requires-2-clause-bare : goal.read_granule-requires-2-clause-bare
read_granule-requires-2-clause-bare c = (stereo_steps c.args.settings.now c.args.first
    c.args.bytes.now c.args.at c.args.units.now c.requires.shape c.requires.number).bare2
    c.read_granule.new.units c.requires.bare

pub read_granule-requires-2-clause-within : goal.read_granule-requires-2-clause-within
read_granule-requires-2-clause-within c =
    let steps = stereo_steps c.args.settings.now c.args.first c.args.bytes.now c.args.at
    c.args.units.now c.requires.shape c.requires.number in
    omega (
      arith,
      steps.sizes c.read_granule.new.units,
      c.in_ok-next.ensures.next,
      c.requires.within,
    )

pub returns-in_err-end-clause-value : goal.returns-in_err-end-clause-value
returns-in_err-end-clause-value c =
    let is : c.from_residual-in_err-end.result ≡ Err c.in_err-end.field-0.0 = search rules in
    gives_err _ _ c.from_residual-in_err-end.result c.in_err-end.field-0.0 is
    ((stereo_steps c.args.settings.now c.args.first c.args.bytes.now c.args.at c.args.units.now
    c.requires.shape c.requires.number).bad2 c.in_ok-next.next c.read_granule.new.units
    c.in_err-end.field-0.0 c.in_ok-next.ensures.next c.in_ok-next.ensures.value
    c.in_err-end.ensures.value)

pub returns-clause-value : goal.returns-clause-value
returns-clause-value c =
    let two : length c.read_granule.new.units ≡ 2 = c.read_granule.ensures.two in
    let two' : length c.read_granule-2.new.units ≡ 2 = c.read_granule-2.ensures.two in
    (stereo_steps c.args.settings.now c.args.first c.args.bytes.now c.args.at c.args.units.now
    c.requires.shape c.requires.number).read c.in_ok-next.next c.read_granule.new.units
    c.read_granule-2.new.units two two' c.in_ok-next.ensures.next c.in_ok-next.ensures.value
    c.in_ok-end.ensures.value

pub returns-clause-shape : goal.returns-clause-shape
returns-clause-shape c =
    let two : length c.read_granule.new.units ≡ 2 = c.read_granule.ensures.two in
    let two' : length c.read_granule-2.new.units ≡ 2 = c.read_granule-2.ensures.two in
    (stereo_steps c.args.settings.now c.args.first c.args.bytes.now c.args.at c.args.units.now
    c.requires.shape c.requires.number).shape c.read_granule.new.units
    c.read_granule-2.new.units two two'

pub returns-clause-next : goal.returns-clause-next
returns-clause-next c =
    let steps = stereo_steps c.args.settings.now c.args.first c.args.bytes.now c.args.at
    c.args.units.now c.requires.shape c.requires.number in
    omega (
      arith,
      steps.sizes c.read_granule.new.units,
      c.in_ok-next.ensures.next,
      c.in_ok-end.ensures.next,
    )
