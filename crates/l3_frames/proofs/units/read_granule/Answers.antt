use Rattle.std.proofs.Common.{◌≡◌, length, rules, Err}
use Rattle.l3_frames.proofs.UnitSteps.{gives_err}
use Rattle.l3_frames.proofs.Granules.{granule_first_bad, granule_second_bad, granule_read}
use Rattle.l3_frames.proofs.units.read_granule.Goals as goal

pub returns-in_err-next-clause-value : goal.returns-in_err-next-clause-value
returns-in_err-next-clause-value c =
    let is : c.from_residual.result ≡ Err c.in_err-next.field-0.0 = search rules in
    let two : length c.args.units.now ≡ 2 = search rules in
    gives_err _ _ c.from_residual.result c.in_err-next.field-0.0 is
    (granule_first_bad c.args.settings.now c.args.first c.args.bytes.now c.args.at c.args.units.now
    _ c.in_err-next.field-0.0 two c.in_err-next.ensures.value)

pub returns-in_err-end-clause-value : goal.returns-in_err-end-clause-value
returns-in_err-end-clause-value c =
    let is : c.from_residual-in_err-end.result ≡ Err c.in_err-end.field-0.0 = search rules in
    let two : length c.args.units.now ≡ 2 = search rules in
    gives_err _ _ c.from_residual-in_err-end.result c.in_err-end.field-0.0 is
    (granule_second_bad c.args.settings.now c.args.first c.args.bytes.now c.args.at
    c.in_ok-next.next c.args.units.now _ c.read_unit.new.unit c.in_err-end.field-0.0 two
    c.in_ok-next.ensures.next c.in_ok-next.ensures.value c.in_err-end.ensures.value)

pub returns-clause-value : goal.returns-clause-value
returns-clause-value c =
    let two : length c.args.units.now ≡ 2 = search rules in
    granule_read c.args.settings.now c.args.first c.args.bytes.now c.args.at c.in_ok-next.next
    c.args.units.now _ c.read_unit.new.unit c.read_unit-2.new.unit two c.in_ok-next.ensures.next
    c.in_ok-next.ensures.value c.in_ok-end.ensures.value
