use Rattle.std.proofs.Common.{◌<◌, length, Some, None, sym, ap, ◌∙◌, arith}
use Rattle.std.proofs.lemmas.List.{get_or_read}
use Rattle.l3_lanes.specs.History.{bare}
use Rattle.l3_lanes.proofs.DeskViewLemmas.{desk_after}
use Rattle.l3_lanes.proofs.seats.LaneBoard.take_in.Goals as goal

pub fetch-answer-requires-clause-desk : goal.fetch-answer-requires-clause-desk
fetch-answer-requires-clause-desk g c =
    let d = c.requires.made.1 in
    let k = d.knows c.cell-cell.result c.cell-cell.ensures.bound in
    let low : c.cell-cell.result < length c.args.desk.now.granules.items = let m = d.as_many in let q = c.cell-cell.ensures.bound in omega arith in
    let read = get_or_read c.args.desk.now.granules.items c.cell-cell.result c.index.result.now low c.index.ensures None in
    (d.desk, d.no_slot, (k.0, k.1, k.2 ∙ (sym read ∙ (c.in-Some.is ∙ ap (λ z. Some z) c.if-granule-number.false)), k.3))

pub returns-clause-made : goal.returns-clause-made
returns-clause-made g c =
    let e = c.fetch-answer.ensures.after in (
      c.fetch-answer.ensures.same.0 ∙ c.requires.made.0,
      desk_after c.args.self.now.cells (bare c.args.desk.now.token.me) (bare c.fetch-answer.new.token.me) c.args.desk.now.granules.items c.args.desk.now.shut c.requires.made.1 c.cell-cell.result e.0 c.cell-cell.ensures.bound c.fetch-answer.ensures.notes.2.places e.1 c.fetch-answer.ensures.no_slot e.3 None e.2,
      c.requires.made.2,
    )
