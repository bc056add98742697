use Rattle.std.proofs.Common.{◌+◌, ◌*◌, ◌<◌, [], ◌∷◌, length, inl, inr, refl, ◌∙◌, arith}
use Rattle.l3_lanes.specs.History.{bare}
use Rattle.l3_lanes.specs.declared.view.Tell.TheVariants.{Held, ToldClaimed, ToldReady, Left, Free}
use Rattle.l3_lanes.proofs.ViewLemmas.{after_then, tells_after, revoke_hit, revoke_missed, revoke_ready, revoke_begun, withdraw_hit, withdraw_missed, revoke_ready_notes, revoke_begun_notes, withdraw_missed_notes}
use Rattle.l3_lanes.proofs.NoteLemmas.{notes_then}
use Rattle.l3_lanes.proofs.desk_calls.fetch.Goals as goal

pub swap_out-requires-clause-desk : goal.swap_out-requires-clause-desk
swap_out-requires-clause-desk g c =
    let a = (revoke_hit g.T.Numbered.number_of c.args.row.now.table_id.slots c.args.cell c.args.number (bare c.args.token.now.me) (bare c.revoke-found.new.seat.me) c.revoke-found.result c.if-found-number.true c.revoke-found.ensures.told).0 in
    (a.desk ∙ c.requires.desk.0, tells_after c.args.token.now.me.0.view c.revoke-found.new.seat.me.0.view c.args.cell Held c.requires.desk.2.0 c.requires.desk.2.1 a)

pub returns-then-found-number-clause-after : goal.returns-then-found-number-clause-after
returns-then-found-number-clause-after g c =
    let a = (revoke_hit g.T.Numbered.number_of c.args.row.now.table_id.slots c.args.cell c.args.number (bare c.args.token.now.me) (bare c.revoke-found.new.seat.me) c.revoke-found.result c.if-found-number.true c.revoke-found.ensures.told).0 in
    (Free, after_then c.args.token.now.me.0.view c.revoke-found.new.seat.me.0.view c.swap_out.new.token.me.0.view c.args.cell Held Free a c.swap_out.ensures.after, refl, refl)

pub collect-requires-clause-desk : goal.collect-requires-clause-desk
collect-requires-clause-desk g c =
    let a = revoke_ready g.T.Numbered.number_of c.args.row.now.table_id.slots c.args.cell c.args.number (bare c.args.token.now.me) (bare c.revoke-found.new.seat.me) c.revoke-found.result c.if-found-number.false c.if-found-number-2.true c.revoke-found.ensures.told in
    let m = (revoke_missed g.T.Numbered.number_of c.args.row.now.table_id.slots c.args.cell c.args.number (bare c.args.token.now.me) (bare c.revoke-found.new.seat.me) c.revoke-found.result c.if-found-number.false c.revoke-found.ensures.told).0 in
    (a.desk ∙ c.requires.desk.0, m ∙ c.requires.desk.1, tells_after c.args.token.now.me.0.view c.revoke-found.new.seat.me.0.view c.args.cell (ToldReady c.args.number) c.requires.desk.2.0 c.requires.desk.2.1 a)

pub returns-then-found-number-2-clause-after : goal.returns-then-found-number-2-clause-after
returns-then-found-number-2-clause-after g c =
    let a = revoke_ready g.T.Numbered.number_of c.args.row.now.table_id.slots c.args.cell c.args.number (bare c.args.token.now.me) (bare c.revoke-found.new.seat.me) c.revoke-found.result c.if-found-number.false c.if-found-number-2.true c.revoke-found.ensures.told in
    (Free, after_then c.args.token.now.me.0.view c.revoke-found.new.seat.me.0.view c.collect.new.token.me.0.view c.args.cell (ToldReady c.args.number) Free a c.collect.ensures.after, refl, refl)

pub withdraw-requires-clause-desk : goal.withdraw-requires-clause-desk
withdraw-requires-clause-desk g c =
    let a = revoke_begun g.T.Numbered.number_of c.args.row.now.table_id.slots c.args.cell c.args.number (bare c.args.token.now.me) (bare c.revoke-found.new.seat.me) c.revoke-found.result c.if-found-number.false c.if-found-number-2.false c.revoke-found.ensures.told in
    let at = tells_after c.args.token.now.me.0.view c.revoke-found.new.seat.me.0.view c.args.cell (ToldClaimed c.args.number) c.requires.desk.2.0 c.requires.desk.2.1 a in
    (a.desk ∙ c.requires.desk.0, at)

pub returns-then-withdraw-number-clause-after : goal.returns-then-withdraw-number-clause-after
returns-then-withdraw-number-clause-after g c =
    let a = revoke_begun g.T.Numbered.number_of c.args.row.now.table_id.slots c.args.cell c.args.number (bare c.args.token.now.me) (bare c.revoke-found.new.seat.me) c.revoke-found.result c.if-found-number.false c.if-found-number-2.false c.revoke-found.ensures.told in
    let at = tells_after c.args.token.now.me.0.view c.revoke-found.new.seat.me.0.view c.args.cell (ToldClaimed c.args.number) c.requires.desk.2.0 c.requires.desk.2.1 a in
    let b = withdraw_hit g.T.Numbered.number_of c.args.row.now.table_id.slots c.args.cell c.args.number (bare c.revoke-found.new.seat.me) (bare c.withdraw.new.seat.me) c.withdraw.result c.if-withdraw-number.true c.withdraw.ensures.told in
    (Left c.args.number, after_then c.args.token.now.me.0.view c.revoke-found.new.seat.me.0.view c.withdraw.new.seat.me.0.view c.args.cell (ToldClaimed c.args.number) (Left c.args.number) a b, refl, refl)

pub collect-requires-2-clause-desk : goal.collect-requires-2-clause-desk
collect-requires-2-clause-desk g c =
    let a = revoke_begun g.T.Numbered.number_of c.args.row.now.table_id.slots c.args.cell c.args.number (bare c.args.token.now.me) (bare c.revoke-found.new.seat.me) c.revoke-found.result c.if-found-number.false c.if-found-number-2.false c.revoke-found.ensures.told in
    let at = tells_after c.args.token.now.me.0.view c.revoke-found.new.seat.me.0.view c.args.cell (ToldClaimed c.args.number) c.requires.desk.2.0 c.requires.desk.2.1 a in
    let b = withdraw_missed g.T.Numbered.number_of c.args.row.now.table_id.slots c.args.cell c.args.number (bare c.revoke-found.new.seat.me) (bare c.withdraw.new.seat.me) c.withdraw.result c.if-withdraw-number.false c.withdraw.ensures.told in
    let m = (revoke_missed g.T.Numbered.number_of c.args.row.now.table_id.slots c.args.cell c.args.number (bare c.args.token.now.me) (bare c.revoke-found.new.seat.me) c.revoke-found.result c.if-found-number.false c.revoke-found.ensures.told).0 in
    (b.desk ∙ (a.desk ∙ c.requires.desk.0), c.withdraw.ensures.told.0 ∙ (m ∙ c.requires.desk.1), tells_after c.revoke-found.new.seat.me.0.view c.withdraw.new.seat.me.0.view c.args.cell (ToldReady c.args.number) (ToldClaimed c.args.number) at b)

pub returns-clause-after : goal.returns-clause-after
returns-clause-after g c =
    let a = revoke_begun g.T.Numbered.number_of c.args.row.now.table_id.slots c.args.cell c.args.number (bare c.args.token.now.me) (bare c.revoke-found.new.seat.me) c.revoke-found.result c.if-found-number.false c.if-found-number-2.false c.revoke-found.ensures.told in
    let at = tells_after c.args.token.now.me.0.view c.revoke-found.new.seat.me.0.view c.args.cell (ToldClaimed c.args.number) c.requires.desk.2.0 c.requires.desk.2.1 a in
    let b = withdraw_missed g.T.Numbered.number_of c.args.row.now.table_id.slots c.args.cell c.args.number (bare c.revoke-found.new.seat.me) (bare c.withdraw.new.seat.me) c.withdraw.result c.if-withdraw-number.false c.withdraw.ensures.told in
    (Free, after_then c.args.token.now.me.0.view c.revoke-found.new.seat.me.0.view c.collect-2.new.token.me.0.view c.args.cell (ToldClaimed c.args.number) Free a (after_then c.revoke-found.new.seat.me.0.view c.withdraw.new.seat.me.0.view c.collect-2.new.token.me.0.view c.args.cell (ToldReady c.args.number) Free b c.collect-2.ensures.after), refl, refl)

pub returns-then-found-number-2-clause-notes : goal.returns-then-found-number-2-clause-notes
returns-then-found-number-2-clause-notes g c =
    let low : c.args.cell < length c.args.token.now.me.0.view.notes = let p = c.requires.places in let q = c.requires.cell in omega arith in
    let a = revoke_ready_notes g.T.Numbered.number_of c.args.row.now.table_id.slots c.args.cell c.args.number (bare c.args.token.now.me) (bare c.revoke-found.new.seat.me) c.revoke-found.result low c.if-found-number.false c.if-found-number-2.true c.revoke-found.ensures.told in
    (_, (refl, inl refl), notes_then c.args.cell ((8 * c.args.number + 3) ∷ []) (0 ∷ 0 ∷ []) c.args.token.now.me.0.view c.revoke-found.new.seat.me.0.view c.collect.new.token.me.0.view a c.collect.ensures.notes)

pub returns-clause-notes : goal.returns-clause-notes
returns-clause-notes g c =
    let low : c.args.cell < length c.args.token.now.me.0.view.notes = let p = c.requires.places in let q = c.requires.cell in omega arith in
    let a = revoke_begun_notes g.T.Numbered.number_of c.args.row.now.table_id.slots c.args.cell c.args.number (bare c.args.token.now.me) (bare c.revoke-found.new.seat.me) c.revoke-found.result low c.if-found-number.false c.if-found-number-2.false c.revoke-found.ensures.told in
    let same = a.places in
    let low' : c.args.cell < length c.revoke-found.new.seat.me.0.view.notes = omega arith in
    let b = withdraw_missed_notes g.T.Numbered.number_of c.args.row.now.table_id.slots c.args.cell c.args.number (bare c.revoke-found.new.seat.me) (bare c.withdraw.new.seat.me) c.withdraw.result low' c.if-withdraw-number.false c.withdraw.ensures.told in
    let ab = notes_then c.args.cell ((8 * c.args.number + 2) ∷ []) ((8 * c.args.number + 3) ∷ []) c.args.token.now.me.0.view c.revoke-found.new.seat.me.0.view c.withdraw.new.seat.me.0.view a b in
    (_, (refl, inr refl), notes_then c.args.cell ((8 * c.args.number + 3) ∷ (8 * c.args.number + 2) ∷ []) (0 ∷ 0 ∷ []) c.args.token.now.me.0.view c.withdraw.new.seat.me.0.view c.collect-2.new.token.me.0.view ab c.collect-2.ensures.notes)
