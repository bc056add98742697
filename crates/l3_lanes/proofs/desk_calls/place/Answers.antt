use Rattle.std.proofs.Common.{◌≡◌, ℕ, ◌+◌, ◌*◌, ◌/◌, ◌<◌, length, arith, Some, refl, sym, ap, ◌∙◌}
use Rattle.l3_lanes.specs.History.{bare}
use Rattle.l3_lanes.specs.declared.view.View.{View}
use Rattle.l3_lanes.specs.declared.view.Tell.TheVariants.{Held, Told}
use Rattle.l3_lanes.specs.Views.{noted, told}
use Rattle.l3_lanes.proofs.ViewLemmas.{tells_at, after_one, after_then, eighth, look_missed_notes}
use Rattle.l3_lanes.proofs.desk_calls.place.Goals as goal

pub put_offer-requires-clause-desk : goal.put_offer-requires-clause-desk
put_offer-requires-clause-desk g c =
    let seen = rw c.if-look-ne0.false at c.look.ensures.told in
    let same : c.exchange-spent.new.seat.me.0.view ≡ c.look.new.seat.me.0.view = ap (λ m. m.0.view) c.exchange-spent.ensures.3 in
    let know = c.requires.desk.2.1 in
    rw same (ap (λ (v : View). v.desk) seen.0 ∙ c.requires.desk.0, tells_at c.args.token.now.me.0.view c.look.new.seat.me.0.view c.args.cell 0 Held know.0 know.1 seen.0)

pub put_offer-requires-clause-item : goal.put_offer-requires-clause-item
put_offer-requires-clause-item g c = (Some c.args.item, _, ap (λ m. m.1) c.exchange-spent.ensures.3, (c.args.item, refl, sym c.requires.number.1))

pub returns-clause-after : goal.returns-clause-after
returns-clause-after g c =
    let seen = rw c.if-look-ne0.false at c.look.ensures.told in
    let same : c.exchange-spent.new.seat.me.0.view ≡ c.look.new.seat.me.0.view = ap (λ m. m.0.view) c.exchange-spent.ensures.3 in
    let n : ℕ = 8 * c.args.number + 1 in
    let put : c.ring.new.seat.me.0.view ≡ told (noted c.look.new.seat.me.0.view c.args.cell n) c.args.cell (Told (n / 8)) = c.ring.ensures.told.0 ∙ (c.put_offer.ensures.told.0 ∙ ap (λ (v : View). told (noted v c.args.cell n) c.args.cell (Told (n / 8))) same) in (
      Told c.args.number,
      after_then c.args.token.now.me.0.view c.look.new.seat.me.0.view c.ring.new.seat.me.0.view c.args.cell Held (Told c.args.number)
          (after_one c.args.token.now.me.0.view c.look.new.seat.me.0.view c.args.cell 0 Held Held seen.0 refl)
          (after_one c.look.new.seat.me.0.view c.ring.new.seat.me.0.view c.args.cell n (Told (n / 8)) (Told c.args.number) put (ap Told (eighth c.args.number))),
      refl,
      refl,
    )

pub returns-then-look-ne0-clause-notes : goal.returns-then-look-ne0-clause-notes
returns-then-look-ne0-clause-notes g c =
    let low : c.args.cell < length c.args.token.now.me.0.view.notes = let p = c.requires.places in let q = c.requires.cell.0 in omega arith in
    (_, (c.look.result, c.if-look-ne0.true, refl), look_missed_notes g.T.Numbered.number_of c.args.row.now.table_id.slots c.args.cell c.args.number (bare c.args.token.now.me) (bare c.look.new.seat.me) c.look.result low c.if-look-ne0.true c.look.ensures.told)
