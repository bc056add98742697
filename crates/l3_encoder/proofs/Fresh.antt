-- A board that begins, and a committer that has offered nothing.
use Rattle.std.proofs.Common.{◌≡◌, ◌∙◌, sym, ap, ℕ}
use Rattle.std.specs.Prelude.{map}
use Rattle.l3_board.specs.Desk.{DeskState, fresh_desk}
use Rattle.l3_board.specs.Offers.{OffersView, told_of, no_offers, GoesWith}
use Rattle.l3_board.proofs.RecordLemmas.{none-told}

pub goes-fresh : (n : ℕ) (desk : DeskState) (v : OffersView) → desk ≡ fresh_desk n → v ≡ no_offers n → GoesWith desk.last v
goes-fresh n desk v is fresh = ap (λ (d : DeskState). map told_of d.last) is ∙ (none-told n ∙ sym (ap (λ (o : OffersView). o.placed) fresh))
