use Rattle.std.proofs.Common.{◌∙◌, sym}
use Rattle.l3_analysis.specs.Piece.{spectrum_in, memo_in}
use Rattle.l3_commit.proofs.Taking.{granule-mono, granule-stereo}
use Rattle.l3_commit.proofs.OfPiece.{committed-mono, committed-stereo, lacking-mono, lacking-stereo, second-taken}
use Rattle.l3_commit.proofs.choosing.choose_granule.Goals as goal

pub returns-in-Mono-clause-value : goal.returns-in-Mono-clause-value
returns-in-Mono-clause-value g c =
    let u = c.choose-first in
    (granule-mono c.args.place.settings c.args.place.frame c.args.reserve.now (spectrum_in c.args.piece.now) c.args.units.now u.new.unit c.blank.result u.new.reserve u.result.tried c.in-Mono.is c.told-units
    (record { unit_is = u.ensures.value; after_is = u.ensures.rest; tried_is = u.ensures.tried }) c.blank.ensures).units_are

pub returns-in-Mono-clause-rest : goal.returns-in-Mono-clause-rest
returns-in-Mono-clause-rest g c =
    let u = c.choose-first in
    (granule-mono c.args.place.settings c.args.place.frame c.args.reserve.now (spectrum_in c.args.piece.now) c.args.units.now u.new.unit c.blank.result u.new.reserve u.result.tried c.in-Mono.is c.told-units
    (record { unit_is = u.ensures.value; after_is = u.ensures.rest; tried_is = u.ensures.tried }) c.blank.ensures).after_is

pub returns-in-Mono-clause-tried : goal.returns-in-Mono-clause-tried
returns-in-Mono-clause-tried g c =
    let u = c.choose-first in
    (granule-mono c.args.place.settings c.args.place.frame c.args.reserve.now (spectrum_in c.args.piece.now) c.args.units.now u.new.unit c.blank.result u.new.reserve u.result.tried c.in-Mono.is c.told-units
    (record { unit_is = u.ensures.value; after_is = u.ensures.rest; tried_is = u.ensures.tried }) c.blank.ensures).tried_is

pub returns-in-Mono-clause-made : goal.returns-in-Mono-clause-made
returns-in-Mono-clause-made g c =
    c.choose-first.ensures.made ∙ sym (lacking-mono c.args.place.settings c.args.place.frame c.args.reserve.now c.args.piece.now c.in-Mono.is)

pub returns-in-Mono-clause-piece : goal.returns-in-Mono-clause-piece
returns-in-Mono-clause-piece g c =
    let u = c.choose-first in
    committed-mono c.args.place.settings c.args.place.frame c.args.reserve.now c.args.piece.now u.new.piece (c.requires.settings.channels_is ∙ c.in-Mono.is) u.ensures.piece u.ensures.memo

pub returns-in-Stereo-clause-value : goal.returns-in-Stereo-clause-value
returns-in-Stereo-clause-value g c =
    let u = c.choose-first in
    let v = c.choose-second in
    (granule-stereo c.args.place.settings c.args.place.frame c.args.reserve.now u.new.reserve (spectrum_in c.args.piece.now) c.args.units.now u.new.unit v.new.unit v.new.reserve u.result.tried v.result.tried c.in-Stereo.is c.told-units
    (record { unit_is = u.ensures.value; after_is = u.ensures.rest; tried_is = u.ensures.tried })
    (second-taken c.args.place.settings c.args.place.frame u.new.reserve c.args.piece.now u.new.piece (memo_in u.new.piece 0) v.new.unit v.new.reserve v.result.tried u.ensures.piece
    (record { unit_is = v.ensures.value; after_is = v.ensures.rest; tried_is = v.ensures.tried }))).units_are

pub returns-in-Stereo-clause-rest : goal.returns-in-Stereo-clause-rest
returns-in-Stereo-clause-rest g c =
    let u = c.choose-first in
    let v = c.choose-second in
    (granule-stereo c.args.place.settings c.args.place.frame c.args.reserve.now u.new.reserve (spectrum_in c.args.piece.now) c.args.units.now u.new.unit v.new.unit v.new.reserve u.result.tried v.result.tried c.in-Stereo.is c.told-units
    (record { unit_is = u.ensures.value; after_is = u.ensures.rest; tried_is = u.ensures.tried })
    (second-taken c.args.place.settings c.args.place.frame u.new.reserve c.args.piece.now u.new.piece (memo_in u.new.piece 0) v.new.unit v.new.reserve v.result.tried u.ensures.piece
    (record { unit_is = v.ensures.value; after_is = v.ensures.rest; tried_is = v.ensures.tried }))).after_is

pub returns-in-Stereo-clause-tried : goal.returns-in-Stereo-clause-tried
returns-in-Stereo-clause-tried g c =
    let u = c.choose-first in
    let v = c.choose-second in
    (granule-stereo c.args.place.settings c.args.place.frame c.args.reserve.now u.new.reserve (spectrum_in c.args.piece.now) c.args.units.now u.new.unit v.new.unit v.new.reserve u.result.tried v.result.tried c.in-Stereo.is c.told-units
    (record { unit_is = u.ensures.value; after_is = u.ensures.rest; tried_is = u.ensures.tried })
    (second-taken c.args.place.settings c.args.place.frame u.new.reserve c.args.piece.now u.new.piece (memo_in u.new.piece 0) v.new.unit v.new.reserve v.result.tried u.ensures.piece
    (record { unit_is = v.ensures.value; after_is = v.ensures.rest; tried_is = v.ensures.tried }))).tried_is

pub returns-in-Stereo-clause-made : goal.returns-in-Stereo-clause-made
returns-in-Stereo-clause-made g c =
    let u = c.choose-first in
    let v = c.choose-second in
    lacking-stereo c.args.place.settings c.args.place.frame c.args.reserve.now u.new.reserve u.result.made v.result.made c.args.piece.now u.new.piece (memo_in u.new.piece 0) c.in-Stereo.is u.ensures.piece u.ensures.rest u.ensures.made v.ensures.made

pub returns-in-Stereo-clause-piece : goal.returns-in-Stereo-clause-piece
returns-in-Stereo-clause-piece g c =
    let u = c.choose-first in
    let v = c.choose-second in
    committed-stereo c.args.place.settings c.args.place.frame c.args.reserve.now u.new.reserve c.args.piece.now u.new.piece v.new.piece (c.requires.settings.channels_is ∙ c.in-Stereo.is) u.ensures.piece v.ensures.piece
    u.ensures.rest u.ensures.memo v.ensures.memo
