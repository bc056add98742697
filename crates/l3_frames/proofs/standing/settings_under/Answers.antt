use Rattle.std.proofs.Common.{◌≡◌, length, None, Some, rules}
use Rattle.l3_frames.proofs.NextSteps.{settings_kept, settings_first, found_is, missing_is}
use Rattle.l3_frames.proofs.standing.settings_under.Goals as goal

pub returns-in-Some : goal.returns-in-Some
returns-in-Some c = settings_kept c.args.settings c.args.header.now c.in-Some.settings
    (search rules)

pub returns-in-Some-first_settings : goal.returns-in-Some-first_settings
returns-in-Some-first_settings c =
    let none : c.args.settings ≡ None = search rules in
    let four : length c.args.header.now ≡ 4 = search rules in
    let is : c.first_settings.result ≡ Some c.in-Some-first_settings.settings = search rules in
    settings_first c.args.settings c.args.header.now c.first_settings.result _ none four
    c.first_settings.ensures (found_is c.in-Some-first_settings.settings c.first_settings.result
    is)

pub returns-in-None : goal.returns-in-None
returns-in-None c =
    let none : c.args.settings ≡ None = search rules in
    let four : length c.args.header.now ≡ 4 = search rules in
    let is : c.first_settings.result ≡ None = search rules in
    settings_first c.args.settings c.args.header.now c.first_settings.result _ none four
    c.first_settings.ensures (missing_is c.first_settings.result is)
