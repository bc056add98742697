use Rattle.l3_wav.proofs.WindowLemmas.{window-behind}
use Rattle.l3_wav.proofs.filling.fill_window.Goals as goal

pub returns : goal.returns
returns c = window-behind c.fill.new.window c.args.kept.now c.args.stale c.args.after c.fill.ensures.long c.fill.ensures.each
