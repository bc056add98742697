use Rattle.std.proofs.Common.{◌≡◌, ap, ◌∙◌, false}
use Rattle.l3_frames.specs.Writing.{owed}
use Rattle.l3_frames.specs.Pending.{writing_of}
use Rattle.l3_frames.proofs.WriterLemmas.{first_writing, first_is_kept, first_owes}
use Rattle.l3_frames.proofs.writer.FrameWriter.new.Goals as goal

pub invariant_of-result : goal.invariant_of-result
invariant_of-result c =
    let is : writing_of c.nothing_pending.result false ≡ first_writing c.args.settings = cc in
    first_is_kept c.nothing_pending.result c.args.settings is c.nothing_pending.ensures.frames.1

pub returns-clause-owes : goal.returns-clause-owes
returns-clause-owes c = λ fs.
    let is : writing_of c.nothing_pending.result false ≡ first_writing c.args.settings = cc in
    ap (λ w. owed w fs) is ∙ first_owes c.args.settings fs
