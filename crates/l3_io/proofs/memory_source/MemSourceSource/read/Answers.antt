use Rattle.std.proofs.Common.{rules}
use Rattle.l3_io.proofs.ReadLemmas.{given-front, given-none}
use Rattle.l3_io.proofs.memory_source.MemSourceSource.read.Goals as goal

pub returns-clause-bytes : goal.returns-clause-bytes
returns-clause-bytes c = (
  given-front c.self.inside.at c.give-count.result c.args.self.now.left c.self.inside.bytes.items c.deref-2.result.now c.give-count.new.buf
      (search rules) c.deref-2.ensures.value c.give-count.ensures.bytes,
  λ none there. given-none c.self.inside.at c.give-count.result c.self.inside.step _ c.self.inside.bytes.items c.deref-2.result.now
      c.deref-2.ensures.value c.give-count.ensures.count (search rules) (search rules) none,
)
