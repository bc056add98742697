use Rattle.std.proofs.Common.{◌≡◌, ◌∙◌, ap, sym, inl, inr, true, false, [], ◌∷◌}
use Rattle.clap.specs.Kinds.{Kinds, HasKind}
use Rattle.clap.specs.Words.{kind_of}
use Rattle.clap.specs.contracts.error.kind.ErrorKind.{the_type}
use Rattle.clap.specs.declared.error.Error.{Error}
use Rattle.clap.specs.declared.error.kind.ErrorKind.TheVariants.{OutOfMemory}
use denote.Enum.Bare.{sameb}
use Rattle.l3_words.proofs.reading.matched.Goals as goal

-- where no kind of fault may come, memory ran out
only_memory : (kinds : Kinds) (error : Error) → HasKind kinds error → kinds ≡ [] → kind_of error ≡ OutOfMemory
only_memory [] error (inl memory) none = memory
only_memory [] error (inr among) none = absurd among
only_memory (kind ∷ kinds) error has none = cc

pub returns-in-Ok : goal.returns-in-Ok
returns-in-Ok c = record {
  taken = c.in-Ok.ensures.kinds c.requires.free;
  refused = λ same none. cc;
  rows = (c.in-Ok.ensures.matches c.requires.simple).0;
}

pub returns : goal.returns
returns c = record {
  taken = tt;
  refused = λ same none.
      let memory : kind_of c.in-Err.error ≡ OutOfMemory = only_memory _ c.in-Err.error (c.in-Err.ensures.kinds c.requires.free) none in
      let told : c.eq.result ≡ true = c.eq.ensures ∙ ap (λ k. sameb the_type k OutOfMemory) (c.kind.ensures ∙ memory) in
      let bad : false ≡ true = sym c.if-eq.false ∙ told in
      cc;
  rows = tt;
}
