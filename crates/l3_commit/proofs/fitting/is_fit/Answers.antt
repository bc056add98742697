use Rattle.std.proofs.Common.{rules, ◌∙◌, ap, sym}
use Rattle.l3_base.specs.declared.slots.Window.{Window}
use Rattle.l3_commit.proofs.Fits.{not-both, same-settings}
use Rattle.l3_commit.proofs.fitting.is_fit.Goals as goal

pub returns-then-not-has_spectra-clause-fit : goal.returns-then-not-has_spectra-clause-fit
returns-then-not-has_spectra-clause-fit c = λ is. cc

pub returns-then-not-has_spectra-clause-unfit : goal.returns-then-not-has_spectra-clause-unfit
returns-then-not-has_spectra-clause-unfit c = λ _ fit. c.has_spectra.ensures.unmade c.if-not-has_spectra.true fit.made

pub returns-then-ne-clause-fit : goal.returns-then-ne-clause-fit
returns-then-ne-clause-fit c = λ is. cc

pub returns-then-ne-2-clause-fit : goal.returns-then-ne-2-clause-fit
returns-then-ne-2-clause-fit c = λ is. cc

pub returns-then-not-are_same-clause-fit : goal.returns-then-not-are_same-clause-fit
returns-then-not-are_same-clause-fit c = λ is. cc

pub returns-then-not-are_same-clause-unfit : goal.returns-then-not-are_same-clause-unfit
returns-then-not-are_same-clause-unfit c = λ _ fit.
    not-both c.are_same.result (c.are_same.ensures.1 (ap (λ (w : Window). w.left) c.window.ensures.value ∙ fit.left_is)) c.if-not-are_same.true

pub returns-clause-fit : goal.returns-clause-fit
returns-clause-fit c = λ is. record {
  settings_are = sym c.settings.ensures.value ∙ same-settings c.settings.result.now c.args.settings (sym c.ne.ensures ∙ c.if-ne.false);
  number_is = search rules;
  left_is = sym (ap (λ (w : Window). w.left) c.window.ensures.value) ∙ c.are_same.ensures.0 c.if-not-are_same.false;
  right_is = sym (ap (λ (w : Window). w.right) c.window-2.ensures.value) ∙ c.are_same-2.ensures.0 is;
  made = c.has_spectra.ensures.made c.if-not-has_spectra.false;
}

pub returns-clause-unfit : goal.returns-clause-unfit
returns-clause-unfit c = λ not_same fit.
    not-both c.are_same-2.result (c.are_same-2.ensures.1 (ap (λ (w : Window). w.right) c.window-2.ensures.value ∙ fit.right_is)) not_same
