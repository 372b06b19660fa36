use Rattle.std.proofs.Common.{subst}
use Rattle.orswot_core.specs.Full.{IsFullIn, Fits}
use Rattle.orswot_core.proofs.FittingFacts.{told_that_fits}
use Rattle.orswot_core.proofs.set.Orswot.fitting_told.Goals as goal

pub returns : goal.returns
returns c = told_that_fits c.args.form c.args.self.now c.in_ok-told.told c.fits_line.result
    (subst (λ s. Fits c.args.form (IsFullIn c.args.form s) c.fits_line.result) c.self.view_is c.fits_line.ensures) c.if-not-fits_line.false c.in_ok-told.ensures.full
