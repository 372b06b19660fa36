use Rattle.std.proofs.Common.{Result, Ok, Err, IfOk, subst}
use Rattle.orswot_core.specs.Full.{IsFullIn}
use Rattle.orswot_core.proofs.OneFullFacts.{covers_full, rows_full}
use Rattle.orswot_core.proofs.set.Orswot.told.Goals as goal

if_ok : {A E : Type 0} (P Q : A → Type 0) → ((x : A) → P x → Q x) → (r : Result A E) → IfOk r P → IfOk r Q
if_ok P Q f (Ok x) h = f x h
if_ok P Q f (Err e) h = tt

pub returns-clause-full : goal.returns-clause-full
returns-clause-full c = if_ok _ _ (λ t h. subst (λ s. IsFullIn c.args.form s t) c.self.view_is h) c.full_told.result c.full_told.ensures

pub returns-clause-covers : goal.returns-clause-covers
returns-clause-covers c = if_ok _ _ (λ t h d. covers_full c.args.form c.args.self.now t (subst (λ s. IsFullIn c.args.form s t) c.self.view_is h) d) c.full_told.result c.full_told.ensures

pub returns-clause-rows : goal.returns-clause-rows
returns-clause-rows c = if_ok _ _ (λ t h d. rows_full c.args.form c.args.self.now t (subst (λ s. IsFullIn c.args.form s t) c.self.view_is h) d) c.full_told.result c.full_told.ensures
