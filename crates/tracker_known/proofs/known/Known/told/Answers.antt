use Rattle.std.proofs.Common.{Result, Ok, Err, IfOk}
use Rattle.tracker_known.proofs.KnownLemmas.{full_of}
use Rattle.tracker_known.proofs.known.Known.told.Goals as goal

if_ok : {A E : Type 0} (P Q : A → Type 0) → ((x : A) → P x → Q x) → (r : Result A E) → IfOk r P → IfOk r Q
if_ok P Q f (Ok x) p = f x p
if_ok P Q f (Err e) p = tt

pub returns : goal.returns
returns c = if_ok _ _ (λ t full h known. full_of c.args.form h c.args.self.now t full known) c.told.result c.told.ensures.full
