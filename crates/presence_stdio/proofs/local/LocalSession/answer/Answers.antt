use Rattle.std.proofs.Common.{◌≡◌, true, false}
use Rattle.presence_stdio.specs.Session.{voice_of}
use Rattle.presence_stdio.proofs.Answering.{tells_failed, tells_no_line}
use Rattle.presence_stdio.proofs.local.LocalSession.answer.Goals as goal

pub returns-then-failed-clause-answer : goal.returns-then-failed-clause-answer
returns-then-failed-clause-answer g c =
    let failed : c.args.self.now.session.failed ≡ true = cc in
    tells_failed (voice_of g.H.PresenceHooks c.args.hooks.now) c.args.self.now _ c.args.line.now _ failed c.refusing.ensures.text c.refusing.ensures.notes c.refusing.ensures.fault

pub returns-in-Err-clause-answer : goal.returns-in-Err-clause-answer
returns-in-Err-clause-answer g c =
    let works : c.args.self.now.session.failed ≡ false = cc in
    tells_no_line (voice_of g.H.PresenceHooks c.args.hooks.now) c.args.self.now _ c.args.line.now c.in-Err.fault _ works c.in-Err.ensures.fault c.refusing-in-Err.ensures.text c.refusing-in-Err.ensures.notes c.refusing-in-Err.ensures.fault
