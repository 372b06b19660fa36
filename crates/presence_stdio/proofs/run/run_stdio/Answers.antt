use Rattle.std.proofs.Common.{subst}
use Rattle.presence_stdio.specs.declared.lines.TheConstants.{MAX_LINES}
use Rattle.presence_stdio.specs.Run.{Tells}
use Rattle.presence_stdio.specs.Outlets.{held}
use Rattle.presence_stdio.specs.Session.{start, voice_of}
use Rattle.presence_stdio.proofs.Turns.{tells_none}
use Rattle.presence_stdio.proofs.Inputs.{told_input}
use Rattle.presence_stdio.proofs.run.run_stdio.Goals as goal

pub returns-in-Err-clause-lines : goal.returns-in-Err-clause-lines
returns-in-Err-clause-lines g c =
    tells_none (voice_of g.H.PresenceHooks c.args.hooks.now) MAX_LINES (start c.args.options.now) (g.R.Read.remaining c.args.reader.now) (held g.W.Write.contents g.N.Write.contents c.args.out.now)

pub returns-in-Err-clause-input : goal.returns-in-Err-clause-input
returns-in-Err-clause-input g c =
    let v = voice_of g.H.PresenceHooks c.args.hooks.now in
    let old = held g.W.Write.contents g.N.Write.contents c.args.out.now in
    told_input v MAX_LINES (start c.args.options.now) (g.R.Read.remaining c.args.reader.now) (g.R.Read.remaining c.args.reader.now) old old _ (tells_none v MAX_LINES (start c.args.options.now) (g.R.Read.remaining c.args.reader.now) old)

pub returns-clause-input : goal.returns-clause-input
returns-clause-input g c =
    let v = voice_of g.H.PresenceHooks c.args.hooks.now in
    let before = g.R.Read.remaining c.args.reader.now in
    let left = g.R.Read.remaining c.run_lines.new.reader in
    let old = held g.W.Write.contents g.N.Write.contents c.args.out.now in
    let new = held g.W.Write.contents g.N.Write.contents c.run_lines.new.out in
    told_input v MAX_LINES (start c.args.options.now) before left old new c.run_lines.result (subst (λ s. Tells v MAX_LINES s before left old new c.run_lines.result) c.in-Ok.ensures c.run_lines.ensures)
