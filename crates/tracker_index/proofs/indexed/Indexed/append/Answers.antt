use Rattle.std.proofs.Common.{refl}
use Rattle.tracker_index.specs.declared.parts.Stage.TheVariants.{Begun}
use Rattle.tracker_index.proofs.IndexedLemmas.{begins_seen}
use Rattle.tracker_index.proofs.indexed.Indexed.append.Goals as goal

pub invariant_of-self-2 : goal.invariant_of-self-2
invariant_of-self-2 c =
    let x = c.self.inside in
    begins_seen c.args.self.now x.journal c.append.new.self x.parts (record { known = x.parts.known; shown = x.parts.shown; feeds = x.parts.feeds; untold = x.parts.untold; stage = Begun }) c.args.step c.args.seat c.args.outcome
    c.self.view_is c.requires.ready c.self.invariant c.requires.legal c.requires.room c.requires.step c.in_ok-append.ensures.ok refl
