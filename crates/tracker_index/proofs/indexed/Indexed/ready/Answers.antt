use Rattle.presence_journal.specs.History.{start_of}
use Rattle.tracker_index.proofs.IndexedLemmas.{can_go_on, gone_on}
use Rattle.tracker_index.proofs.indexed.Indexed.ready.Goals as goal

pub go_on-requires : goal.go_on-requires
go_on-requires c =
    let x = c.self.inside in
    can_go_on (start_of x.journal) c.entries.result.now x.journal c.in-Some.entry.now x.parts c.entries.ensures.history c.in-Some.ensures.value c.self.invariant

pub invariant_of-self : goal.invariant_of-self
invariant_of-self c =
    let x = c.self.inside in
    gone_on (start_of x.journal) c.entries.result.now x.journal c.in-Some.entry.now x.parts c.go_on.new.self c.entries.ensures.history c.in-Some.ensures.value c.go_on.ensures.kept c.self.invariant
