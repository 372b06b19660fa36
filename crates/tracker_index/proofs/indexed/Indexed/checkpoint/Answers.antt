use Rattle.std.proofs.Common.{◌<◌, ◌^◌, sym, ◌∙◌, ap, subst}
use Rattle.presence_journal.specs.History.{History, last_number}
use Rattle.tracker_index.specs.Seen.{Seen}
use Rattle.tracker_index.specs.Starting.{IsBegunAgain, LeavesQueues}
use Rattle.tracker_index.proofs.IndexedLemmas.{kept_ready}
use Rattle.tracker_index.proofs.indexed.Indexed.checkpoint.Goals as goal

pub begun_again-requires-clause-kept : goal.begun_again-requires-clause-kept
begun_again-requires-clause-kept c =
    let x = c.self.inside in
    kept_ready x.journal x.parts (ap (λ (v : Seen). v.is_ready) c.self.view_is ∙ c.requires.ready) c.self.invariant

pub begun_again-requires-clause-room : goal.begun_again-requires-clause-room
begun_again-requires-clause-room c = subst (λ (h : History). last_number h < 2 ^ 62) (sym (ap (λ (v : Seen). v.history) c.self.view_is)) c.requires.room

pub returns-clause-ok : goal.returns-clause-ok
returns-clause-ok c =
    subst (IsBegunAgain c.args.self.now.history) (sym (ap (λ (v : Seen). v.history) c.drop.view_is))
    (subst (λ (h : History). IsBegunAgain h c.in_ok-next.next.history) (ap (λ (v : Seen). v.history) c.self.view_is) c.in_ok-next.ensures.begins)

pub returns-clause-queues : goal.returns-clause-queues
returns-clause-queues c =
    subst (LeavesQueues c.args.stay c.args.self.now.history) (sym (ap (λ (v : Seen). v.history) c.drop.view_is))
    (subst (λ (h : History). LeavesQueues c.args.stay h c.in_ok-next.next.history) (ap (λ (v : Seen). v.history) c.self.view_is) c.in_ok-next.ensures.queues)
