-- A checkpoint says what the history says: what is told in full and by a cut, and the subscribers.
use Rattle.std.proofs.Common.{[], sym, ◌∙◌, ap, append-nil}
use Rattle.presence_journal.specs.History.{Begin}
use Rattle.presence_journal.specs.Queue.{first_waiting, taken, fold}
use Rattle.presence_journal.proofs.Fold.{folds_to_present}
use Rattle.presence_journal.proofs.Topics.{topic_of-begin, queue-begin, queues_stay}
use Rattle.presence_journal_laws.specs.Laws.{KeepsSet, KeepsFull, KeepsCut, KeepsOlder, KeepsRecent, KeepsShownChains, KeepsUnusedChains, OneKept, OthersKeep, KeepsKeptDeltas, KeepsToldFrom, KeepsTopics, SubscribersAreBehind, NoneIsCurrent, CurrentAreServed, FoldsStay, OthersFallBehind, QuietStays}
use Rattle.presence_journal_cuts.proofs.KeptLemmas.{kept_other, other_kept, one_kept}
use Rattle.presence_journal_laws.proofs.AlikeTold.{turned, set_of, full_of, cut_of, recent_same, told_from_of}
use Rattle.presence_journal_laws.proofs.Covered.{begins_alike}
use Rattle.presence_journal_laws.proofs.Sound.{begins_legal}
use Rattle.presence_journal_cuts.proofs.Waiting.{none_current, current_stay}
use Rattle.presence_journal_laws.proofs.Shown.{keeps_present}

-- ---- in full

pub keeps_set : KeepsSet
keeps_set h s c x =
    let a = begins_alike h s c in (
      set_of (Begin s) h x a,
      set_of h (Begin s) x (turned (Begin s) h a),
    )

pub keeps_full : KeepsFull
keeps_full h s c form t =
    let a = begins_alike h s c in (
      full_of form (Begin s) h t a,
      full_of form h (Begin s) t (turned (Begin s) h a),
    )

-- ---- cuts

pub keeps_cut : KeepsCut
keeps_cut h s c t =
    let a = begins_alike h s c in (
      cut_of (Begin s) h t a,
      cut_of h (Begin s) t (turned (Begin s) h a),
    )

pub keeps_older : KeepsOlder
keeps_older h s c = (begins_alike h s c).older

pub keeps_recent : KeepsRecent
keeps_recent h s c = recent_same (Begin s) h (begins_alike h s c)

pub keeps_shown_chains : KeepsShownChains
keeps_shown_chains h s c = (begins_alike h s c).chains

pub keeps_unused_chains : KeepsUnusedChains
keeps_unused_chains h s c = (begins_alike h s c).unused

-- ---- kept deltas

pub one_kept_each : OneKept
one_kept_each = one_kept

pub others_keep : OthersKeep
others_keep h e uncut k = (kept_other h e k uncut, other_kept h e k uncut)

pub keeps_kept_deltas : KeepsKeptDeltas
keeps_kept_deltas h s c k = let a = begins_alike h s c in ((a.deltas k).1, (a.deltas k).0)

pub keeps_told_from : KeepsToldFrom
keeps_told_from h s c form n t =
    let a = begins_alike h s c in (
      told_from_of form (Begin s) h n t a,
      told_from_of form h (Begin s) n t (turned (Begin s) h a),
    )

-- ---- subscribers

pub keeps_topics : KeepsTopics
keeps_topics h s c n = topic_of-begin s n ∙ c.stands.topics n

pub subscribers_are_behind : SubscribersAreBehind
subscribers_are_behind h s c n t e f = queue-begin s n ∙ ap first_waiting f

pub none_is_current : NoneIsCurrent
none_is_current h s c none = none_current s none

pub current_are_served : CurrentAreServed
current_are_served h s c n f = (c.stands.current n f, queue-begin s n ∙ ap first_waiting f)

pub folds_stay : FoldsStay
folds_stay h s c n t e f =
    let stay = current_are_served h s c n f in
    let before = folds_to_present h c.legal n t e [] stay.0 in
    let after = folds_to_present (Begin s) (begins_legal h s c) n t (keeps_topics h s c n ∙ e) [] stay.1 in
    ap fold (sym (append-nil (taken (Begin s) n))) ∙ (after ∙ (keeps_present h s c t ∙ (sym before ∙ ap fold (append-nil (taken h n)))))

pub others_fall_behind : OthersFallBehind
others_fall_behind = current_stay

pub quiet_stays : QuietStays
quiet_stays h s c quiet counts = queues_stay h (Begin s) quiet (current_stay h s c counts)
