-- A checkpoint says what the history says: what is live, removed, shown and present.
use Rattle.std.proofs.Common.{◌∙◌}
use Rattle.presence_journal.specs.History.{Begin}
use Rattle.presence_journal_laws.specs.Laws.{KeepsShown, KeepsLive, KeepsRemoved, LiveIsKept, KeepsPresent, KeepsListed}
use Rattle.presence_journal_laws.proofs.Beginnings.{live-begin}
use Rattle.presence_journal_laws.proofs.AlikeRows.{live_same, shown_same, present_same, listed_same, removed_same}
use Rattle.presence_journal_laws.proofs.Covered.{begins_alike}
use Rattle.presence_journal_laws.proofs.Sound.{begins_legal}

pub keeps_shown : KeepsShown
keeps_shown h s c = shown_same (Begin s) h (begins_alike h s c)

pub keeps_live : KeepsLive
keeps_live h s c = live_same (Begin s) h (begins_alike h s c)

pub keeps_removed : KeepsRemoved
keeps_removed h s c = removed_same (Begin s) h (begins_alike h s c) (begins_legal h s c) c.legal

pub live_is_kept : LiveIsKept
live_is_kept h s c d = live-begin s d ∙ c.stands.rows d

pub keeps_present : KeepsPresent
keeps_present h s c = present_same (Begin s) h (begins_alike h s c)

pub keeps_listed : KeepsListed
keeps_listed h s c = listed_same (Begin s) h (begins_alike h s c)
