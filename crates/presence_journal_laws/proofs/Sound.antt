-- A legal history can begin with a checkpoint, and entries can follow it.
use Rattle.std.proofs.Common.{◌≡◌, ◌+◌, ◌^◌, refl, ◌∙◌, arith}
use Rattle.std.specs.Prelude.{nat_le}
use Rattle.std.proofs.lemmas.Bool.{or_from, lt-leb}
use Rattle.presence_journal.specs.declared.journal.TheConstants.{MAX_ENTRIES}
use Rattle.presence_journal.specs.declared.entry.Start.{Start}
use Rattle.presence_journal.specs.History.{Begin, entry_count, last_number}
use Rattle.presence_journal_cuts.proofs.Sound.{is_sound}
use Rattle.presence_journal_laws.specs.Laws.{BeginsLegal, BeginsWithRoom}
use Rattle.presence_journal_laws.proofs.Beginnings.{number-begin}

pub begins_legal : BeginsLegal
begins_legal = is_sound

-- one entry stands there, and its number is not the last one
count_of_one : (s : Start) → entry_count (Begin s) ≡ 1
unfolding entry_count
count_of_one s = refl

pub begins_with_room : BeginsWithRoom
begins_with_room h s c low =
    let last : last_number (Begin s) ≡ last_number h + 1 = number-begin s ∙ c.stands.number in
    or_from (nat_le MAX_ENTRIES (entry_count (Begin s))) (nat_le (2 ^ 62) (last_number (Begin s)))
    (lt-leb MAX_ENTRIES (entry_count (Begin s)) (omega (arith, count_of_one s)))
    (lt-leb (2 ^ 62) (last_number (Begin s)) (omega (arith, last, low)))
