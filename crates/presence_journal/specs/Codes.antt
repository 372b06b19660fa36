-- How the logic stores a history: as its Start with its entries, the newest first.
use Rattle.std.specs.Prelude.{◌≡◌, List, [], ◌∷◌, refl}
use Rattle.std.specs.Coded.{Coded, code_by, coded_list, coded×}
use Rattle.std.proofs.Common.{ap}
use Rattle.presence_journal.specs.contracts.entry.Entry as one_entry
use Rattle.presence_journal.specs.contracts.entry.Start as beginning
use Rattle.presence_journal.specs.Steps.{Entry, Start}
use Rattle.presence_journal.specs.History.{History, Begin, Then, start_of, newest_first}

abbrev pub from_newest : Start → List Entry → History
from_newest s [] = Begin s
from_newest s (e ∷ es) = Then (from_newest s es) e

pub from_newest-newest_first : (h : History) → from_newest (start_of h) (newest_first h) ≡ h
from_newest-newest_first (Begin s) = refl
from_newest-newest_first (Then h e) = ap (λ g. Then g e) (from_newest-newest_first h)

abbrev pub parts_code : Coded (Start × List Entry)
parts_code = coded× beginning.the_row.coded (coded_list one_entry.the_row.coded)

abbrev pub history_code : Coded History
history_code = code_by (Start × List Entry) parts_code (λ h. (start_of h, newest_first h))
    (λ p. from_newest p.0 p.1) from_newest-newest_first
