-- A session names each topic on which a row of its own stands, whatever it is asked.
use Rattle.std.specs.Prelude.{◌≡◌, ◌^◌, ℕ, nat_le, List, true, false, None, Result}
use Rattle.phx_message.specs.declared.message.Message.{Message}
use Rattle.phx_message.specs.declared.message.MessageFault.{MessageFault}
use Rattle.presence_journal.specs.History.{History}
use Rattle.presence_journal.specs.Table.{IsLegal}
use Rattle.channel_rules.specs.InForce.{InForce}
use Rattle.channel_rules.specs.Said.{Said}
use Rattle.presence_stdio.specs.Local.{LocalStep}
use Rattle.channel_session.specs.Ran.{EndedSo}
use Rattle.channel_session.specs.Delivery.{Delivered}
use Rattle.channel_session.specs.Ending.{topics_named, EndedBy}
use Rattle.session_laws.specs.LeftBehind.{StandsOn}
use Rattle.channel_session.specs.declared.fault.SessionFault.{SessionFault}

-- Each own row of the session's number that is present in a legal history stands on a topic that the session names. (Only a
-- session that has failed names the topic of a join that was cut short.)
pub record NamesItsTopics (s : InForce) (h : History) : Type 0 where
  pub legal : IsLegal h
  pub pid : nat_le s.pid (2 ^ 62) ≡ true
  pub rows : StandsOn (topics_named s) s.pid h
  pub cut_short : s.failed ≡ false → s.cut_short ≡ None

-- so it is behind a text, however that ends
abbrev pub TextsKeepNames : Type 0
TextsKeepNames =
    (routes : List (List ℕ × ℕ)) (s after : InForce) (reading : Result Message MessageFault) (old new : History)
    (result : Result (List Said) SessionFault)
    → NamesItsTopics s old → EndedSo (LocalStep s.pid) routes s reading old new after result → NamesItsTopics after new

-- and behind a delivery
abbrev pub DeliveriesKeepNames : Type 0
DeliveriesKeepNames =
    (max : ℕ) (s after : InForce) (old new : History) (result : Result (List Said) SessionFault)
    → NamesItsTopics s old → Delivered (LocalStep s.pid) max s old new after result → NamesItsTopics after new

-- and behind an end
abbrev pub EndsKeepNames : Type 0
EndsKeepNames =
    (s after : InForce) (old new : History) (result : Result (Unit {0}) SessionFault)
    → NamesItsTopics s old → EndedBy (LocalStep s.pid) s old new after result → NamesItsTopics after new
