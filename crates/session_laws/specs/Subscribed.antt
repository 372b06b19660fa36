-- A session knows each subscriber that it made, whatever it is asked.
use Rattle.std.specs.Prelude.{◌≡◌, ℕ, List, Bool, true, ◌&&◌, ◌||◌, nat_eq, Result}
use Rattle.std.specs.List.{list_any}
use Rattle.phx_message.specs.declared.message.Message.{Message}
use Rattle.phx_message.specs.declared.message.MessageFault.{MessageFault}
use Rattle.presence_journal.specs.History.{History}
use Rattle.tracker_shard.specs.declared.shard.Sub.{Sub}
use Rattle.tracker_shard.specs.Steps.{is_found}
use Rattle.channel_rules.specs.InForce.{Joined, InForce}
use Rattle.channel_rules.specs.Said.{Said}
use Rattle.presence_stdio.specs.Local.{LocalStep}
use Rattle.channel_session.specs.Ran.{EndedSo}
use Rattle.channel_session.specs.Delivery.{Delivered}
use Rattle.channel_session.specs.Ending.{EndedBy}
use Rattle.channel_session.specs.declared.fault.SessionFault.{SessionFault}

abbrev pub same_sub : Sub → Sub → Bool
same_sub x y = nat_eq x.slot y.slot && nat_eq x.number y.number

-- it is the subscriber of one of these joins
abbrev pub is_joined : Sub → List Joined → Bool
is_joined sub js = list_any (λ j. same_sub sub j.sub) js

-- it is one of the others, or that of a topic in force
abbrev pub is_known : (Sub → Bool) → InForce → Sub → Bool
is_known others s sub = others sub || is_joined sub s.joined

-- Each subscriber that stands in a history is one of the others, or that of a topic in force.
abbrev pub KnowsItsSubs : (Sub → Bool) → InForce → History → Type 0
KnowsItsSubs others s h = (sub : Sub) → is_found h sub.slot sub.number ≡ true → is_known others s sub ≡ true

-- so it is behind a text, however that ends
abbrev pub TextsKeepSubs : Type 0
TextsKeepSubs =
    (others : Sub → Bool) (routes : List (List ℕ × ℕ)) (s after : InForce) (reading : Result Message MessageFault)
    (old new : History) (result : Result (List Said) SessionFault)
    → KnowsItsSubs others s old → EndedSo (LocalStep s.pid) routes s reading old new after result
    → KnowsItsSubs others after new

-- and behind a delivery
abbrev pub DeliveriesKeepSubs : Type 0
DeliveriesKeepSubs =
    (others : Sub → Bool) (max : ℕ) (s after : InForce) (old new : History) (result : Result (List Said) SessionFault)
    → KnowsItsSubs others s old → Delivered (LocalStep s.pid) max s old new after result → KnowsItsSubs others after new

-- and behind an end
abbrev pub EndsKeepSubs : Type 0
EndsKeepSubs =
    (others : Sub → Bool) (s after : InForce) (old new : History) (result : Result (Unit {0}) SessionFault)
    → KnowsItsSubs others s old → EndedBy (LocalStep s.pid) s old new after result → KnowsItsSubs others after new
