-- Messages to an earlier join of their topic.
use Rattle.std.proofs.Common.{◌≡◌, ◌&&◌, not, ℕ, Bool, true, false, List, [], ◌∷◌, length, Option, Some, None, refl}
use Rattle.phx_message.specs.declared.message.Message.{Message}
use Rattle.channel_rules.specs.InForce.{InForce, Joined, find}
use Rattle.channel_rules.specs.Rules.{by_kind, is_phoenix, kind_of, route_of, rules, says}
use Rattle.channel_rules.specs.Script.{done}
use Rattle.channel_rules.specs.declared.kind.EventKind.{EventKind}
use Rattle.channel_rules.specs.declared.kind.EventKind.TheVariants as kinds_are
use Rattle.client_settings.specs.Meaning.{is_join, is_late, is_under_another, late_reply, same_ref}
use Rattle.client_settings.specs.declared.settings.Settings.{Settings}

-- ---- as on a topic that isn't joined

other_first : (a b : Bool) → (not a && not b) ≡ true → a ≡ false
other_first true b e = absurd (cc)
other_first false b e = refl

no_join : (matches : Bool) (j : Option Joined) (m : Message) → (matches && is_under_another j m) ≡ true → is_join (kind_of m.event) ≡ false
no_join false j m e = absurd (cc)
no_join true None m e = absurd (cc)
no_join true (Some j) m e = other_first (is_join (kind_of m.event)) (same_ref m.join_ref j.join_ref) e

unjoined : (s : InForce) (m : Message) (route : Option ℕ) (count : ℕ) (kind : EventKind) → is_join kind ≡ false
    → by_kind false route count s None m kind ≡ done (says (late_reply kind m ∷ []) s)
unjoined s m route count kinds_are.Heartbeat e = refl
unjoined s m route count kinds_are.Join e = absurd (cc)
unjoined s m route count kinds_are.Leave e = refl
unjoined s m route count (kinds_are.Topic event) e = refl

pub late_unjoined : (given : Settings) (s : InForce) (m : Message) → is_late given s m ≡ true → is_phoenix m.topic ≡ false → (routes : List (List ℕ × ℕ)) (other : InForce)
    → find m.topic other.joined ≡ None → rules routes other m ≡ done (says (late_reply (kind_of m.event) m ∷ []) other)
unfolding rules
late_unjoined given s m late phoenix routes other none =
    rw (phoenix, none) (unjoined other m (route_of false routes m.topic) (length other.joined) (kind_of m.event) (no_join given.match_joins (find m.topic s.joined) m late))

-- ---- under the present join's reference

never : (a b : Bool) → (a && (not b && not true)) ≡ false
never true true = refl
never true false = refl
never false b = refl

pub present_stays : (given : Settings) (s : InForce) (m : Message) (j : Joined) → find m.topic s.joined ≡ Some j → same_ref m.join_ref j.join_ref ≡ true
    → is_late given s m ≡ false
present_stays given s m j present same = rw (present, same) (never given.match_joins (is_join (kind_of m.event)))
