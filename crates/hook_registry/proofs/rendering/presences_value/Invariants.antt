use Rattle.std.proofs.Common.{map}
use Rattle.serde_json.specs.View.{members_view}
use Rattle.presence_metas.proofs.Lookups.{Rises}
use Rattle.hook_registry.specs.Rendered.{Extras, Fetched}
use Rattle.hook_registry.proofs.Choosing.{Leads, AllShort}
use Rattle.hook_registry.proofs.rendering.presences_value.Given as goal

abbrev pub invariant-loop-key : goal.invariant-loop-key
invariant-loop-key g l = record {
  keys : AllShort (map (λ e. (e.0, e.1.items)) l.key-iterator);
  rises : Rises (map (λ e. (e.0, e.1.items)) l.key-iterator);
  leads :
      (x : Extras) → Fetched (g.H.PresenceHooks.fetched l.hooks l.kind l.topic) x (map (λ e. (e.0, e.1.items)) l.key-iterator)
      → Leads (g.H.PresenceHooks.fetched l.hooks l.kind l.topic) x (members_view l.members.entries) (map (λ e. (e.0, e.1.items)) l.key-iterator) l.presences;
}
