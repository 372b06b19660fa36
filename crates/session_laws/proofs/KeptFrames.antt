-- What the client makes of the frames of one topic's items.
use Rattle.std.proofs.Common.{◌≡◌, ℕ, Bool, true, false, cond, List, [], ◌∷◌, ◌++◌, map, Option, refl, sym, ◌∙◌, ap}
use Rattle.std.specs.List.{AllByRecursion, filter}
use Rattle.std.proofs.lemmas.List.Elements.{filter-append}
use Rattle.presence_base.specs.Order.{same_text}
use Rattle.presence_base.specs.declared.dots.Dot.{Dot}
use Rattle.presence_base.specs.declared.row.Row.{Row}
use Rattle.phx_message.specs.declared.message.Message.{Message}
use Rattle.phx_message.specs.declared.message.MsgRef.{MsgRef}
use Rattle.presence_journal.specs.declared.rows.Item.{Item}
use Rattle.presence_journal.specs.declared.rows.Item.TheVariants as items_are
use Rattle.presence_journal.specs.Queue.{Waiting, Behind, Queued, given, took}
use Rattle.presence_journal.proofs.Same.{same_text-refl}
use Rattle.presence_metas.specs.Frames.{frame_in}
use Rattle.presence_metas.specs.Listing.{Listing}
use Rattle.presence_metas.proofs.ReadBack.{states_read_back}
use Rattle.channel_rules.specs.Frames.{message_of}
use Rattle.channel_rules.specs.InForce.{Joined}
use Rattle.session_laws.specs.Keeping.{on_topic_of, client_lists}
use Rattle.session_laws.specs.Mirrors.{after_reading, mirror_from}
use Rattle.channel_rules.specs.Said.{told, plainly}
use Rattle.session_laws.proofs.KeptRules.{IsNoFrame, map-more}

pub mirror-more : (ls : Listing) (xs ys : List Message) → mirror_from ls (xs ++ ys) ≡ mirror_from (mirror_from ls xs) ys
mirror-more ls [] ys = refl
mirror-more ls (x ∷ xs) ys = mirror-more (after_reading ls (frame_in x)) xs ys

pub client-more : (t : List ℕ) (ls : Listing) (xs ys : List Message) → client_lists t ls (xs ++ ys) ≡ client_lists t (client_lists t ls xs) ys
client-more t ls xs ys =
    ap (mirror_from ls) (filter-append (on_topic_of t) xs ys)
    ∙ mirror-more ls (filter (on_topic_of t) xs) (filter (on_topic_of t) ys)

-- what is no frame of presences is passed over
pub passed_over : (t : List ℕ) (ls : Listing) (ms : List Message) → AllByRecursion IsNoFrame ms → client_lists t ls ms ≡ ls
passed_over t ls [] h = refl
passed_over t ls (m ∷ ms) h = go (same_text m.topic t) (passed_over t ls ms h.1)
  where
    go : (b : Bool) → client_lists t ls ms ≡ ls → mirror_from ls (cond b (m ∷ filter (on_topic_of t) ms) (filter (on_topic_of t) ms)) ≡ ls
    go true rest = ap (λ r. mirror_from (after_reading ls r) (filter (on_topic_of t) ms)) h.0 ∙ rest
    go false rest = rest

message_topic : (r : Option MsgRef) (t : List ℕ) (i : Item) → (message_of r t i).topic ≡ t
message_topic r t (items_are.State rows) = refl
message_topic r t (items_are.Diff d) = refl
message_topic r t (items_are.Shout p) = refl

-- the frames of a topic's items are of the topic
own_frames : (r : Option MsgRef) (t : List ℕ) (is : List Item) → filter (on_topic_of t) (map (message_of r t) is) ≡ map (message_of r t) is
own_frames r t [] = refl
own_frames r t (i ∷ is) =
    ap (λ b. cond b (message_of r t i ∷ filter (on_topic_of t) (map (message_of r t) is)) (filter (on_topic_of t) (map (message_of r t) is))) (ap (λ u. same_text u t) (message_topic r t i) ∙ same_text-refl t)
    ∙ ap (λ ms. message_of r t i ∷ ms) (own_frames r t is)

pub client_own : (r : Option MsgRef) (t : List ℕ) (ls : Listing) (is : List Item) → client_lists t ls (map (message_of r t) is) ≡ mirror_from ls (map (message_of r t) is)
client_own r t ls is = ap (mirror_from ls) (own_frames r t is)

-- and of no other
pub client_others : (r : Option MsgRef) (t u : List ℕ) (ls : Listing) (is : List Item) → same_text t u ≡ false → client_lists u ls (map (message_of r t) is) ≡ ls
client_others r t u ls [] f = refl
client_others r t u ls (i ∷ is) f =
    ap (λ b. mirror_from ls (cond b (message_of r t i ∷ filter (on_topic_of u) (map (message_of r t) is)) (filter (on_topic_of u) (map (message_of r t) is)))) (ap (λ v. same_text v u) (message_topic r t i) ∙ f)
    ∙ client_others r t u ls is f

-- a state comes in place of whatever the lists were
state_replaces : (r : Option MsgRef) (t : List ℕ) (ls ks : Listing) (rows : List (Dot × Row)) → mirror_from ls (message_of r t (items_are.State rows) ∷ []) ≡ mirror_from ks (message_of r t (items_are.State rows) ∷ [])
state_replaces r t ls ks rows =
    ap (after_reading ls) (states_read_back (message_of r t (items_are.State rows)) rows refl refl)
    ∙ sym (ap (after_reading ks) (states_read_back (message_of r t (items_are.State rows)) rows refl refl))

-- what is given leads the lists to those of all that was taken
pub given_leads : (r : Option MsgRef) (t : List ℕ) (ls : Listing) (rows : List (Dot × Row)) (max : ℕ) (before : List Item) (w : Waiting)
    → ((q : List Item) → w ≡ Queued q → ls ≡ mirror_from [] (map (message_of r t) before))
    → mirror_from ls (map (message_of r t) (given rows max w)) ≡ mirror_from [] (map (message_of r t) (took rows max w before))
given_leads r t ls rows max before Behind h = state_replaces r t ls [] rows
given_leads r t ls rows max before (Queued q) h =
    ap (λ ks. mirror_from ks (map (message_of r t) (given rows max (Queued q)))) (h q refl)
    ∙ (sym (mirror-more [] (map (message_of r t) before) (map (message_of r t) (given rows max (Queued q))))
    ∙ ap (mirror_from []) (sym (map-more (message_of r t) before (given rows max (Queued q)))))

-- items are told plainly by these messages
pub plain_items : (j : Joined) (is : List Item) → map plainly (map (told j) is) ≡ map (message_of j.join_ref j.topic) is
plain_items j [] = refl
plain_items j (i ∷ is) = ap (λ ms. message_of j.join_ref j.topic i ∷ ms) (plain_items j is)
