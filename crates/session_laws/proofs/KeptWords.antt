-- What a client makes of messages is what it makes of those without what a fetch adds.
use Rattle.std.proofs.Common.{◌≡◌, ℕ, Bool, true, false, cond, List, [], ◌∷◌, map, refl, sym, ◌∙◌, ap, inl}
use Rattle.std.specs.List.{filter}
use Rattle.serde_json.specs.Data.{Members}
use Rattle.presence_base.specs.Order.{same_text}
use Rattle.presence_base.specs.declared.dots.Dot.{Dot}
use Rattle.presence_base.specs.declared.row.Row.{Row}
use Rattle.phx_message.specs.Making.{ok_reply}
use Rattle.phx_message.specs.declared.message.Message.{Message}
use Rattle.presence_journal.specs.declared.rows.Item.{Item}
use Rattle.presence_journal.specs.declared.rows.Item.TheVariants as items_are
use Rattle.presence_metas.specs.Frames.{frame_in}
use Rattle.presence_metas.specs.Listing.{Listing}
use Rattle.presence_metas.specs.Rows.{listing_of}
use Rattle.presence_metas.specs.Values.{state_of}
use Rattle.presence_metas.proofs.ReadBack.{states_read_back, diffs_read_back}
use Rattle.hook_registry.specs.Rendered.{Extras, Fetched}
use Rattle.hook_registry.proofs.RenderedBack.{rendered_states_read_back, rendered_diffs_read_back}
use Rattle.channel_rules.specs.Frames.{message_of}
use Rattle.channel_rules.specs.InForce.{Joined}
use Rattle.channel_rules.specs.Said.{Said, message, listed, told, plainly, TellsItem, Tells, Worded, EachBy}
use Rattle.session_laws.specs.Keeping.{TellsAnyhow, on_topic_of, client_lists}
use Rattle.session_laws.specs.Mirrors.{after_reading, mirror_from}
use Rattle.session_laws.proofs.KeptAsks.{all_of}
use Rattle.session_laws.proofs.KeptRules.{answer_no_frame}

-- of the same topic, and read as the same frame
record Alike (m x : Message) : Type 0 where
  topic : m.topic ≡ x.topic
  frame : frame_in m ≡ frame_in x

alike : (m x : Message) → m ≡ x → Alike m x
alike m x e = record { topic = ap (λ (y : Message). y.topic) e; frame = ap frame_in e }

state_alike : (answers : List ℕ → Members → Type 0) (j : Joined) (rows : List (Dot × Row)) (m : Message) → TellsItem answers j (items_are.State rows) m → Alike m (message_of j.join_ref j.topic (items_are.State rows))
state_alike answers j rows m h = record {
  topic = ap (λ (y : Message). y.topic) h.2;
  frame =
      rendered_states_read_back m h.1.0 rows (ap (λ (y : Message). y.event) h.2) (ap (λ (y : Message). y.payload) h.2 ∙ h.1.2)
      ∙ sym (states_read_back (message_of j.join_ref j.topic (items_are.State rows)) rows refl refl);
}

item_alike : (answers : List ℕ → Members → Type 0) (j : Joined) (i : Item) (m : Message) → TellsItem answers j i m → Alike m (message_of j.join_ref j.topic i)
item_alike answers j (items_are.State rows) m h = state_alike answers j rows m h
item_alike answers j (items_are.Diff d) m h = record {
  topic = ap (λ (y : Message). y.topic) h.2;
  frame =
      rendered_diffs_read_back m h.1.0 h.1.1 d.joins d.leaves (ap (λ (y : Message). y.event) h.2) (ap (λ (y : Message). y.payload) h.2 ∙ h.1.4)
      ∙ sym (diffs_read_back (message_of j.join_ref j.topic (items_are.Diff d)) d.joins d.leaves refl refl);
}
item_alike answers j (items_are.Shout payload) m h = alike m _ h

said_alike : (fetched : ℕ → List ℕ → List ℕ → Members → Type 0) (x : Said) (m : Message) → Tells fetched x m → Alike m (plainly x)
said_alike fetched (message n) m h = alike m n h
said_alike fetched (listed kind r n rows) m h = record {
  topic = ap (λ (y : Message). y.topic) h.2;
  frame = answer_no_frame m (inl (ap (λ (y : Message). y.event) h.2)) ∙ sym (answer_no_frame (ok_reply r n.msg_ref n.topic (state_of rows)) (inl refl));
}
said_alike fetched (told j i) m h = item_alike (fetched j.kind j.topic) j i m h

pub same_lists : (fetched : ℕ → List ℕ → List ℕ → Members → Type 0) (t : List ℕ) (said : List Said) (ms : List Message) (ls : Listing) → EachBy (Tells fetched) said ms → client_lists t ls (map plainly said) ≡ client_lists t ls ms
same_lists fetched t [] [] ls h = refl
same_lists fetched t [] (m ∷ ms) ls h = absurd h
same_lists fetched t (x ∷ said) [] ls h = absurd h
same_lists fetched t (x ∷ said) (m ∷ ms) ls h =
    ap (λ u. mirror_from ls (cond (same_text u t) (plainly x ∷ filter (on_topic_of t) (map plainly said)) (filter (on_topic_of t) (map plainly said)))) (sym like.topic)
    ∙ go (same_text m.topic t) (λ ks. same_lists fetched t said ms ks h.1)
  where
    like : Alike m (plainly x)
    like = said_alike fetched x m h.0

    go : (b : Bool) → ((ks : Listing) → client_lists t ks (map plainly said) ≡ client_lists t ks ms)
        → mirror_from ls (cond b (plainly x ∷ filter (on_topic_of t) (map plainly said)) (filter (on_topic_of t) (map plainly said))) ≡ mirror_from ls (cond b (m ∷ filter (on_topic_of t) ms) (filter (on_topic_of t) ms))
    go true rest = ap (λ r. mirror_from (after_reading ls r) (filter (on_topic_of t) (map plainly said))) (sym like.frame) ∙ rest (after_reading ls (frame_in m))
    go false rest = rest ls

-- ---- whatever is fetched

abbrev Anything : List ℕ → Members → Type 0
Anything key extra = Unit {0}

module _ (answers : List ℕ → Members → Type 0) where
  fetched_anyhow : (extras : Extras) (ls : Listing) → Fetched answers extras ls → Fetched Anything extras ls
  fetched_anyhow extras ls h = all_of _ _ (λ e f. (f.0, tt)) ls h

  item_anyhow : (j : Joined) (i : Item) (m : Message) → TellsItem answers j i m → TellsItem Anything j i m
  item_anyhow j (items_are.State rows) m h = (h.0, (h.1.0, fetched_anyhow h.1.0 (listing_of rows) h.1.1, h.1.2), h.2)
  item_anyhow j (items_are.Diff d) m h = (h.0, (h.1.0, h.1.1, fetched_anyhow h.1.0 (listing_of d.joins) h.1.2, fetched_anyhow h.1.1 (listing_of d.leaves) h.1.3, h.1.4), h.2)
  item_anyhow j (items_are.Shout payload) m h = h

module _ (fetched : ℕ → List ℕ → List ℕ → Members → Type 0) (plain : Bool) where
  told_anyhow : (x : Said) (m : Message) → Tells fetched x m → TellsAnyhow x m
  told_anyhow (message n) m h = h
  told_anyhow (listed kind r n rows) m h = (h.0, (h.1.0, fetched_anyhow (fetched kind n.topic) h.1.0 (listing_of rows) h.1.1, h.1.2), h.2)
  told_anyhow (told j i) m h = item_anyhow (fetched j.kind j.topic) j i m h

  -- messages that tell what was said for the answers of one fetch
  pub worded_anyhow : (said : List Said) (ms : List Message) → EachBy (Worded fetched plain) said ms → EachBy TellsAnyhow said ms
  worded_anyhow [] [] h = tt
  worded_anyhow [] (m ∷ ms) h = absurd h
  worded_anyhow (x ∷ said) [] h = absurd h
  worded_anyhow (x ∷ said) (m ∷ ms) h = (told_anyhow x m h.0.0, worded_anyhow said ms h.1)

  -- they are the plain ones where nothing is ever added
  pub worded_plainly : plain ≡ true → (said : List Said) (ms : List Message) → EachBy (Worded fetched plain) said ms → ms ≡ map plainly said
  worded_plainly is [] [] h = refl
  worded_plainly is [] (m ∷ ms) h = absurd h
  worded_plainly is (x ∷ said) [] h = absurd h
  worded_plainly is (x ∷ said) (m ∷ ms) h = λ i. h.0.1 is i ∷ worded_plainly is said ms h.1 i
