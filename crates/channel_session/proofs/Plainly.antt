-- Where nothing is added to rows, the message that tells them plainly tells them.
use Rattle.std.proofs.Common.{◌≡◌, ℕ, List, Bool, true, Option, Result, Ok, Err, IfOk, IfErr, codes, refl, sym, subst, ◌∙◌}
use Rattle.std.specs.declared.alloc.AllocError.{AllocError}
use Rattle.serde_json.specs.Data.{Data, Members, no_members}
use Rattle.presence_base.specs.declared.dots.Dot.{Dot}
use Rattle.presence_base.specs.declared.row.Row.{Row}
use Rattle.phx_message.specs.declared.message.Message.{Message}
use Rattle.phx_message.specs.declared.message.MsgRef.{MsgRef}
use Rattle.phx_message.specs.Making.{ok_reply, push_of, broadcast_of}
use Rattle.presence_journal.specs.declared.RowDiff.{RowDiff}
use Rattle.presence_journal.specs.declared.Item.{Item}
use Rattle.presence_journal.specs.declared.Item.TheVariants as items_are
use Rattle.presence_metas.specs.Rows.{listing_of}
use Rattle.presence_metas.specs.Values.{state_of, diff_of}
use Rattle.hook_registry.proofs.Choosing.{plain_fetched, plain_state}
use Rattle.channel_rules.specs.InForce.{Joined}
use Rattle.channel_rules.specs.Outcome.{CanWant, Stops}
use Rattle.channel_rules.specs.Replies.{RepliesBy, messages_of}
use Rattle.channel_rules.specs.InForce.{InForce}
use Rattle.channel_rules.specs.Rules.{End, answers}
use Rattle.channel_rules.specs.Said.{Said, listed, told, EachBy, Worded, Writes, text_of}
use Rattle.channel_rules.specs.declared.replies.Reply.{Reply}
use Rattle.channel_rules.specs.declared.stop.Stop.{Stop}
use Rattle.channel_rules.specs.declared.stop.StopKind.TheVariants.{OutOfMemory}

module _ (fetched : ℕ → List ℕ → List ℕ → Members → Type 0) (plain : Bool) where
  pub state_plainly : (j : Joined) (rows : List (Dot × Row)) → ((k : List ℕ) → fetched j.kind j.topic k no_members)
      → (text : List ℕ) → text ≡ text_of (push_of j.join_ref j.topic (codes "presence_state") (state_of rows)) → Writes (Worded fetched plain) (told j (items_are.State rows)) text
  state_plainly j rows nothing text e =
      (push_of j.join_ref j.topic (codes "presence_state") (state_of rows), ((state_of rows, plain_state (fetched j.kind j.topic) nothing rows (state_of rows) refl, refl), λ _. refl), e)

  pub diff_plainly : (j : Joined) (d : RowDiff) → ((k : List ℕ) → fetched j.kind j.topic k no_members)
      → (text : List ℕ) → text ≡ text_of (broadcast_of j.topic (codes "presence_diff") (diff_of d.joins d.leaves)) → Writes (Worded fetched plain) (told j (items_are.Diff d)) text
  diff_plainly j d nothing text e = (
    broadcast_of j.topic (codes "presence_diff") (diff_of d.joins d.leaves),
    ((diff_of d.joins d.leaves, ((λ _. no_members), (λ _. no_members), plain_fetched (fetched j.kind j.topic) nothing (listing_of d.joins), plain_fetched (fetched j.kind j.topic) nothing (listing_of d.leaves), refl), refl), λ _. refl),
    e,
  )

  pub shout_plainly : (j : Joined) (item : Item) (payload : Data) → item ≡ items_are.Shout payload
      → (text : List ℕ) → text ≡ text_of (broadcast_of j.topic (codes "shout") payload) → Writes (Worded fetched plain) (told j item) text
  shout_plainly j item payload is text e =
      subst (λ z. Writes (Worded fetched plain) (told j z) text) (sym is) (broadcast_of j.topic (codes "shout") payload, (refl, λ _. refl), e)

  pub rows_plainly : (kind : ℕ) (r : Option MsgRef) (m : Message) (rows : List (Dot × Row)) → ((k : List ℕ) → fetched kind m.topic k no_members)
      → (x : Message) → x ≡ ok_reply r m.msg_ref m.topic (state_of rows) → Worded fetched plain (listed kind r m rows) x
  rows_plainly kind r m rows nothing x e = ((state_of rows, plain_state (fetched kind m.topic) nothing rows (state_of rows) refl, e), λ _. e)

-- a reply that was made after a call
pub made_after : (W : Said → Message → Type 0) (end : InForce → End) (spoiled : Bool) (said : List Said) (made : Result Reply AllocError) (r : Result Reply Stop) → IfOk made (λ x. EachBy W said (messages_of x))
    → ((s : InForce) → end s ≡ answers said s) → spoiled ≡ true → IfOk r (λ x. made ≡ Ok x) → IfErr r (λ s. (s.kind ≡ OutOfMemory) × (s.spoiled ≡ true)) → RepliesBy W end spoiled r
made_after W end spoiled said made (Ok x) w is so ok err =
    record { said = said; worded = subst (λ m. IfOk m (λ y. EachBy W said (messages_of y))) ok w; gives = is }
made_after W end spoiled said made (Err stop) w is so ok err =
    record { said = said; worded = tt; gives = λ s. (subst (λ k. Stops k (end s)) (sym err.0) (subst CanWant (sym (is s)) tt), err.1 ∙ sym so) }
