-- Messages of a session's own tell themselves, and what is said one after the other is told so.
use Rattle.std.proofs.Common.{◌≡◌, ℕ, List, [], ◌∷◌, ◌++◌, map, Bool, false, Result, Ok, Err, refl, sym, ap, subst, ◌∙◌, append_assoc, append-nil}
use Rattle.serde_json.specs.Data.{Members}
use Rattle.phx_message.specs.declared.message.Message.{Message}
use Rattle.channel_rules.specs.Asks.{Ask, Answer}
use Rattle.channel_rules.specs.Replies.{Acts, ActsBy, Runs, RunsBy, RepliesWith, RepliesBy, messages_of}
use Rattle.channel_rules.specs.Rules.{InForce, End}
use Rattle.channel_rules.specs.Said.{Said, message, EachBy, Worded, Writes, WritesAll, NotesAll, text_of}
use Rattle.channel_rules.specs.Script.{Script, done}
use Rattle.channel_rules.specs.declared.replies.Reply.{Reply}
use Rattle.channel_rules.specs.declared.stop.Stop.{Stop}
use Rattle.channel_rules.proofs.Once.{at_once}

module _ (fetched : ℕ → List ℕ → List ℕ → Members → Type 0) (plain : Bool) where
  pub own_words : (ms : List Message) → EachBy (Worded fetched plain) (map message ms) ms
  own_words [] = tt
  own_words (m ∷ ms) = ((refl, λ _. refl), own_words ms)

  module _ {P : Type 0} (step : P → (q : Ask) → Answer q → P → Type 0) where
    -- a rule whose reply is of its own messages
    pub acted : (rule : Script End) (old new : P) (after : InForce) (r : Result Reply Stop) → Acts step rule old new after r → ActsBy (Worded fetched plain) step rule old new after r
    acted rule old new after (Ok reply) h = record { said = map message (messages_of reply); worded = own_words (messages_of reply); acts = h }
    acted rule old new after (Err stop) h = record { said = []; worded = tt; acts = h }

    pub ran_so : (rule : InForce → Script End) (old new : P) (r : Result Reply Stop) → Runs step rule old new r → RunsBy (Worded fetched plain) step rule old new r
    ran_so rule old new r h = λ s. acted (rule s) old new s r (h s)

  pub replied_so : (end : InForce → End) (spoiled : Bool) (r : Result Reply Stop) → RepliesWith end spoiled r → RepliesBy (Worded fetched plain) end spoiled r
  replied_so end spoiled (Ok reply) h = record { said = map message (messages_of reply); worded = own_words (messages_of reply); gives = h }
  replied_so end spoiled (Err stop) h = record { said = []; worded = tt; gives = h }

  -- a rule that makes no call
  pub replied_acted : {P : Type 0} (step : P → (q : Ask) → Answer q → P → Type 0) (end : InForce → End) (s : InForce) (old : P) (r : Result Reply Stop) → RepliesWith end false r → ActsBy (Worded fetched plain) step (done (end s)) old old s r
  replied_acted step end s old r h = acted step (done (end s)) old old s r (at_once step (end s) old _ (h s))

-- ---- one after the other

pub each_more : {A B : Type 0} (R : A → B → Type 0) (xs : List A) (ys : List B) (a : A) (b : B) → EachBy R xs ys → R a b → EachBy R (xs ++ a ∷ []) (ys ++ b ∷ [])
each_more R [] [] a b h r = (r, tt)
each_more R [] (y ∷ ys) a b h r = absurd h
each_more R (x ∷ xs) [] a b h r = absurd h
each_more R (x ∷ xs) (y ∷ ys) a b h r = (h.0, each_more R xs ys a b h.1 r)

texts_more : (ms : List Message) (m : Message) → map text_of (ms ++ m ∷ []) ≡ map text_of ms ++ text_of m ∷ []
texts_more [] m = refl
texts_more (x ∷ ms) m = ap (λ ts. text_of x ∷ ts) (texts_more ms m)

pub writes_more : (W : Said → Message → Type 0) (said : List Said) (texts : List (List ℕ)) (x : Said) (t : List ℕ) → WritesAll W said texts → Writes W x t → WritesAll W (said ++ x ∷ []) (texts ++ t ∷ [])
writes_more W said texts x t h w = (h.0 ++ w.0 ∷ [], each_more W said h.0 x w.0 h.1 w.1, (λ i. h.2 i ++ w.2 i ∷ []) ∙ sym (texts_more h.0 w.0))

pub notes_more : (N : Said → List (List ℕ) → Type 0) (said : List Said) (ns : List (List ℕ)) (x : Said) (more : List (List ℕ)) → NotesAll N said ns → N x more → NotesAll N (said ++ x ∷ []) (ns ++ more)
notes_more N [] ns x more h n = (more, [], ap (λ xs. xs ++ more) h ∙ sym (append-nil more), n, refl)
notes_more N (y ∷ said) ns x more h n =
    (h.0, h.1 ++ more, ap (λ xs. xs ++ more) h.2 ∙ append_assoc h.0 h.1 more, h.3, notes_more N said h.1 x more h.4 n)

-- ---- lists of them

pub each_and : {A B : Type 0} (R : A → B → Type 0) (xs zs : List A) (ys ws : List B) → EachBy R xs ys → EachBy R zs ws → EachBy R (xs ++ zs) (ys ++ ws)
each_and R [] zs [] ws h k = k
each_and R [] zs (y ∷ ys) ws h k = absurd h
each_and R (x ∷ xs) zs [] ws h k = absurd h
each_and R (x ∷ xs) zs (y ∷ ys) ws h k = (h.0, each_and R xs zs ys ws h.1 k)

texts_and : (ms ns : List Message) → map text_of (ms ++ ns) ≡ map text_of ms ++ map text_of ns
texts_and [] ns = refl
texts_and (m ∷ ms) ns = ap (λ ts. text_of m ∷ ts) (texts_and ms ns)

pub writes_all_more : (W : Said → Message → Type 0) (xs ys : List Said) (ts us : List (List ℕ)) → WritesAll W xs ts → WritesAll W ys us → WritesAll W (xs ++ ys) (ts ++ us)
writes_all_more W xs ys ts us h k = (h.0 ++ k.0, each_and W xs ys h.0 k.0 h.1 k.1, (λ i. h.2 i ++ k.2 i) ∙ sym (texts_and h.0 k.0))

pub notes_all_more : (N : Said → List (List ℕ) → Type 0) (xs ys : List Said) (ns ms : List (List ℕ)) → NotesAll N xs ns → NotesAll N ys ms → NotesAll N (xs ++ ys) (ns ++ ms)
notes_all_more N [] ys ns ms h k = subst (λ zs. NotesAll N ys (zs ++ ms)) (sym h) k
notes_all_more N (x ∷ xs) ys ns ms h k = (h.0, h.1 ++ ms, ap (λ zs. zs ++ ms) h.2 ∙ append_assoc h.0 h.1 ms, h.3, notes_all_more N xs ys h.1 ms h.4 k)
