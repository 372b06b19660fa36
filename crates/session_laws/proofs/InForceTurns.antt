-- Over whole runs what is in force is what the turns say.
use Rattle.std.proofs.Common.{◌≡◌, ◌||◌, ℕ, Bool, true, false, not, cond, List, [], ◌∷◌, ◌++◌, None, Result, Ok, Err, refl, sym, ◌∙◌, ap, subst, append-nil, append_assoc}
use Rattle.std.specs.List.{filter, list_any}
use Rattle.std.proofs.lemmas.List.Elements.{filter-append}
use Rattle.presence_journal.specs.declared.rows.Item.{Item}
use Rattle.channel_rules.specs.declared.refusal.Refusal.{Refusal}
use Rattle.channel_rules.specs.Delivering.{then_told, then_take, delivers, delivery}
use Rattle.channel_rules.specs.InForce.{Joined, InForce}
use Rattle.channel_rules.specs.Rules.{End, answers}
use Rattle.channel_rules.specs.Said.{Said}
use Rattle.channel_rules.specs.Script.{Script}
use Rattle.session_laws.specs.Keeping.{fresh}
use Rattle.session_laws.specs.Laws.{InForceByTurns, OkJoinsAreGiven}
use Rattle.session_laws.specs.Turns.{Turn, heard, served, refused, closes, joined_by, stays_joined, in_force, Turned, AllTurned}
use Rattle.session_laws.proofs.TurnSteps.{Answered, Same, Keeps, leads_to, unsaid_leads, all_kept, Ordered, none_ordered, message_leaves, join_given}

-- ---- a delivery leaves the session as it was

told_keeps : (s : InForce) (j : Joined) (before : List Said) (next : List Said → Script End) → ((said : List Said) → Keeps s (next said)) → (a : Result (List Item) Refusal) → Keeps s (then_told j before next a)
told_keeps s j before next k (Ok items) = k _
told_keeps s j before next k (Err e) = unsaid_leads (Same s) None e

take_keeps : (max : ℕ) (s : InForce) (j : Joined) (before : List Said) (next : List Said → Script End) → ((said : List Said) → Keeps s (next said)) → (a : Result Bool Refusal) → Keeps s (then_take max j before next a)
take_keeps max s j before next k (Ok true) = λ a. told_keeps s j before next k a
take_keeps max s j before next k (Ok false) = k before
take_keeps max s j before next k (Err e) = unsaid_leads (Same s) None e

delivers_keep : (max : ℕ) (s : InForce) (js : List Joined) (before : List Said) → Keeps s (delivers max s js before)
delivers_keep max s [] before = refl
delivers_keep max s (j ∷ js) before = λ a. take_keeps max s j before (delivers max s js) (delivers_keep max s js) a

-- ---- a turn

-- The turn leaves those that it doesn't ask out, and then its own join.
record LeftBy (routes : List (List ℕ × ℕ)) (s : InForce) (x : Turn) (t : InForce) : Type 0 where
  joined : t.joined ≡ filter (λ j. not (closes x j.topic)) s.joined ++ joined_by routes x
  ordered : Ordered routes t.joined

module _ (routes : List (List ℕ × ℕ)) (s : InForce) (st : Ordered routes s.joined) where
  unchanged : (t : InForce) → t ≡ s → t.joined ≡ filter (λ j. true) s.joined ++ []
  unchanged t e = ap (λ (x : InForce). x.joined) e ∙ (sym (all_kept s.joined) ∙ sym (append-nil (filter (λ j. true) s.joined)))

  ordered_still : (t : InForce) → t ≡ s → Ordered routes t.joined
  ordered_still t e = subst (λ (x : InForce). Ordered routes x.joined) (sym e) st

  turn_leaves : (x : Turn) (t : InForce) → Turned routes s x t → LeftBy routes s x t
  turn_leaves (heard m calls said) t h = let l = message_leaves routes m s st calls said t h in record { joined = l.joined; ordered = l.ordered }
  turn_leaves (served max calls said) t h =
      let e = leads_to (Answered (Same s)) (delivery max s) (delivers_keep max s s.joined []) calls (answers said t) h in
      record { joined = unchanged t e; ordered = ordered_still t e }
  turn_leaves refused t e = record { joined = unchanged t e; ordered = ordered_still t e }

-- ---- runs

-- what passes the one test and then the other
filter_both : (p q : Joined → Bool) (js : List Joined) → filter (λ j. not (q j)) (filter (λ j. not (p j)) js) ≡ filter (λ j. not (p j || q j)) js
filter_both p q [] = refl
filter_both p q (j ∷ js) = go (p j) (filter_both p q js)
  where
    go : (b : Bool) → filter (λ k. not (q k)) (filter (λ k. not (p k)) js) ≡ filter (λ k. not (p k || q k)) js
        → filter (λ k. not (q k)) (cond (not b) (j ∷ filter (λ k. not (p k)) js) (filter (λ k. not (p k)) js)) ≡ cond (not (b || q j)) (j ∷ filter (λ k. not (p k || q k)) js) (filter (λ k. not (p k || q k)) js)
    go true rest = rest
    go false rest = ap (λ ks. cond (not (q j)) (j ∷ ks) ks) rest

in_force_from : (routes : List (List ℕ × ℕ)) (turns : List Turn) (s t : InForce) → Ordered routes s.joined → AllTurned routes s turns t → t.joined ≡ filter (stays_joined turns) s.joined ++ in_force routes turns
in_force_from routes [] s t st e = unchanged routes s st t e
in_force_from routes (x ∷ later) s t st h =
    in_force_from routes later h.0 t l.ordered h.2
    ∙ (ap (λ js. js ++ in_force routes later)
    (ap (filter (stays_joined later)) l.joined
    ∙ (filter-append (stays_joined later) (filter (λ j. not (closes x j.topic)) s.joined) (joined_by routes x)
    ∙ ap (λ js. js ++ filter (stays_joined later) (joined_by routes x))
    (filter_both (λ j. closes x j.topic) (λ j. list_any (λ y. closes y j.topic) later) s.joined)))
    ∙ append_assoc (filter (stays_joined (x ∷ later)) s.joined) (filter (stays_joined later) (joined_by routes x)) (in_force routes later))
  where
    l : LeftBy routes s x h.0
    l = turn_leaves routes s st x h.0 h.1

pub in_force_by_turns : InForceByTurns
in_force_by_turns routes pid turns s h = in_force_from routes turns (fresh pid) s (none_ordered routes) h

pub ok_joins_are_given : OkJoinsAreGiven
ok_joins_are_given routes s m calls said t h e = join_given routes m s calls said t h e
