-- What an entry makes of what a history says.
use Rattle.std.proofs.Common.{◌≡◌, ℕ, Bool, true, false, cond, refl, sym, ◌∙◌, ap, subst}
use Rattle.std.specs.Prelude.{max}
use Rattle.std.specs.List.{AllByRecursion}
use Rattle.presence_base.specs.declared.dots.Replica.{Replica}
use Rattle.presence_base.specs.Order.{same_replica}
use Rattle.replica_status.specs.declared.standing.Standing.{Standing}
use Rattle.replica_status.specs.declared.standing.Standing.TheVariants.{Unheard, Up, Down, Gone}
use Rattle.replica_status.specs.Table.{status_of}
use Rattle.presence_journal.specs.declared.step.Step.TheVariants as steps_are
use Rattle.presence_journal.specs.declared.step.Step.{Step}
use Rattle.presence_journal.specs.declared.entry.Outcome.{Outcome}
use Rattle.presence_journal.specs.declared.entry.Entry.{Entry}
use Rattle.presence_journal.specs.History.{History, Then, own, reborn, time, time_of, standing, standing_after, status, is_gone, last_cut, cut_after}
use Rattle.presence_journal.specs.Present.{dots_taken}
use Rattle.presence_journal.proofs.HistoryLemmas.{Kind, Adds, Replaces, Removes, Quiet, IsOwnShown, quiet_taken, own-then, own_again}
use Rattle.replica_status.specs.declared.status.Status.{Status}
use Rattle.replica_status.specs.declared.status.Status.TheVariants as status_is
use Rattle.presence_journal.specs.Table.{IsLegal, is_unheard}
use Rattle.presence_journal.specs.Walk.{is_rebirth}
use Rattle.presence_journal.proofs.Same.{same_replica-true}
use Rattle.presence_journal.proofs.Reborn.{again_of}
use Rattle.presence_journal_known.proofs.StatusLemmas.{status_up, status_other}
use Rattle.presence_journal_cuts.specs.Cuts.{chain, chain_after, older, older_after}

pub standing-then : (h : History) (e : Entry) (r : Replica) → standing (Then h e) r ≡ standing_after (own h) e.step (max (time h) (time_of e.step)) r (standing h r)
unfolding standing
standing-then h e r = refl

pub time-then : (h : History) (e : Entry) → time (Then h e) ≡ max (time h) (time_of e.step)
unfolding time
time-then h e = refl

pub cut-then : (h : History) (e : Entry) → last_cut (Then h e) ≡ cut_after e.outcome (last_cut h)
unfolding last_cut
cut-then h e = refl

pub chain-then : (h : History) (e : Entry) (c : ℕ) → chain (Then h e) c ≡ chain_after e.outcome (chain h) c
unfolding chain
chain-then h e c = refl

pub older-then : (h : History) (e : Entry) (n : ℕ) → older (Then h e) n ≡ older_after e.outcome (last_cut h) (chain h) (older h) n
unfolding older
older-then h e n = refl

-- ---- a replica that is gone stays so

only_gone : (x : Standing) → is_gone (status_of x) ≡ true → x ≡ Gone
only_gone Unheard e = absurd (cc)
only_gone (Up n) e = absurd (cc)
only_gone (Down n) e = absurd (cc)
only_gone Gone e = refl

one_of : (b : Bool) → cond b Gone Gone ≡ Gone
one_of true = refl
one_of false = refl

stays_gone : (o : Replica) (s : Step) (t : ℕ) (r : Replica) → standing_after o s t r Gone ≡ Gone
stays_gone o (steps_are.Heard replica now) t r = one_of (same_replica r replica)
stays_gone o (steps_are.PermDown replica) t r = one_of (same_replica r replica)
stays_gone o (steps_are.Rebirth i) t r = one_of (same_replica r o)
stays_gone o _ t r = refl

-- and does not become the own one
unheard_there : (x : Status) → is_unheard x ≡ true → is_gone x ≡ true → ⊥
unheard_there status_is.Unheard f g = absurd (cc)
unheard_there status_is.Up f g = absurd (cc)
unheard_there status_is.Down f g = absurd (cc)
unheard_there status_is.Gone f g = absurd (cc)

other_later : (h : History) (e : Entry) (r : Replica) → IsLegal (Then h e) → is_gone (status h r) ≡ true → same_replica r (own (Then h e)) ≡ false
other_later h e r l g = go (same_replica r (own (Then h e))) (is_rebirth e.step) refl refl
  where
    go : (b c : Bool) → same_replica r (own (Then h e)) ≡ b → is_rebirth e.step ≡ c → b ≡ false
    go false c f n = refl
    go true false f n = let w : false ≡ true = ap is_gone (status_up h r (ap (same_replica r) (sym (own-then h e n)) ∙ f)) ∙ g in absurd (cc)
    go true true f n =
        let w = again_of h e.step e.outcome n l.1 in
        let is : r ≡ reborn (own h) w.incarnation = same_replica-true r (own (Then h e)) f ∙ own_again h e w in
        absurd (unheard_there (status h r) (ap (λ q. is_unheard (status h q)) is ∙ w.unheard) g)

gone_later : (h : History) (e : Entry) (r : Replica) → IsLegal (Then h e) → is_gone (status h r) ≡ true → is_gone (status (Then h e) r) ≡ true
gone_later h e r l g = go (same_replica r (own h)) refl
  where
    go : (b : Bool) → same_replica r (own h) ≡ b → is_gone (status (Then h e) r) ≡ true
    go true f = let w : false ≡ true = ap is_gone (status_up h r f) ∙ g in absurd (cc)
    go false f =
        let gone : standing h r ≡ Gone = only_gone (standing h r) (ap is_gone (status_other h r f) ∙ g) in
        let still : standing (Then h e) r ≡ Gone =
        standing-then h e r
        ∙ (ap (standing_after (own h) e.step (max (time h) (time_of e.step)) r) gone
        ∙ stays_gone (own h) e.step (max (time h) (time_of e.step)) r) in
        ap is_gone (sym (status_other (Then h e) r (other_later h e r l g))) ∙ ap (λ x. is_gone (status_of x)) still

pub there_before : (h : History) (e : Entry) (r : Replica) → IsLegal (Then h e) → is_gone (status (Then h e) r) ≡ false → is_gone (status h r) ≡ false
there_before h e r l f = go (is_gone (status h r)) refl
  where
    go : (b : Bool) → is_gone (status h r) ≡ b → b ≡ false
    go false g = refl
    go true g = let w : false ≡ true = sym f ∙ gone_later h e r l g in absurd (cc)

-- ---- the rows that an entry takes out are own rows that are shown

pub taken_shown : (h : History) (s : Step) (o : Outcome) → Kind h s o → AllByRecursion (IsOwnShown h) (dots_taken o)
taken_shown h s o (Adds r m is l) = subst (λ (x : Outcome). AllByRecursion (IsOwnShown h) (dots_taken x)) (sym is) tt
taken_shown h s o (Replaces r old m is l w) = subst (λ (x : Outcome). AllByRecursion (IsOwnShown h) (dots_taken x)) (sym is) (w, tt)
taken_shown h s o (Removes y ys is l all q) = subst (λ (x : Outcome). AllByRecursion (IsOwnShown h) (dots_taken x)) (sym is) all
taken_shown h s o (Quiet q) = subst (AllByRecursion (IsOwnShown h)) (sym (quiet_taken o q)) tt
