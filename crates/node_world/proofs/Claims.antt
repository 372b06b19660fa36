-- The three claims, over every list of events.
use Rattle.std.proofs.Common.{◌≡◌, ℕ, ◌<◌, ◌^◌, max, Bool, true, false, cond, ◌||◌, nat_lt, List, [], ◌∷◌, slice_get, Option, Some, None, refl, sym, ◌∙◌, ap, subst, arith, inl, inr, is_some, option_map}
use Rattle.std.specs.Prelude.{◌⊎◌}
use Rattle.std.specs.FinMap as map
use Rattle.std.proofs.lemmas.Bool.{and_parts, or_cases, or_left, or_right, both_ways, false_from_ne_true, ltb-true}
use Rattle.std.proofs.lemmas.Option.{same_Some}
use Rattle.presence_base.specs.declared.dots.Replica.{Replica}
use Rattle.presence_base.specs.declared.dots.Dot.{Dot}
use Rattle.presence_base.specs.declared.row.Row.{Row}
use Rattle.presence_base.specs.Order.{same_replica}
use Rattle.orswot_core.specs.Telling.{ToldValue}
use Rattle.orswot_core.specs.Full.{dot_of}
use Rattle.replica_status.specs.declared.standing.Standing.{Standing}
use Rattle.replica_status.specs.declared.standing.Standing.TheVariants as standings_are
use Rattle.replica_status.specs.declared.status.Status.{Status}
use Rattle.replica_status.specs.declared.status.Status.TheVariants as status_is
use Rattle.replica_status.specs.Table.{status_of, is_unheard}
use Rattle.presence_journal.specs.declared.step.Step.TheVariants as steps_are
use Rattle.presence_journal.specs.declared.entry.Outcome.TheVariants as outcomes_are
use Rattle.presence_journal.specs.declared.step.Step.{Step}
use Rattle.presence_journal.specs.declared.entry.Outcome.{Outcome}
use Rattle.presence_journal.specs.declared.entry.Entry.{Entry}
use Rattle.presence_journal.specs.declared.entry.Start.{Start}
use Rattle.presence_journal.specs.History.{History, Begin, Then, own, count, last_number, time, time_of, standing, standing_after, status, is_up, is_gone, next_dot, dot_removed, told_removed, known, removed, row, live, shown}
use Rattle.presence_journal.specs.Table.{accepted, after, next_entry, outcome_of}
use Rattle.presence_journal.specs.Walk.{is_rebirth}
use Rattle.presence_journal.proofs.Same.{same_replica-true}
use Rattle.presence_journal.proofs.PresentLemmas.{shown-row}
use Rattle.presence_journal.proofs.HistoryLemmas.{after-accepted, known_from, up-own, own-then, own_again}
use Rattle.presence_journal.proofs.Reborn.{again_of, can_parts, reborn_can}
use Rattle.presence_journal.proofs.FoldOthers.{accepted_is, refused_stays}
use Rattle.presence_journal_cuts.specs.Checkpoints.{IsCheckpoint}
use Rattle.presence_journal_laws.proofs.Covered.{keeps_status}
use Rattle.presence_journal_laws.proofs.Shown.{keeps_removed}
use Rattle.presence_journal_laws.specs.Deeds.{Deeds, AllDeeds}
use Rattle.presence_journal_laws.specs.Truth.{IsTrueOf}
use Rattle.presence_journal_laws.proofs.Telling.{some_or_none, gone_or_live}
use Rattle.node_world.specs.declared.event.Event.{Event}
use Rattle.node_world.specs.declared.event.Event.TheVariants as events_are
use Rattle.node_world.specs.Others.{of_others}
use Rattle.node_world.specs.World.{LifeValue, WorldValue, newborn, start, life_at, stepped, with_life, acted, acts, with_told, may_ask, CutsHere, Cuts, Tells, delivered, BeginsHere, Begins, is_later, next_life, begun_anew, restarted, gone_on, goes_on_as, rebirths, Happens, Runs, with_told_if, TellsInPart}
use Rattle.node_world.specs.Claims.{AreNames, WasMade, NothingInvented, IsOver, NothingResurrected, CaughtUpIsEqual, NeverInvented, NeverResurrected, CaughtUpIsAlwaysEqual}
use Rattle.node_world.proofs.Lists.{get-put}
use Rattle.node_world.specs.TrueWorlds.{IsTrueLife, IsTrueWorld}
use Rattle.node_world.proofs.EventLaws.{IsLife, life_is, happens_true, runs_true, start_true}

pub world_true : (ns : List (List ℕ)) (es : List Event) (w : WorldValue) → AreNames ns → Runs (start ns) es w → IsTrueWorld w
world_true ns es w names f = runs_true (start ns) w es (start_true ns names) f

-- ---- nothing invented

-- a replica that made a row has a life
pub has_life : (w : WorldValue) (iw : IsTrueWorld w) (d : Dot) (r : Row) → (iw.deeds d.replica).made d.count ≡ Some r → WasMade w d r
has_life w iw d r f = go (some_or_none (map.get w.lives d.replica))
  where
    go : ((m : LifeValue) × (map.get w.lives d.replica ≡ Some m)) ⊎ (map.get w.lives d.replica ≡ None) → WasMade w d r
    go (inl p) = (p.0, p.1, (iw.is.lives d.replica p.0 p.1).made d.count ∙ f)
    go (inr n) = let g : None ≡ Some r = sym (ap (λ (x : Deeds). x.made d.count) (iw.is.fresh d.replica n)) ∙ f in absurd (cc)

invented : (w : WorldValue) → IsTrueWorld w → NothingInvented w
invented w iw q l f d r s = has_life w iw d r ((iw.is.lives q l f).is.honest.row_made d r (shown-row l.history d r s).0)

pub never_invented : NeverInvented
never_invented ns es w names f = invented w (world_true ns es w names f)

-- ---- nothing resurrected

either_gone : (b : Bool) → is_gone (status_of (cond b standings_are.Gone standings_are.Gone)) ≡ true
either_gone true = refl
either_gone false = refl

gone_standing : (o : Replica) (s : Step) (t : ℕ) (r : Replica) (x : Standing) → is_gone (status_of x) ≡ true → is_gone (status_of (standing_after o s t r x)) ≡ true
gone_standing o s t r standings_are.Unheard f = absurd (cc)
gone_standing o s t r (standings_are.Up n) f = absurd (cc)
gone_standing o s t r (standings_are.Down n) f = absurd (cc)
gone_standing o (steps_are.Heard q now) t r standings_are.Gone f = either_gone (same_replica r q)
gone_standing o (steps_are.PermDown q) t r standings_are.Gone f = either_gone (same_replica r q)
gone_standing o (steps_are.Rebirth i) t r standings_are.Gone f = either_gone (same_replica r o)
gone_standing o (steps_are.Tick now) t r standings_are.Gone f = refl
gone_standing o _ t r standings_are.Gone f = refl

status-is : (h : History) (q : Replica) → status h q ≡ cond (same_replica q (own h)) status_is.Up (status_of (standing h q))
unfolding status
status-is h q = refl

standing-is : (h : History) (e : Entry) (q : Replica) → standing (Then h e) q ≡ standing_after (own h) e.step (max (time h) (time_of e.step)) q (standing h q)
unfolding standing
standing-is h e q = refl

not_own : (h : History) (q : Replica) → is_gone (status h q) ≡ true → same_replica q (own h) ≡ false
not_own h q f = go (same_replica q (own h)) refl
  where
    go : (b : Bool) → same_replica q (own h) ≡ b → b ≡ false
    go false e = refl
    go true e = let g : false ≡ true = sym (ap is_gone (status-is h q ∙ ap (λ b. cond b status_is.Up (status_of (standing h q))) e)) ∙ f in absurd (cc)

not_both : (x : Status) → is_unheard x ≡ true → is_gone x ≡ true → ⊥
not_both status_is.Unheard u g = absurd (cc)
not_both status_is.Up u g = absurd (cc)
not_both status_is.Down u g = absurd (cc)
not_both status_is.Gone u g = absurd (cc)

-- nobody goes on as a replica that is gone
still_other : (h : History) (e : Entry) (q : Replica) → outcome_of h e.step ≡ Some e.outcome → is_gone (status h q) ≡ true → same_replica q (own (Then h e)) ≡ false
still_other h e q made f = go (is_rebirth e.step) refl
  where
    go : (b : Bool) → is_rebirth e.step ≡ b → same_replica q (own (Then h e)) ≡ false
    go false n = ap (same_replica q) (own-then h e n) ∙ not_own h q f
    go true n = at (same_replica q (own (Then h e))) refl
      where
        at : (b : Bool) → same_replica q (own (Then h e)) ≡ b → b ≡ false
        at false k = refl
        at true k =
            let w = again_of h e.step e.outcome n made in
            absurd (not_both (status h q) (ap (λ r. is_unheard (status h r)) (same_replica-true q (own (Then h e)) k ∙ own_again h e w) ∙ w.unheard) f)

gone_then : (h : History) (e : Entry) (q : Replica) → outcome_of h e.step ≡ Some e.outcome → is_gone (status h q) ≡ true → is_gone (status (Then h e) q) ≡ true
gone_then h e q made f =
    ap is_gone (status-is (Then h e) q ∙ ap (λ b. cond b status_is.Up (status_of (standing (Then h e) q))) (still_other h e q made f))
    ∙ (ap (λ x. is_gone (status_of x)) (standing-is h e q) ∙ gone_standing (own h) e.step (max (time h) (time_of e.step)) q (standing h q) before)
  where
    before : is_gone (status_of (standing h q)) ≡ true
    before = sym (ap is_gone (status-is h q ∙ ap (λ b. cond b status_is.Up (status_of (standing h q))) (not_own h q f))) ∙ f

removed_then : (h : History) (e : Entry) (d : Dot) → removed h d ≡ true → removed (Then h e) d ≡ true
unfolding removed
removed_then h e d f = or_left (removed h d) (dot_removed e.outcome (next_dot h) d || told_removed h e.step d) f

over_then : (h : History) (e : Entry) (d : Dot) → outcome_of h e.step ≡ Some e.outcome → IsOver h d → IsOver (Then h e) d
over_then h e d made f = go (or_cases (removed h d) (is_gone (status h d.replica)) f)
  where
    go : (removed h d ≡ true) ⊎ (is_gone (status h d.replica) ≡ true) → IsOver (Then h e) d
    go (inl g) = or_left (removed (Then h e) d) (is_gone (status (Then h e) d.replica)) (removed_then h e d g)
    go (inr g) = or_right (removed (Then h e) d) (is_gone (status (Then h e) d.replica)) (gone_then h e d.replica made g)

over_after : (h : History) (s : Step) (d : Dot) → IsOver h d → IsOver (after h s None) d
over_after h s d f = go (accepted h s) refl
  where
    go : (o : Option Outcome) → accepted h s ≡ o → IsOver (after h s None) d
    go None p = subst (λ g. IsOver g d) (sym (refused_stays h s None p)) f
    go (Some o) p = let a = accepted_is h s o p in subst (λ g. IsOver g d) (sym (after-accepted h s None o a.1 a.0)) (over_then h (next_entry h s None o) d a.1 f)

over_begin : (h : History) (s : Start) (d : Dot) → IsCheckpoint h s → IsOver h d → IsOver (Begin s) d
over_begin h s d c f = go (is_gone (status h d.replica)) refl (or_cases (removed h d) (is_gone (status h d.replica)) f)
  where
    now : is_gone (status h d.replica) ≡ true → IsOver (Begin s) d
    now g = or_right (removed (Begin s) d) (is_gone (status (Begin s) d.replica)) (ap is_gone (keeps_status h s c d.replica) ∙ g)

    go : (b : Bool) → is_gone (status h d.replica) ≡ b → (removed h d ≡ true) ⊎ (is_gone (status h d.replica) ≡ true) → IsOver (Begin s) d
    go true e g = now e
    go false e (inr g) = now g
    go false e (inl g) = or_left (removed (Begin s) d) (is_gone (status (Begin s) d.replica)) (keeps_removed h s c d e ∙ g)

over_shown : (h : History) (d : Dot) → IsOver h d → shown h d ≡ None
unfolding shown live
over_shown h d f = go (removed h d) (status h d.replica) f
  where
    go : (b : Bool) (s : Status) → (b || is_gone s) ≡ true → cond (is_up s) (cond b None (row h d)) None ≡ None
    go true status_is.Up g = refl
    go true status_is.Down g = refl
    go true status_is.Gone g = refl
    go true status_is.Unheard g = refl
    go false status_is.Gone g = refl
    go false status_is.Up g = absurd (cc)
    go false status_is.Down g = absurd (cc)
    go false status_is.Unheard g = absurd (cc)

-- each life goes on, and what is over in it stays over
abbrev GoesOn : Dot → WorldValue → WorldValue → Type 0
GoesOn d w v = (r : Replica) (g : LifeValue) → map.get w.lives r ≡ Some g → (h : LifeValue) × (map.get v.lives r ≡ Some h) × (IsOver g.history d → IsOver h.history d)

goes_same : (d : Dot) (w v : WorldValue) → w.lives ≡ v.lives → GoesOn d w v
goes_same d w v e r g f = (g, ap (λ m. map.get m r) (sym e) ∙ f, λ x. x)

goes_from : (d : Dot) (w u v : WorldValue) → v ≡ u → GoesOn d w u → GoesOn d w v
goes_from d w u v e = subst (GoesOn d w) (sym e)

goes_put : (d : Dot) (w v : WorldValue) (q : Replica) (g h : LifeValue) → map.get w.lives q ≡ Some g → v.lives ≡ map.insert w.lives q h → (IsOver g.history d → IsOver h.history d) → GoesOn d w v
goes_put d w v q g h at same over r k f = go (same_replica r q) refl
  where
    now : map.get v.lives r ≡ cond (same_replica r q) (Some h) (map.get w.lives r)
    now = ap (λ m. map.get m r) same ∙ get-put w.lives q h r

    go : (b : Bool) → same_replica r q ≡ b → (z : LifeValue) × (map.get v.lives r ≡ Some z) × (IsOver k.history d → IsOver z.history d)
    go true e =
        let p : g ≡ k = same_Some g k (sym at ∙ (ap (map.get w.lives) (sym (same_replica-true r q e)) ∙ f)) in
        (h, now ∙ ap (λ b. cond b (Some h) (map.get w.lives r)) e, λ x. over (subst (λ (y : LifeValue). IsOver y.history d) (sym p) x))
    go false e = (k, now ∙ (ap (λ b. cond b (Some h) (map.get w.lives r)) e ∙ f), λ x. x)

goes_acts : (d : Dot) (w : WorldValue) (n : ℕ) (s : Step) → GoesOn d w (acts w n s)
goes_acts d w n s = go (life_at w n) refl
  where
    go : (o : Option (Replica × LifeValue)) → life_at w n ≡ o → GoesOn d w (acted w s o)
    go None f = goes_same d w w refl
    go (Some x) f = goes_put d w (with_life w x.0 (stepped s x.1)) x.0 x.1 (stepped s x.1) (life_is w n x f).lives refl (over_after x.1.history s d)

goes_delivered : (d : Dot) (w : WorldValue) (n : ℕ) (o : Option ToldValue) → GoesOn d w (delivered w n o)
goes_delivered d w n None = goes_same d w w refl
goes_delivered d w n (Some t) = goes_acts d w n (steps_are.Merge t)

goes_restarted : (d : Dot) (w : WorldValue) → IsTrueWorld w → (n i : ℕ) → GoesOn d w (restarted w n i (slice_get w.present n))
goes_restarted d w iw n i = go (slice_get w.present n) refl
  where
    begins : (r : Replica) → slice_get w.present n ≡ Some r → r.incarnation < i → GoesOn d w (begun_anew w n (next_life r i))
    begins r p l q g f = (g, get-put w.lives (next_life r i) (newborn (next_life r i)) q ∙ at (same_replica q (next_life r i)) refl, λ x. x)
      where
        at : (b : Bool) → same_replica q (next_life r i) ≡ b → cond b (Some (newborn (next_life r i))) (map.get w.lives q) ≡ Some g
        at true e = let no : None ≡ Some g = sym (iw.is.present.newest n r p i l) ∙ (ap (map.get w.lives) (sym (same_replica-true q (next_life r i) e)) ∙ f) in absurd (cc)
        at false e = f

    test : (r : Replica) → slice_get w.present n ≡ Some r → (b : Bool) → is_later r i ≡ b → GoesOn d w (cond b (begun_anew w n (next_life r i)) w)
    test r p true e = begins r p (ltb-true r.incarnation i (and_parts (nat_lt r.incarnation i) _ e).0)
    test r p false e = goes_same d w w refl

    go : (o : Option Replica) → slice_get w.present n ≡ o → GoesOn d w (restarted w n i o)
    go None p = goes_same d w w refl
    go (Some r) p = test r p (is_later r i) refl

-- a life that nobody had yet
goes_born : (d : Dot) (w v : WorldValue) (q : Replica) (born : LifeValue) → map.get w.lives q ≡ None → v.lives ≡ map.insert w.lives q born → GoesOn d w v
goes_born d w v q born none same r g f = (g, ap (λ m. map.get m r) same ∙ (get-put w.lives q born r ∙ at (same_replica r q) refl), λ x. x)
  where
    at : (b : Bool) → same_replica r q ≡ b → cond b (Some born) (map.get w.lives r) ≡ Some g
    at true e = let no : None ≡ Some g = sym none ∙ (ap (map.get w.lives) (sym (same_replica-true r q e)) ∙ f) in absurd (cc)
    at false e = f

goes_rebirths : (d : Dot) (w : WorldValue) → IsTrueWorld w → (n i : ℕ) → GoesOn d w (rebirths w n i (life_at w n))
goes_rebirths d w iw n i = go (life_at w n) refl
  where
    above : (x : Replica × LifeValue) → IsLife w n x → (pairs : List (Dot × Dot)) → accepted x.1.history (steps_are.Rebirth i) ≡ Some (outcomes_are.Reborn pairs) → x.0.incarnation < i
    above x k pairs p =
        let ok = accepted_is x.1.history (steps_are.Rebirth i) (outcomes_are.Reborn pairs) p in
        subst (λ (r : Replica). r.incarnation < i) (iw.is.lives x.0 x.1 k.lives).own (can_parts x.1.history i (reborn_can x.1.history i pairs ok.1)).0

    at : (x : Replica × LifeValue) → IsLife w n x → (o : Option Outcome) → accepted x.1.history (steps_are.Rebirth i) ≡ o → GoesOn d w (goes_on_as w n i x o)
    at x k (Some (outcomes_are.Reborn pairs)) p =
        goes_born d w (goes_on_as w n i x (Some (outcomes_are.Reborn pairs))) (next_life x.0 i) (gone_on i pairs x.1) (iw.is.present.newest n x.0 k.present i (above x k pairs p)) refl
    at x k (Some _) p = goes_same d w w refl
    at x k None p = goes_same d w w refl

    go : (o : Option (Replica × LifeValue)) → life_at w n ≡ o → GoesOn d w (rebirths w n i o)
    go None f = goes_same d w w refl
    go (Some x) f = at x (life_is w n x f) (accepted x.1.history (steps_are.Rebirth i)) refl

goes_happens : (d : Dot) (w v : WorldValue) (ev : Event) → IsTrueWorld w → Happens w ev v → GoesOn d w v
goes_happens d w v (events_are.Client n s) iw f = goes_from d w (cond (may_ask s) (acts w n s) w) v f (go (may_ask s))
  where
    go : (b : Bool) → GoesOn d w (cond b (acts w n s) w)
    go true = goes_acts d w n s
    go false = goes_same d w w refl
goes_happens d w v (events_are.Cut n form) iw f = go (life_at w n) refl f
  where
    at : (x : Replica × LifeValue) → IsLife w n x → (b : Bool) → CutsHere form b w x v → GoesOn d w v
    at x k false g = goes_from d w w v g (goes_same d w w refl)
    at x k true g = goes_from d w (with_told (with_life w x.0 (stepped steps_are.Cut x.1)) g.0) v g.2 (goes_put d w (with_told (with_life w x.0 (stepped steps_are.Cut x.1)) g.0) x.0 x.1 (stepped steps_are.Cut x.1) k.lives refl (over_after x.1.history steps_are.Cut d))

    go : (o : Option (Replica × LifeValue)) → life_at w n ≡ o → Cuts form w o v → GoesOn d w v
    go None p g = goes_from d w w v g (goes_same d w w refl)
    go (Some x) p g = at x (life_is w n x p) (is_some (accepted x.1.history steps_are.Cut)) g
goes_happens d w v (events_are.Full n from form) iw f = go (life_at w n) f
  where
    go : (o : Option (Replica × LifeValue)) → Tells form w from o v → GoesOn d w v
    go None g = goes_from d w w v g (goes_same d w w refl)
    go (Some x) g = goes_from d w (with_told w g.0) v g.2 (goes_same d w (with_told w g.0) refl)
goes_happens d w v (events_are.Part n from to form) iw f = go (life_at w n) f
  where
    at : (o : Option ToldValue) → v ≡ with_told_if w o → GoesOn d w v
    at None g = goes_from d w w v g (goes_same d w w refl)
    at (Some t) g = goes_from d w (with_told w t) v g (goes_same d w (with_told w t) refl)

    go : (o : Option (Replica × LifeValue)) → TellsInPart form w from o v → GoesOn d w v
    go None g = goes_from d w w v g (goes_same d w w refl)
    go (Some x) g = at g.0 g.2
goes_happens d w v (events_are.Deliver n k) iw f = goes_from d w (delivered w n (slice_get w.told k)) v f (goes_delivered d w n (slice_get w.told k))
goes_happens d w v (events_are.DeliverOthers n k) iw f =
    let heard = option_map (of_others (slice_get w.present n)) (slice_get w.told k) in
    goes_from d w (delivered w n heard) v f (goes_delivered d w n heard)
goes_happens d w v (events_are.Heard n r now) iw f = goes_from d w (acts w n (steps_are.Heard r now)) v f (goes_acts d w n (steps_are.Heard r now))
goes_happens d w v (events_are.Tick n now) iw f = goes_from d w (acts w n (steps_are.Tick now)) v f (goes_acts d w n (steps_are.Tick now))
goes_happens d w v (events_are.PermDown n r) iw f = goes_from d w (acts w n (steps_are.PermDown r)) v f (goes_acts d w n (steps_are.PermDown r))
goes_happens d w v (events_are.Checkpoint n) iw f = go (life_at w n) refl f
  where
    at : (x : Replica × LifeValue) → IsLife w n x → (b : Bool) → BeginsHere b w x v → GoesOn d w v
    at x k false g = goes_from d w w v g (goes_same d w w refl)
    at x k true g =
        let l : LifeValue = record { history = Begin g.0; made = x.1.made } in
        goes_from d w (with_life w x.0 l) v g.2 (goes_put d w (with_life w x.0 l) x.0 x.1 l k.lives refl (over_begin x.1.history g.0 d g.1))

    go : (o : Option (Replica × LifeValue)) → life_at w n ≡ o → Begins w o v → GoesOn d w v
    go None p g = goes_from d w w v g (goes_same d w w refl)
    go (Some x) p g = at x (life_is w n x p) (nat_lt (last_number x.1.history) (2 ^ 62)) g
goes_happens d w v (events_are.Restart n i) iw f = goes_from d w (restarted w n i (slice_get w.present n)) v f (goes_restarted d w iw n i)
goes_happens d w v (events_are.Rebirth n i) iw f = goes_from d w (rebirths w n i (life_at w n)) v f (goes_rebirths d w iw n i)

goes_runs : (d : Dot) (w v : WorldValue) (es : List Event) → IsTrueWorld w → Runs w es v → GoesOn d w v
goes_runs d w v [] iw f = goes_from d w w v f (goes_same d w w refl)
goes_runs d w v (e ∷ es) iw f = λ r g k.
    let a = goes_happens d w f.0 e iw f.1 r g k in
    let b = goes_runs d f.0 v es (happens_true w f.0 e iw f.1) f.2 r a.0 a.1 in
    (b.0, b.1, λ x. b.2 (a.2 x))

resurrected : (v w : WorldValue) (es : List Event) → IsTrueWorld v → Runs v es w → NothingResurrected v w
resurrected v w es iv f q g h at_g at_h d over =
    let a = goes_runs d v w es iv f q g at_g in
    let same : a.0 ≡ h = same_Some a.0 h (sym a.1 ∙ at_h) in
    over_shown h.history d (subst (λ (x : LifeValue). IsOver x.history d) same (a.2 over))

pub never_resurrected : NeverResurrected
never_resurrected ns early late v w names f g = resurrected v w late (world_true ns early v names f) g

-- ---- caught up

none_shown : (h : History) (d : Dot) → removed h d ≡ true → shown h d ≡ None
none_shown h d f = over_shown h d (or_left (removed h d) (is_gone (status h d.replica)) f)

-- what a history shows of a dot that its owner gave no row
unmade : (deeds : AllDeeds) (h : History) (d : Dot) → IsTrueOf deeds h → (deeds d.replica).made d.count ≡ None → shown h d ≡ None
unmade deeds h d k none = go (some_or_none (shown h d))
  where
    go : ((r : Row) × (shown h d ≡ Some r)) ⊎ (shown h d ≡ None) → shown h d ≡ None
    go (inl p) = let no : None ≡ Some p.0 = sym none ∙ k.honest.row_made d p.0 (shown-row h d p.0 p.1).0 in absurd (cc)
    go (inr n) = n

live_row_of : (h : History) (d : Dot) (r : Row) → live h d ≡ Some r → row h d ≡ Some r
unfolding live
live_row_of h d r f = go (removed h d) f
  where
    go : (b : Bool) → cond b None (row h d) ≡ Some r → row h d ≡ Some r
    go true g = absurd (cc)
    go false g = g

-- a dot that is known, and not removed, of a replica that is up shows the row that its owner made
known_shown : (deeds : AllDeeds) (h : History) (d : Dot) (r : Row) → IsTrueOf deeds h → (deeds d.replica).made d.count ≡ Some r → known h d ≡ true → removed h d ≡ false → is_up (status h d.replica) ≡ true → shown h d ≡ Some r
unfolding shown
known_shown deeds h d r k made kn alive up = go (gone_or_live h k.legal d kn)
  where
    go : (removed h d ≡ true) ⊎ ((x : Row) × (live h d ≡ Some x)) → cond (is_up (status h d.replica)) (live h d) None ≡ Some r
    go (inl g) = absurd (both_ways (removed h d) alive g)
    go (inr p) = ap (λ b. cond b (live h d) None) up ∙ (p.1 ∙ (sym (k.honest.row_made d p.0 (live_row_of h d p.0 p.1)) ∙ made))

caught_up : (w : WorldValue) → IsTrueWorld w → CaughtUpIsEqual w
caught_up w iw q r g h at_g at_h cu n = go (some_or_none ((iw.deeds r).made n)) (removed h.history (dot_of r n)) refl
  where
    mine : IsTrueLife iw.deeds r h
    mine = iw.is.lives r h at_h

    theirs : IsTrueLife iw.deeds q g
    theirs = iw.is.lives q g at_g

    used : (iw.deeds r).used ≡ count h.history
    used = ap (λ x. (iw.deeds x).used) (sym mine.own) ∙ mine.is.owners.used

    -- what the owner took out, it knows to be removed
    gone : (iw.deeds r).went n ≡ true → removed h.history (dot_of r n) ≡ true
    gone f = ap (λ x. removed h.history (dot_of x n)) (sym mine.own) ∙ mine.is.owners.went n (ap (λ x. (iw.deeds x).went n) mine.own ∙ f)

    -- a row that the owner took out went at a count that is known
    went : ((c : ℕ) × ((iw.deeds r).removes c n ≡ true)) ⊎ ((iw.deeds r).made n ≡ None) → (y : Row) → (iw.deeds r).made n ≡ Some y → shown g.history (dot_of r n) ≡ None
    went (inl k) y f =
        let p = (iw.is.are r).targets_in k.0 n k.1 in
        none_shown g.history (dot_of r n) (theirs.is.honest.targets_known r k.0 n (cu.all k.0 (omega (arith, p.1)) (omega (arith, p.2, used))) k.1)
    went (inr e) y f = let no : None ≡ Some y = sym e ∙ f in absurd (cc)

    own_known : (y : Row) → (iw.deeds r).made n ≡ Some y → known h.history (dot_of r n) ≡ true
    own_known y f = let p = (iw.is.are r).made_in n y f in known_from h.history mine.is.legal (dot_of r n) (sym mine.own) p.0 (omega (arith, p.1, used))

    go : ((y : Row) × ((iw.deeds r).made n ≡ Some y)) ⊎ ((iw.deeds r).made n ≡ None) → (b : Bool) → removed h.history (dot_of r n) ≡ b → shown g.history (dot_of r n) ≡ shown h.history (dot_of r n)
    go (inr f) b e = unmade iw.deeds g.history (dot_of r n) theirs.is f ∙ sym (unmade iw.deeds h.history (dot_of r n) mine.is f)
    go (inl y) true e = went ((iw.is.are r).went_why n (mine.is.honest.removed_went (dot_of r n) e)) y.0 y.1 ∙ sym (none_shown h.history (dot_of r n) e)
    go (inl y) false e =
        let p = (iw.is.are r).made_in n y.0 y.1 in
        let alive : removed g.history (dot_of r n) ≡ false = false_from_ne_true (removed g.history (dot_of r n)) (λ x. both_ways (removed h.history (dot_of r n)) e (gone (theirs.is.honest.removed_went (dot_of r n) x))) in
        known_shown iw.deeds g.history (dot_of r n) y.0 theirs.is y.1 (cu.all n p.0 (omega (arith, p.1, used))) alive cu.up
        ∙ sym (known_shown iw.deeds h.history (dot_of r n) y.0 mine.is y.1 (own_known y.0 y.1) e (up-own h.history (dot_of r n) (sym mine.own)))

pub caught_up_is_always_equal : CaughtUpIsAlwaysEqual
caught_up_is_always_equal ns es w names f = caught_up w (world_true ns es w names f)
