-- The steps of a board, seen at one replica.
use Rattle.std.proofs.Common.{◌≡◌, ℕ, Bool, true, false, cond, List, [], ◌∷◌, refl, sym, ◌∙◌, ap, Option, Some, None}
use Rattle.std.specs.Map.{lookup}
use Rattle.std.specs.Option.{unwrap_or, option_map}
use Rattle.std.proofs.lemmas.Map.Made.{lookup-map_values}
use Rattle.indexmap.specs.IndexMap.{insert_entry}
use Rattle.presence_base.specs.declared.dots.Replica.{Replica}
use Rattle.presence_base.specs.Order.{same_replica}
use Rattle.replica_status.specs.declared.standing.Standing.{Standing}
use Rattle.replica_status.specs.declared.standing.Standing.TheVariants.{Unheard, Up, Down, Gone}
use Rattle.replica_status.specs.declared.status.Status.{Status}
use Rattle.replica_status.specs.declared.status.Status.TheVariants as status_is
use Rattle.replica_status.specs.Replicas.{same_replica_equiv}
use Rattle.replica_status.specs.Table.{status_of, is_unheard, heard_at, ticked_at, put_down}
use Rattle.replica_status.specs.Boards.{BoardValue, standing_in, status, time_at, changed, after_tick, gone_on_as, after_reborn}
use Rattle.replica_status.specs.Laws.{FollowsTable, StaysGone, IsReborn}

-- who is the same as k is the same as x, where k and x are the same
alike : (q k x : Replica) → same_replica k x ≡ true → same_replica q x ≡ same_replica q k
alike q k x e = same_replica_equiv.symm q x ∙ sym (same_replica_equiv.congr k x q e) ∙ same_replica_equiv.symm k q

apart : (q k x : Replica) → same_replica k x ≡ false → same_replica q x ≡ true → same_replica q k ≡ false
apart q k x e f = go (same_replica q k) refl
  where
    go : (b : Bool) → same_replica q k ≡ b → same_replica q k ≡ false
    go false g = g
    go true g = absurd (cc (sym f, same_replica_equiv.congr q k x g, e))

-- what is found of q after a standing was put at k
found_after_put : (es : List (Replica × Standing)) (k q : Replica) (v : Standing) → lookup (same_replica q) (insert_entry same_replica es k v) ≡ cond (same_replica q k) (Some v) (lookup (same_replica q) es)
found_after_put [] k q v = refl
found_after_put (e ∷ es) k q v = go (found_after_put es k q v) (same_replica k e.0) refl
  where
    at_head : (b : Bool) → cond b (Some v) (lookup (same_replica q) es) ≡ cond b (Some v) (cond b (Some e.1) (lookup (same_replica q) es))
    at_head true = refl
    at_head false = refl

    behind : (b c : Bool) → (b ≡ true → c ≡ false) → cond b (Some e.1) (cond c (Some v) (lookup (same_replica q) es)) ≡ cond c (Some v) (cond b (Some e.1) (lookup (same_replica q) es))
    behind true c f = rw (f refl)
    behind false c f = refl

    go : lookup (same_replica q) (insert_entry same_replica es k v) ≡ cond (same_replica q k) (Some v) (lookup (same_replica q) es) → (b : Bool) → same_replica k e.0 ≡ b
        → lookup (same_replica q) (cond b ((e.0, v) ∷ es) (e ∷ insert_entry same_replica es k v)) ≡ cond (same_replica q k) (Some v) (lookup (same_replica q) (e ∷ es))
    go rest true f = rw (alike q k e.0 f) (at_head (same_replica q k))
    go rest false f = rw rest (behind (same_replica q e.0) (same_replica q k) (apart q k e.0 f))

or_unheard : (o : Option Standing) (b : Bool) (v : Standing) → unwrap_or (cond b (Some v) o) Unheard ≡ cond b v (unwrap_or o Unheard)
or_unheard o true v = refl
or_unheard o false v = refl

standing_after_put : (es : List (Replica × Standing)) (k q : Replica) (v : Standing) → standing_in (insert_entry same_replica es k v) q ≡ cond (same_replica q k) v (standing_in es q)
standing_after_put es k q v = ap (λ o. unwrap_or o Unheard) (found_after_put es k q v) ∙ or_unheard (lookup (same_replica q) es) (same_replica q k) v

found_same : (es : List (Replica × Standing)) (k q : Replica) → same_replica q k ≡ true → standing_in es q ≡ standing_in es k
found_same [] k q e = refl
found_same (x ∷ es) k q e =
    let heads : same_replica q x.0 ≡ same_replica k x.0 = same_replica_equiv.congr q k x.0 e in
    rw heads (by (found_same es k q e) (same_replica k x.0))
  where
    by : standing_in es q ≡ standing_in es k → (b : Bool) → unwrap_or (cond b (Some x.1) (lookup (same_replica q) es)) Unheard ≡ unwrap_or (cond b (Some x.1) (lookup (same_replica k) es)) Unheard
    by rest true = refl
    by rest false = rest

-- a step of one replica, where it may be the own one, at another than the own one
pub standing_after_change : (f : Standing → Standing) (b : BoardValue) (r q : Replica) → same_replica q b.own ≡ false → standing_in (changed f b r) q ≡ cond (same_replica q r) (f (standing_in b.standings q)) (standing_in b.standings q)
standing_after_change f b r q not_own = go (same_replica r b.own) refl
  where
    other : (c : Bool) → same_replica q r ≡ c → cond c (f (standing_in b.standings r)) (standing_in b.standings q) ≡ cond c (f (standing_in b.standings q)) (standing_in b.standings q)
    other true e = ap f (sym (found_same b.standings r q e))
    other false e = refl

    own_is_apart : same_replica r b.own ≡ true → same_replica q r ≡ false
    own_is_apart e = sym (alike q r b.own e) ∙ not_own

    go : (c : Bool) → same_replica r b.own ≡ c → standing_in (cond c b.standings (insert_entry same_replica b.standings r (f (standing_in b.standings r)))) q ≡ cond (same_replica q r) (f (standing_in b.standings q)) (standing_in b.standings q)
    go true e = rw (own_is_apart e)
    go false e = standing_after_put b.standings r q (f (standing_in b.standings r)) ∙ other (same_replica q r) refl

ticked_or_unheard : (t : ℕ) (o : Option Standing) → unwrap_or (option_map (ticked_at t) o) Unheard ≡ ticked_at t (unwrap_or o Unheard)
ticked_or_unheard t None = refl
ticked_or_unheard t (Some s) = refl

pub standing_after_tick : (b : BoardValue) (now : ℕ) (q : Replica) → standing_in (after_tick b now).standings q ≡ ticked_at (time_at b now) (standing_in b.standings q)
standing_after_tick b now q =
    ap (λ o. unwrap_or o Unheard) (lookup-map_values (ticked_at (time_at b now)) (same_replica q) b.standings) ∙ ticked_or_unheard (time_at b now) (lookup (same_replica q) b.standings)

-- a rebirth lists the replica that was the own one
pub standing_after_reborn : (b : BoardValue) (r q : Replica) → same_replica q b.own ≡ false → standing_in (after_reborn b r).standings q ≡ standing_in b.standings q
standing_after_reborn b r q not_own = go (is_unheard (status b r))
  where
    go : (c : Bool) → standing_in (cond c (gone_on_as b r) b).standings q ≡ standing_in b.standings q
    go true = standing_after_put b.standings b.own q Gone ∙ ap (λ c. cond c Gone (standing_in b.standings q)) not_own
    go false = refl

pub follows_table : (b : BoardValue) (q : Replica) → same_replica q b.own ≡ false → FollowsTable b q (standing_in b.standings q)
follows_table b q not_own = record {
  hears = λ r now. standing_after_change (heard_at (time_at b now)) b r q not_own;
  ticks = λ now. standing_after_tick b now q;
  goes = λ r. standing_after_change put_down b r q not_own;
  stays = λ r. standing_after_reborn b r q not_own;
}

not_own_from_gone : (c : Bool) (s : Standing) → cond c status_is.Up (status_of s) ≡ status_is.Gone → (c ≡ false) × (s ≡ Gone)
not_own_from_gone true s e = absurd (cc)
not_own_from_gone false Unheard e = absurd (cc)
not_own_from_gone false (Up t) e = absurd (cc)
not_own_from_gone false (Down t) e = absurd (cc)
not_own_from_gone false Gone e = (refl, refl)

gone_either_way : (c : Bool) (s t : Standing) → s ≡ Gone → t ≡ Gone → cond c s t ≡ Gone
gone_either_way true s t e f = e
gone_either_way false s t e f = f

still_gone : (c : Bool) (s : Standing) → c ≡ false → s ≡ Gone → cond c status_is.Up (status_of s) ≡ status_is.Gone
still_gone c s e f = rw (e, f)

-- replicas that are the same have one status
same_status_at : (b : BoardValue) (q r : Replica) → same_replica q r ≡ true → status b q ≡ status b r
same_status_at b q r f = (λ i. cond (same_replica_equiv.congr q r b.own f i) status_is.Up (status_of (found_same b.standings r q f i)))

pub stays_gone : (b : BoardValue) (q : Replica) → status b q ≡ status_is.Gone → StaysGone b q
stays_gone b q e =
    let parts = not_own_from_gone (same_replica q b.own) (standing_in b.standings q) e in
    let table : FollowsTable b q (standing_in b.standings q) = follows_table b q parts.0 in
    let gone : standing_in b.standings q ≡ Gone = parts.1 in
    record {
      hears = λ r now. still_gone _ _ parts.0 (table.hears r now ∙ gone_either_way (same_replica q r) _ _ (ap (heard_at (time_at b now)) gone) gone);
      ticks = λ now. still_gone _ _ parts.0 (table.ticks now ∙ ap (ticked_at (time_at b now)) gone);
      goes = λ r. still_gone _ _ parts.0 (table.goes r ∙ gone_either_way (same_replica q r) _ _ (ap put_down gone) gone);
      stays = λ r. reborn_gone r parts.0 (table.stays r ∙ gone);
    }
  where
    apart_from : (r : Replica) → is_unheard (status b r) ≡ true → same_replica q r ≡ false
    apart_from r u = by (same_replica q r) refl
      where
        by : (c : Bool) → same_replica q r ≡ c → c ≡ false
        by false f = refl
        by true f = absurd (cc (ap is_unheard (sym (same_status_at b q r f) ∙ e), u))

    reborn_gone : (r : Replica) → same_replica q b.own ≡ false → standing_in (after_reborn b r).standings q ≡ Gone → status (after_reborn b r) q ≡ status_is.Gone
    reborn_gone r other gone = by (is_unheard (status b r)) refl gone
      where
        by : (c : Bool) → is_unheard (status b r) ≡ c → standing_in (cond c (gone_on_as b r) b).standings q ≡ Gone → status (cond c (gone_on_as b r) b) q ≡ status_is.Gone
        by true u g = still_gone _ _ (apart_from r u) g
        by false u g = still_gone _ _ other g

-- what is unheard becomes the own one

unheard_other : (b : BoardValue) (r : Replica) → is_unheard (status b r) ≡ true → same_replica r b.own ≡ false
unheard_other b r = by (same_replica r b.own)
  where
    by : (c : Bool) → is_unheard (cond c status_is.Up (status_of (standing_in b.standings r))) ≡ true → c ≡ false
    by false u = refl
    by true u = absurd (cc)

pub only_unheard : (x : Status) → is_unheard x ≡ true → x ≡ status_is.Unheard
only_unheard status_is.Unheard u = refl
only_unheard status_is.Up u = absurd (cc)
only_unheard status_is.Down u = absurd (cc)
only_unheard status_is.Gone u = absurd (cc)

pub as_it_was : (b : BoardValue) (r : Replica) → is_unheard (status b r) ≡ false → b ≡ after_reborn b r
as_it_was b r u = ap (λ c. cond c (gone_on_as b r) b) (sym u)

pub goes_on : (b : BoardValue) (r : Replica) → is_unheard (status b r) ≡ true → gone_on_as b r ≡ after_reborn b r
goes_on b r u = ap (λ c. cond c (gone_on_as b r) b) (sym u)

pub is_reborn : (b : BoardValue) (r : Replica) → is_unheard (status b r) ≡ true → IsReborn b r
is_reborn b r u = record {
  new = ap (λ c. status c r) reborn-is ∙ ap (λ c. cond c status_is.Up (status_of (standing_in listed r))) (same_replica_equiv.refl r);
  old = ap (λ c. status c b.own) reborn-is
      ∙ still_gone _ _ (same_replica_equiv.symm b.own r ∙ unheard_other b r u)
      (standing_after_put b.standings b.own b.own Gone ∙ ap (λ c. cond c Gone (standing_in b.standings b.own)) (same_replica_equiv.refl b.own));
  others = λ q other not_own.
      ap (λ c. status c q) reborn-is
      ∙ (ap (λ c. cond c status_is.Up (status_of (standing_in listed q))) other
      ∙ (ap status_of (standing_after_put b.standings b.own q Gone ∙ ap (λ c. cond c Gone (standing_in b.standings q)) not_own)
      ∙ sym (ap (λ c. cond c status_is.Up (status_of (standing_in b.standings q))) not_own)));
}
  where
    listed : List (Replica × Standing)
    listed = (gone_on_as b r).standings

    reborn-is : after_reborn b r ≡ gone_on_as b r
    reborn-is = ap (λ c. cond c (gone_on_as b r) b) u
