-- The three claims over the tables, from those over the histories.
use Rattle.std.proofs.Common.{◌≡◌, ℕ, Bool, true, false, cond, not, ◌&&◌, ◌||◌, List, Option, Some, None, refl, sym, ◌∙◌, ap, subst, is_some}
use Rattle.std.specs.FinMap as map
use Rattle.std.proofs.lemmas.Bool.{or_left, or_right}
use Rattle.presence_base.specs.declared.dots.Replica.{Replica}
use Rattle.presence_base.specs.declared.dots.Dot.{Dot}
use Rattle.presence_base.specs.declared.row.Row.{Row}
use Rattle.presence_base.specs.Order.{same_replica}
use Rattle.orswot_core.specs.Full.{dot_of}
use Rattle.replica_status.specs.declared.status.Status.{Status}
use Rattle.replica_status.specs.declared.status.Status.TheVariants as status_is
use Rattle.presence_journal.specs.declared.rows.Place.{Place}
use Rattle.presence_journal.specs.History as journal
use Rattle.presence_journal.specs.History.{History, known, removed, live, shown}
use Rattle.presence_journal.specs.Present.{of_topic}
use Rattle.presence_journal.specs.Table.{IsLegal}
use Rattle.presence_journal.specs.Walk.{keyed}
use Rattle.presence_journal.proofs.Lookups.{same_rows}
use Rattle.presence_journal.proofs.Same.{place_cmp-IsAntisymmetric, same_replica-true}
use Rattle.presence_journal.proofs.Merges.{known_is_live_or_removed}
use Rattle.presence_table.specs.Others as others
use Rattle.presence_table.specs.Plain.{Table, Room, present, table}
use Rattle.presence_table.specs.Plain as plain
use Rattle.presence_table.proofs.Outcomes.{table_is_plain}
use Rattle.node_world.specs.World.{WorldValue}
use Rattle.node_world.specs.TrueWorlds.{IsTrueWorld}
use Rattle.node_world.specs.Claims as histories
use Rattle.node_world.proofs.Claims.{world_true, never_invented, never_resurrected, caught_up_is_always_equal}
use Rattle.node_world.proofs.EventLaws.{runs_true}
use Rattle.world_tables.specs.Claims.{NothingInvented, IsOver, NothingResurrected, IsCaughtUp, rows_of, CaughtUpIsEqual, NeverInvented, NeverResurrected, CaughtUpIsAlwaysEqual}
use Rattle.world_tables.proofs.Tables.{HasLife, life_of_table, legal_life, at_place, of_dot}

-- nothing invented

invented : (w : WorldValue) → IsTrueWorld w → histories.NothingInvented w → NothingInvented w
invented w iw claim q t f topic p r g =
    let k = life_of_table w q t f in
    let there = sym (at_place k.life.history (legal_life w iw q k.life k.there) topic p) ∙ (ap (λ u. map.get (present u topic) p) k.is ∙ g) in
    claim q k.life k.there p.dot r (of_dot p.key topic (shown k.life.history p.dot) r there)

pub no_table_invents : NeverInvented
no_table_invents ns es w names f = invented w (world_true ns es w names f) (never_invented ns es w names f)

-- nothing resurrected

gone_same : (s : Status) → others.is_gone s ≡ journal.is_gone s
gone_same status_is.Unheard = refl
gone_same status_is.Up = refl
gone_same status_is.Down = refl
gone_same status_is.Gone = refl

-- what is over in a table is over in its history
over : (h : History) → IsLegal h → (d : Dot) → IsOver (table h) d → histories.IsOver h d
over h l d f = go (live h d) refl (known h d) refl (journal.is_gone (journal.status h d.replica)) (sym same ∙ f)
  where
    gone : others.is_gone (plain.status (table h) d.replica) ≡ journal.is_gone (journal.status h d.replica)
    gone = ap others.is_gone ((table_is_plain h l).status d.replica) ∙ gone_same (journal.status h d.replica)

    same : (((table h).others.known d && not (map.contains_key (table h).rows d)) || others.is_gone (plain.status (table h) d.replica)) ≡ ((known h d && not (is_some (live h d))) || journal.is_gone (journal.status h d.replica))
    same = λ i. ((table_is_plain h l).parts.known d i && not (is_some ((table_is_plain h l).parts.rows d i))) || gone i

    go : (o : Option Row) → live h d ≡ o → (k : Bool) → known h d ≡ k → (g : Bool) → ((k && not (is_some o)) || g) ≡ true → (removed h d || g) ≡ true
    go o e k kn true p = or_right (removed h d) true refl
    go None e true kn false p = or_left (removed h d) false (known_is_live_or_removed h l d kn e)
    go (Some r) e true kn false p = absurd (cc)
    go o e false kn false p = absurd (cc)

resurrected : (v w : WorldValue) → IsTrueWorld v → IsTrueWorld w → histories.NothingResurrected v w → NothingResurrected v w
resurrected v w iv iw claim q t u f g p is topic =
    let k = life_of_table v q t f in
    let j = life_of_table w q u g in
    let was = over k.life.history (legal_life v iv q k.life k.there) p.dot (is_before k) in
    sym (ap (λ x. map.get (present x topic) p) j.is)
    ∙ (at_place j.life.history (legal_life w iw q j.life j.there) topic p
    ∙ ap (λ o. keyed p.key (of_topic topic o)) (claim q k.life j.life k.there j.there p.dot was))
  where
    is_before : (k : HasLife v q t) → IsOver (table k.life.history) p.dot
    is_before k = ap (λ (x : Table). (x.others.known p.dot && not (map.contains_key x.rows p.dot)) || others.is_gone (plain.status x p.dot.replica)) k.is ∙ is

pub no_table_resurrects : NeverResurrected
no_table_resurrects ns early late v w names f g =
    let iv = world_true ns early v names f in
    resurrected v w iv (runs_true v w late iv g) (never_resurrected ns early late v w names f g)

-- caught up

up_same : (s : Status) → others.is_up s ≡ journal.is_up s
up_same status_is.Unheard = refl
up_same status_is.Up = refl
up_same status_is.Down = refl
up_same status_is.Gone = refl

get_of : (r : Replica) (room : Room) (p : Place) → map.get (rows_of r room) p ≡ cond (same_replica p.dot.replica r) (map.get room p) None
get_of r room p = map.get-retain_keys room (λ q. same_replica q.dot.replica r) p (λ x e. ap (λ (q : Place). same_replica q.dot.replica r) (sym (place_cmp-IsAntisymmetric p x e)))

-- histories that show the same of a replica have tables with the same rows of it
same_of : (g h : History) → IsLegal g → IsLegal h → (r : Replica) → ((n : ℕ) → shown g (dot_of r n) ≡ shown h (dot_of r n)) → (topic : List ℕ) → rows_of r (present (table g) topic) ≡ rows_of r (present (table h) topic)
same_of g h lg lh r is topic =
    same_rows (rows_of r (present (table g) topic)) (rows_of r (present (table h) topic))
    (λ p. get_of r (present (table g) topic) p ∙ (at p (same_replica p.dot.replica r) refl ∙ sym (get_of r (present (table h) topic) p)))
  where
    shows : (p : Place) → p.dot.replica ≡ r → shown g p.dot ≡ shown h p.dot
    shows p z = ap (λ x. shown g (dot_of x p.dot.count)) z ∙ (is p.dot.count ∙ sym (ap (λ x. shown h (dot_of x p.dot.count)) z))

    at : (p : Place) (b : Bool) → same_replica p.dot.replica r ≡ b → cond b (map.get (present (table g) topic) p) None ≡ cond b (map.get (present (table h) topic) p) None
    at p false e = refl
    at p true e =
        at_place g lg topic p
        ∙ (ap (λ o. keyed p.key (of_topic topic o)) (shows p (same_replica-true p.dot.replica r e))
        ∙ sym (at_place h lh topic p))

-- a table that is caught up is that of a history that is
caught_up : (h : History) → IsLegal h → (r : Replica) (n : ℕ) → IsCaughtUp (table h) r n → histories.IsCaughtUp h r n
caught_up h l r n k =
    record {
      all = λ c a b. sym ((table_is_plain h l).parts.known (dot_of r c)) ∙ k.all c a b;
      up = sym (ap others.is_up ((table_is_plain h l).status r) ∙ up_same (journal.status h r)) ∙ k.up;
    }

equal : (w : WorldValue) → IsTrueWorld w → histories.CaughtUpIsEqual w → CaughtUpIsEqual w
equal w iw claim q r t own f g is topic =
    (λ i. rows_of r (present (sym k.is i) topic))
    ∙ (same_of k.life.history j.life.history legal_k legal_j r (claim q r k.life j.life k.there j.there there) topic
    ∙ (λ i. rows_of r (present (j.is i) topic)))
  where
    k : HasLife w q t
    k = life_of_table w q t f

    j : HasLife w r own
    j = life_of_table w r own g

    legal_k : IsLegal k.life.history
    legal_k = legal_life w iw q k.life k.there

    legal_j : IsLegal j.life.history
    legal_j = legal_life w iw r j.life j.there

    counts : own.count ≡ journal.count j.life.history
    counts = ap (λ (x : Table). x.count) (sym j.is) ∙ (table_is_plain j.life.history legal_j).parts.count

    there : histories.IsCaughtUp k.life.history r (journal.count j.life.history)
    there = caught_up k.life.history legal_k r (journal.count j.life.history) (subst (λ x. IsCaughtUp x r (journal.count j.life.history)) (sym k.is) (subst (IsCaughtUp t r) counts is))

pub caught_up_tables_are_equal : CaughtUpIsAlwaysEqual
caught_up_tables_are_equal ns es w names f = equal w (world_true ns es w names f) (caught_up_is_always_equal ns es w names f)
