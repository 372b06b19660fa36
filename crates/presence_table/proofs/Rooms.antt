-- The present rows of a plain table: at each place, and so those of a history whose parts it keeps.
use Rattle.std.proofs.Common.{◌≡◌, ℕ, Bool, true, false, cond, ◌&&◌, T, List, [], ◌∷◌, Option, Some, None, map as each, filter, Ordering, Less, Equal, Greater, is_eq, is_lt, refl, sym, ◌∙◌, ap}
use Rattle.std.specs.Ordering.{eq_by_cmp}
use Rattle.std.specs.FinMap as map
use Rattle.std.specs.FinMap.Entries.{below_all, is_sorted}
use Rattle.std.proofs.lemmas.Bool.{and_right}
use Rattle.presence_base.specs.declared.dots.Replica.{Replica}
use Rattle.presence_base.specs.declared.dots.Dot.{Dot}
use Rattle.presence_base.specs.declared.row.Row.{Row}
use Rattle.presence_base.specs.Order.{dot_cmp, same_text, same_dot, same_replica}
use Rattle.replica_status.specs.declared.status.Status.{Status}
use Rattle.replica_status.specs.declared.status.Status.TheVariants as status_is
use Rattle.replica_status.specs.Table.{status_of}
use Rattle.presence_journal.specs.declared.rows.Place.{Place}
use Rattle.presence_journal.specs.History as journal
use Rattle.presence_journal.specs.History.{History}
use Rattle.presence_journal.specs.Present as rooms
use Rattle.presence_journal.specs.Present.{place_cmp, of_topic}
use Rattle.presence_journal.specs.Walk.{keyed}
use Rattle.presence_journal.proofs.Same.{place_total, same_place, same_dot-true}
use Rattle.presence_journal.proofs.Lookups.{cond_none, same_rows}
use Rattle.presence_journal.proofs.PresentLemmas.{get-present}
use Rattle.presence_table.specs.Others.{is_up}
use Rattle.presence_table.specs.Plain.{Table, placed}
use Rattle.presence_table.specs.Plain as plain

-- a dot below all others is not among them
below_none : (d : Dot) (es : List (Dot × Row)) → T (below_all dot_cmp d es) → map.find dot_cmp d es ≡ None
below_none d [] h = refl
below_none d (e ∷ es) h = go (dot_cmp d e.0) h (below_none d es)
  where
    go : (o : Ordering) → T (is_lt o && below_all dot_cmp d es) → (T (below_all dot_cmp d es) → map.find dot_cmp d es ≡ None) → cond (is_eq o) (Some e.1) (map.find dot_cmp d es) ≡ None
    go Less l ih = ih l
    go Equal l ih = absurd l
    go Greater l ih = absurd l

-- what stands at a place among rows that are put to their places
abbrev stands : Place → List (Dot × Row) → Option Row
stands p es = map.find place_cmp p (each placed es)

-- a row of another dot does not
other_dot : (p : Place) (e : Dot × Row) (fs : List (Dot × Row)) (c : Bool) → same_dot p.dot e.0 ≡ false → stands p (cond c (e ∷ fs) fs) ≡ stands p fs
other_dot p e fs false q = refl
other_dot p e fs true q =
    ap (λ b. cond b (Some e.1) (stands p fs))
    (same_place p (record { key = e.1.key; dot = e.0 }) ∙ and_right (same_text p.key e.1.key) (same_dot p.dot e.0) q)

none_at : (f : Dot × Row → Bool) (p : Place) (es : List (Dot × Row)) → map.find dot_cmp p.dot es ≡ None → stands p (filter f es) ≡ None
none_at f p [] none = refl
none_at f p (e ∷ es) none = go (same_dot p.dot e.0) refl none (none_at f p es)
  where
    go : (b : Bool) → same_dot p.dot e.0 ≡ b → cond b (Some e.1) (map.find dot_cmp p.dot es) ≡ None → (map.find dot_cmp p.dot es ≡ None → stands p (filter f es) ≡ None) → stands p (cond (f e) (e ∷ filter f es) (filter f es)) ≡ None
    go true q n ih = absurd (cc)
    go false q n ih = other_dot p e (filter f es) (f e) q ∙ ih n

first_true : (a b : Bool) → T (a && b) → T a
first_true true b p = tt
first_true false b p = p

second_true : (a b : Bool) → T (a && b) → T b
second_true true b p = p
second_true false b p = absurd p

-- a row that is of the topic, and whose replica is up
abbrev picks : (Replica → Bool) → List ℕ → Dot × Row → Bool
picks up topic x = up x.0.replica && same_text x.1.topic topic

same_dot_here : (p : Place) (e : Dot × Row) → same_dot p.dot e.0 ≡ true → eq_by_cmp place_cmp p (placed e).0 ≡ same_text p.key e.1.key
same_dot_here p e q = same_place p (record { key = e.1.key; dot = e.0 }) ∙ (ap (λ b. same_text p.key e.1.key && b) q ∙ go (same_text p.key e.1.key))
  where
    go : (b : Bool) → (b && true) ≡ b
    go true = refl
    go false = refl

-- the row of the dot, where it is picked and has the key
here : (up : Replica → Bool) (topic : List ℕ) (p : Place) (e : Dot × Row) (fs : List (Dot × Row)) → same_dot p.dot e.0 ≡ true → stands p fs ≡ None → stands p (cond (picks up topic e) (e ∷ fs) fs) ≡ keyed p.key (of_topic topic (cond (up e.0.replica) (Some e.1) None))
here up topic p e fs q none = go (up e.0.replica) (same_text e.1.topic topic) refl
  where
    go : (a b : Bool) → same_text e.1.topic topic ≡ b → stands p (cond (a && b) (e ∷ fs) fs) ≡ keyed p.key (of_topic topic (cond a (Some e.1) None))
    go false b f = none
    go true false f = none ∙ sym (ap (λ b. keyed p.key (cond b (Some e.1) None)) f)
    go true true f =
        (λ i. cond (same_dot_here p e q i) (Some e.1) (none i))
        ∙ sym (ap (λ b. keyed p.key (cond b (Some e.1) None)) f)

found_at : (up : Replica → Bool) (topic : List ℕ) (p : Place) (es : List (Dot × Row)) → T (is_sorted dot_cmp es) → stands p (filter (picks up topic) es) ≡ keyed p.key (of_topic topic (cond (up p.dot.replica) (map.find dot_cmp p.dot es) None))
found_at up topic p [] s = sym (ap (λ o. keyed p.key (of_topic topic o)) (cond_none (up p.dot.replica)))
found_at up topic p (e ∷ es) s = go (same_dot p.dot e.0) refl (found_at up topic p es (second_true (below_all dot_cmp e.0 es) (is_sorted dot_cmp es) s))
  where
    fs : List (Dot × Row)
    fs = filter (picks up topic) es

    none : p.dot ≡ e.0 → map.find dot_cmp p.dot es ≡ None
    none z = ap (λ d. map.find dot_cmp d es) z ∙ below_none e.0 es (first_true (below_all dot_cmp e.0 es) (is_sorted dot_cmp es) s)

    go : (b : Bool) → same_dot p.dot e.0 ≡ b → stands p fs ≡ keyed p.key (of_topic topic (cond (up p.dot.replica) (map.find dot_cmp p.dot es) None)) → stands p (cond (picks up topic e) (e ∷ fs) fs) ≡ keyed p.key (of_topic topic (cond (up p.dot.replica) (cond b (Some e.1) (map.find dot_cmp p.dot es)) None))
    go true q ih =
        let z = same_dot-true p.dot e.0 q in
        here up topic p e fs q (none_at (picks up topic) p es (none z))
        ∙ ap (λ (d : Dot). keyed p.key (of_topic topic (cond (up d.replica) (Some e.1) None))) (sym z)
    go false q ih = other_dot p e fs (picks up topic e) q ∙ ih

pub get_present : (t : Table) (topic : List ℕ) (p : Place) → map.get (plain.present t topic) p ≡ keyed p.key (of_topic topic (cond (is_up (plain.status t p.dot.replica)) (map.get t.rows p.dot) None))
unfolding plain.present
get_present t topic p =
    map.get-from_entries place_total (each placed (filter (picks (λ r. is_up (plain.status t r)) topic) (map.entries t.rows))) p
    ∙ (found_at (λ r. is_up (plain.status t r)) topic p (map.entries t.rows) (map.entries_sorted t.rows)
    ∙ ap (λ o. keyed p.key (of_topic topic (cond (is_up (plain.status t p.dot.replica)) o None))) (sym (map.get-entries t.rows p.dot)))

-- a table keeps the own replica, the standings and the rows of a history
pub record KeepsRows (h : History) (t : Table) : Type 0 where
  pub own : t.own ≡ journal.own h
  pub standing : (r : Replica) → t.others.standing r ≡ journal.standing h r
  pub rows : (d : Dot) → map.get t.rows d ≡ journal.live h d

pub status_is_kept : (h : History) (t : Table) → KeepsRows h t → (r : Replica) → plain.status t r ≡ journal.status h r
unfolding journal.status
status_is_kept h t k r = λ i. cond (same_replica r (k.own i)) status_is.Up (status_of (k.standing r i))

up_same : (s : Status) → is_up s ≡ journal.is_up s
up_same status_is.Unheard = refl
up_same status_is.Up = refl
up_same status_is.Down = refl
up_same status_is.Gone = refl

-- so it shows the same
pub present_is_kept : (h : History) (t : Table) → KeepsRows h t → (topic : List ℕ) → plain.present t topic ≡ rooms.present h topic
unfolding journal.shown
present_is_kept h t k topic =
    same_rows (plain.present t topic) (rooms.present h topic)
    (λ p. get_present t topic p
    ∙ ((λ i. keyed p.key (of_topic topic (cond (is_up (status_is_kept h t k p.dot.replica i)) (k.rows p.dot i) None)))
    ∙ (ap (λ b. keyed p.key (of_topic topic (cond b (journal.live h p.dot) None))) (up_same (journal.status h p.dot.replica))
    ∙ sym (get-present h topic p))))
