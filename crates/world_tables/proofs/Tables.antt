-- The plain table of a life: where it is, and what it has present.
use Rattle.std.proofs.Common.{◌≡◌, ℕ, Bool, true, false, cond, List, Option, Some, None, refl, ◌∙◌, ap, option_map}
use Rattle.std.specs.FinMap as map
use Rattle.std.proofs.lemmas.Option.{same_Some}
use Rattle.presence_base.specs.declared.dots.Replica.{Replica}
use Rattle.presence_base.specs.declared.row.Row.{Row}
use Rattle.presence_base.specs.Order.{same_text}
use Rattle.presence_journal.specs.declared.rows.Place.{Place}
use Rattle.presence_journal.specs.History.{History, shown}
use Rattle.presence_journal.specs.Present.{of_topic}
use Rattle.presence_journal.specs.Table.{IsLegal}
use Rattle.presence_journal.specs.Walk.{keyed}
use Rattle.presence_journal.proofs.PresentLemmas.{get-present}
use Rattle.presence_table.specs.Plain.{Table, present, table}
use Rattle.presence_table.proofs.Outcomes.{table_is_plain}
use Rattle.node_world.specs.World.{LifeValue, WorldValue}
use Rattle.node_world.specs.TrueWorlds.{IsTrueWorld}
use Rattle.world_tables.specs.Claims.{table_of}

-- a table is that of a life
pub record HasLife (w : WorldValue) (q : Replica) (t : Table) : Type 0 where
  pub life : LifeValue
  pub there : map.get w.lives q ≡ Some life
  pub is : table life.history ≡ t

pub life_of_table : (w : WorldValue) (q : Replica) (t : Table) → table_of w q ≡ Some t → HasLife w q t
life_of_table w q t f = go (map.get w.lives q) refl f
  where
    go : (o : Option LifeValue) → map.get w.lives q ≡ o → option_map (λ (l : LifeValue). table l.history) o ≡ Some t → HasLife w q t
    go None e g = absurd (cc)
    go (Some l) e g = record { life = l; there = e; is = same_Some (table l.history) t g }

-- the histories of a true world are legal
pub legal_life : (w : WorldValue) → IsTrueWorld w → (q : Replica) (l : LifeValue) → map.get w.lives q ≡ Some l → IsLegal l.history
legal_life w iw q l f = (iw.is.lives q l f).is.legal

-- what a table has present at a place
pub at_place : (h : History) → IsLegal h → (topic : List ℕ) (p : Place) → map.get (present (table h) topic) p ≡ keyed p.key (of_topic topic (shown h p.dot))
at_place h l topic p = ap (λ m. map.get m p) ((table_is_plain h l).present topic) ∙ get-present h topic p

-- a row at a place is the one of its dot
pub of_dot : (key topic : List ℕ) (o : Option Row) (r : Row) → keyed key (of_topic topic o) ≡ Some r → o ≡ Some r
of_dot key topic None r f = absurd (cc)
of_dot key topic (Some x) r f = go (same_text x.topic topic) f
  where
    at_key : (b : Bool) → cond b (Some x) None ≡ Some r → Some x ≡ Some r
    at_key true g = g
    at_key false g = absurd (cc)

    go : (b : Bool) → keyed key (cond b (Some x) None) ≡ Some r → Some x ≡ Some r
    go true g = at_key (same_text key x.key) g
    go false g = absurd (cc)
