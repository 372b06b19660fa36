-- A checkpoint is a sound Start, and what is told of a history in full can be its content.
use Rattle.std.proofs.Common.{◌≡◌, ℕ, Bool, true, false, not, ◌&&◌, refl, sym, ◌∙◌, ap, subst, arith}
use Rattle.std.specs.Prelude.{IsTrue, nat_le}
use Rattle.std.specs.List.{list_all}
use Rattle.presence_base.specs.declared.dots.Replica.{Replica}
use Rattle.presence_base.specs.declared.dots.Dot.{Dot}
use Rattle.presence_base.specs.Names.{is_node_name}
use Rattle.presence_base.specs.Refs.{IsCount}
use Rattle.orswot_core.specs.declared.form.Form.{Form}
use Rattle.orswot_core.specs.Telling.{ToldValue, covers, live_row}
use Rattle.orswot_core.proofs.OneFullFacts.{covers_full, rows_full}
use Rattle.delta_range.specs.Deltas.{DeltaValue, GoesOn}
use Rattle.delta_range.specs.Keeping.{IsNext}
use Rattle.presence_journal.specs.declared.entry.Start.{Start}
use Rattle.presence_journal.specs.History.{History, Begin, own, count, is_counted, status, is_gone, known, covered}
use Rattle.presence_journal.specs.Table.{IsStart, IsLegal, IsKept}
use Rattle.presence_journal.proofs.HistoryLemmas.{counted_parts, counted_from, known_from, known_parts, status-own}
use Rattle.presence_journal.proofs.Walking.{count-limit}
use Rattle.presence_journal_cuts.proofs.Histories.{last_cut-low}
use Rattle.presence_journal.proofs.Fresh.{own_is}
use Rattle.presence_journal_known.specs.Full.{IsFullOf}
use Rattle.presence_journal_cuts.proofs.KeptLemmas.{goes_on_from}
use Rattle.presence_journal_cuts.specs.Checkpoints.{kept_row, IsCheckpoint}

-- two tests that pass together are one
pub one_truth : (a b : Bool) → (a ≡ true → b ≡ true) → (b ≡ true → a ≡ true) → a ≡ b
one_truth true b f g = sym (f refl)
one_truth false true f g = g refl
one_truth false false f g = refl

-- the name and the incarnation of the own replica are within their limits

own_name : (h : History) → IsLegal h → IsTrue (is_node_name (own h).name)
own_name h l = (own_is h l).name

own_incarnation : (h : History) → IsLegal h → IsCount (own h).incarnation
own_incarnation h l = (own_is h l).incarnation

-- the own dots that were counted are covered, and no others

known_own : (h : History) (d : Dot) → IsLegal h → d.replica ≡ own h → known h d ≡ is_counted (own h) (count h) d
known_own h d l o = one_truth (known h d) (is_counted (own h) (count h) d)
    (λ k. let p = known_parts h l d o k in counted_from (own h) (count h) d o p.0 p.1)
    (λ c. let p = counted_parts (own h) (count h) d c in known_from h l d o p.1 p.2)

pub covered_own : (h : History) (d : Dot) → IsLegal h → d.replica ≡ own h → covered h d ≡ is_counted (own h) (count h) d
covered_own h d l o =
    ap (λ x. known h d && not (is_gone x)) (ap (status h) o ∙ status-own h)
    ∙ (and_true (known h d) ∙ known_own h d l o)
  where
    and_true : (b : Bool) → (b && true) ≡ b
    and_true true = refl
    and_true false = refl

own_dots : (h : History) (s : Start) (d : Dot) → IsCheckpoint h s → d.replica ≡ s.own → covers s.content d ≡ is_counted s.own s.count d
own_dots h s d c o =
    let st = c.stands in
    st.covers d
    ∙ (covered_own h d c.legal (o ∙ st.own)
    ∙ (λ i. is_counted (sym st.own i) (sym st.count i) d))

-- what is cut next goes on from the kept deltas
next_goes_on : (h : History) (s : Start) → IsCheckpoint h s → (d : DeltaValue) → GoesOn s.own s.last_cut d → IsNext s.kept.last d
next_goes_on h s c d next =
    let st = c.stands in
    goes_on_from h s.kept c.legal st.deltas d (record { owned = next.owned ∙ st.own; begins = next.begins ∙ st.last_cut })

pub is_sound : (h : History) (s : Start) → IsCheckpoint h s → IsStart s
is_sound h s c =
    let st = c.stands in
    let most = count-limit h c.legal in
    let low = last_cut-low h c.legal in
    record {
      name = subst (λ (r : Replica). IsTrue (is_node_name r.name)) (sym st.own) (own_name h c.legal);
      incarnation = subst (λ (r : Replica). IsCount r.incarnation) (sym st.own) (own_incarnation h c.legal);
      number = omega (arith, st.number, c.room);
      count = omega (arith, st.count, most);
      content = st.sound;
      own_dots = λ d o. own_dots h s d c o;
      cut = omega (arith, st.count, st.last_cut, low);
      older = st.low.0;
      older_low = ap (λ (n : ℕ). list_all (λ r. nat_le r.1 n) s.older) st.last_cut ∙ st.low.1;
      chains = st.long;
      kept = λ d next. next_goes_on h s c d next;
      subscribers = st.subscribers;
      subscribers_once = st.once;
      seated = st.seated;
    }

-- a journal can begin with it
pub begins_kept : (h : History) (s : Start) → IsCheckpoint h s → IsKept (Begin s)
begins_kept h s c = record { legal = is_sound h s c; limits = tt }

-- what is told of a history in full can be the content
pub full_stands : (form : Form) (h : History) (t : ToldValue) → IsFullOf form h t → ((d : Dot) → covers t d ≡ covered h d)
    × ((d : Dot) → live_row t d ≡ kept_row h d)
full_stands form h t f = (
  λ d. covers_full form f.0 t f.2 d ∙ f.1.covered d,
  λ d. rows_full form f.0 t f.2 d ∙ f.1.live d,
)
