-- What is told in full and by a cut in histories that say the same.
use Rattle.std.proofs.Common.{◌≡◌, ℕ, cond, ◌&&◌, is_none, Option, Some, None, sym, ◌∙◌, ap, arith}
use Rattle.presence_base.specs.declared.dots.Dot.{Dot}
use Rattle.presence_base.specs.Order.{same_replica}
use Rattle.dot_context.specs.Sets.{in_range}
use Rattle.orswot_core.specs.declared.form.Form.{Form}
use Rattle.orswot_core.specs.Telling.{ToldValue}
use Rattle.orswot_core.specs.Sets.{DotRows}
use Rattle.delta_range.specs.Deltas.{DeltaValue}
use Rattle.delta_range.specs.Keeping.{from_count}
use Rattle.orswot_core.specs.Full.{dot_of}
use Rattle.presence_journal.specs.History.{History, own, status, is_gone, live}
use Rattle.presence_journal.proofs.HistoryLemmas.{status-own}
use Rattle.presence_journal_known.specs.LeftOut.{HoldsCovered}
use Rattle.presence_journal_known.specs.Full.{IsFullOf}
use Rattle.presence_journal_cuts.specs.Cuts.{recent, IsCut}
use Rattle.presence_journal_cuts.specs.ToldParts.{row_of_count}
use Rattle.presence_journal_cuts.specs.KeptDeltas.{TellsOrAll, IsToldFrom}
use Rattle.presence_journal_laws.specs.Later.{IsLike, AlikeTellTheSame}
use Rattle.presence_journal_laws.proofs.Alikes.{status_same, hears_same, top_of}
use Rattle.presence_journal_laws.proofs.AlikeRows.{live_same, shown_same, present_same, listed_same}

pub turned : (g h : History) → IsLike g h → IsLike h g
turned g h a = record {
  standings = λ r e. sym (a.standings r (ap (same_replica r) (sym a.own) ∙ e));
  covers = λ d. sym (a.covers d);
  rows = λ d. sym (a.rows d);
  older = λ n low. sym (a.older n low);
  chains = λ d r o e. sym (a.chains d r (o ∙ a.own) (sym (shown_same g h a d) ∙ e));
  unused = λ c l. sym (a.unused c (omega (arith, l, a.count)));
  deltas = λ k. ((a.deltas k).1, (a.deltas k).0);
  time = sym a.time;
  last_cut = sym a.last_cut;
  own = sym a.own;
  count = sym a.count;
}

-- ---- in full

pub set_of : (g h : History) (s : DotRows) → IsLike g h → HoldsCovered h s → HoldsCovered g s
set_of g h s a f = record {
  covered = λ d. f.covered d ∙ sym (a.covers d);
  live = λ d. f.live d ∙ sym (a.rows d);
}

pub full_of : (form : Form) (g h : History) (t : ToldValue) → IsLike g h → IsFullOf form h t → IsFullOf form g t
full_of form g h t a f = (f.0, set_of g h f.0 a f.1, f.2)

-- ---- cuts

pub recent_same : (g h : History) → IsLike g h → (d : Dot) → recent g d ≡ recent h d
unfolding recent
recent_same g h a d = λ i. cond (in_range (a.own i) (a.last_cut i) (a.count i) d) (shown_same g h a d i) None

-- a count has the same row in both
row_same : (g h : History) → IsLike g h → (n : ℕ) → row_of_count g n ≡ row_of_count h n
row_same g h a n = ap (λ r. live g (dot_of r n)) a.own ∙ live_same g h a (dot_of (own h) n) (ap is_gone (status-own h))

pub cut_of : (g h : History) (c : DeltaValue) → IsLike g h → IsCut h c → IsCut g c
cut_of g h c a is = record {
  owner = is.owner ∙ sym a.own;
  from = is.from ∙ sym a.last_cut;
  to = is.to ∙ sym a.count;
  before = λ n low. is.before n low ∙ sym (λ i. a.older n low i && is_none (row_same g h a n i));
  rows = λ d. is.rows d ∙ sym (recent_same g h a d);
  in_order = is.in_order;
}

-- ---- from a count on

tells_of : (form : Form) (g h : History) (t : ToldValue) → IsLike g h → (o : Option DeltaValue) → TellsOrAll form o h t → TellsOrAll form o g t
tells_of form g h t a (Some d) p = p
tells_of form g h t a None p = full_of form g h t a p

pub told_from_of : (form : Form) (g h : History) (n : ℕ) (t : ToldValue) → IsLike g h → IsToldFrom form h n t → IsToldFrom form g n t
told_from_of form g h n t a f = record {
  kept = f.kept;
  of = (a.deltas f.kept).1 f.of;
  tells = tells_of form g h t a (from_count form f.kept n) f.tells;
}

pub alike_tell_the_same : AlikeTellTheSame
alike_tell_the_same g h a =
    let b = turned g h a in
    record {
      status = status_same g h a;
      hears = hears_same g h a;
      covered = a.covers;
      top = λ r n. (top_of g h r n a.covers, top_of h g r n b.covers);
      shown = shown_same g h a;
      present = present_same g h a;
      listed = listed_same g h a;
      full = λ form t. (full_of form g h t a, full_of form h g t b);
      cut = λ c. (cut_of g h c a, cut_of h g c b);
      told_from = λ form n t. (told_from_of form g h n t a, told_from_of form h g n t b);
    }
