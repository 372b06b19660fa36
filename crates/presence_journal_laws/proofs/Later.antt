-- Behind the same answers, histories that say the same still do, whatever subscribers did.
use Rattle.std.proofs.Common.{◌≡◌, Bool, true, false, cond, not, List, [], ◌∷◌, refl, sym, ◌∙◌, ap, arith}
use Rattle.std.specs.Prelude.{map}
use Rattle.std.specs.List.{filter}
use Rattle.presence_base.specs.Order.{same_replica}
use Rattle.presence_journal.specs.declared.step.Step.{Step}
use Rattle.presence_journal.specs.declared.entry.Outcome.{Outcome}
use Rattle.presence_journal.specs.declared.entry.Entry.{Entry}
use Rattle.presence_journal.specs.History.{History, Begin, Then, onto}
use Rattle.presence_journal.specs.Table.{IsLegal}
use Rattle.presence_journal.proofs.HistoryLemmas.{legal_before}
use Rattle.presence_journal_laws.specs.Later.{IsLike, is_of_subscribers, answers, StaysAlike, GoOnTellingTheSame}
use Rattle.presence_journal_laws.proofs.AlikeRows.{shown_same}
use Rattle.presence_journal_laws.proofs.AlikeTold.{turned, alike_tell_the_same}
use Rattle.presence_journal_laws.proofs.Covered.{begins_alike}
use Rattle.presence_journal_laws.proofs.Silent.{silent_alike}
use Rattle.presence_journal_laws.proofs.Next.{alike_next}

pub itself : (h : History) → IsLike h h
itself h = record {
  standings = λ r f. refl;
  covers = λ d. refl;
  rows = λ d. refl;
  older = λ n low. refl;
  chains = λ d r o s. refl;
  unused = λ c l. refl;
  deltas = λ k. (λ p. p, λ p. p);
  time = refl;
  last_cut = refl;
  own = refl;
  count = refl;
}

pub chained : (f g h : History) → IsLike f g → IsLike g h → IsLike f h
chained f g h a b = record {
  standings = λ r e. a.standings r (ap (same_replica r) b.own ∙ e) ∙ b.standings r e;
  covers = λ d. a.covers d ∙ b.covers d;
  rows = λ d. a.rows d ∙ b.rows d;
  older = λ n low. a.older n low ∙ b.older n low;
  chains = λ d r o s. a.chains d r (o ∙ sym b.own) (shown_same g h b d ∙ s) ∙ b.chains d r o s;
  unused = λ c l. a.unused c (omega (arith, l, b.count)) ∙ b.unused c l;
  deltas = λ k. (λ p. (b.deltas k).0 ((a.deltas k).0 p), λ p. (a.deltas k).1 ((b.deltas k).1 p));
  time = a.time ∙ b.time;
  last_cut = a.last_cut ∙ b.last_cut;
  own = a.own ∙ b.own;
  count = a.count ∙ b.count;
}

-- ---- answers

skipped : (e : Entry) (es : List Entry) → is_of_subscribers e.step ≡ true → answers (e ∷ es) ≡ answers es
skipped e es of = ap (λ b. map (λ (x : Entry). (x.step, x.outcome)) (cond (not b) (e ∷ filter (λ x. not (is_of_subscribers x.step)) es) (filter (λ x. not (is_of_subscribers x.step)) es))) of

counted : (e : Entry) (es : List Entry) → is_of_subscribers e.step ≡ false → answers (e ∷ es) ≡ (e.step, e.outcome) ∷ answers es
counted e es of = ap (λ b. map (λ (x : Entry). (x.step, x.outcome)) (cond (not b) (e ∷ filter (λ x. not (is_of_subscribers x.step)) es) (filter (λ x. not (is_of_subscribers x.step)) es))) of

abbrev first_of : Step × Outcome → List (Step × Outcome) → Step × Outcome
first_of x [] = x
first_of x (y ∷ ys) = y

abbrev rest_of : List (Step × Outcome) → List (Step × Outcome)
rest_of [] = []
rest_of (y ∷ ys) = ys

-- entries of subscribers alone
all_silent : (h : History) (fs : List Entry) → IsLegal (onto h fs) → answers fs ≡ [] → IsLike (onto h fs) h
all_silent h [] l none = itself h
all_silent h (f ∷ fs) l none = go (is_of_subscribers f.step) refl (all_silent (Then h f) fs l)
  where
    go : (b : Bool) → is_of_subscribers f.step ≡ b → (answers fs ≡ [] → IsLike (onto (Then h f) fs) (Then h f)) → IsLike (onto (Then h f) fs) h
    go true of ih = chained (onto (Then h f) fs) (Then h f) h (ih (sym (skipped f fs of) ∙ none)) (silent_alike h f (legal_before (Then h f) fs l) of)
    go false of ih = let w : (f.step, f.outcome) ∷ answers fs ≡ [] = sym (counted f fs of) ∙ none in absurd (cc)

-- what holds behind all later entries of the one, and those of the other that answer the same
abbrev Meets : List Entry → Type 0
Meets es = (g h : History) (fs : List Entry) → IsLike g h → IsLegal (onto g es) → IsLegal (onto h fs) → answers es ≡ answers fs → IsLike (onto g es) (onto h fs)

-- an entry of the one that is no subscriber's is met by one of the other
one_meets : (e : Entry) (es : List Entry) → is_of_subscribers e.step ≡ false → Meets es → Meets (e ∷ es)
one_meets e es of ih g h [] a lg lh same = let w : (e.step, e.outcome) ∷ answers es ≡ [] = sym (counted e es of) ∙ same in absurd (cc)
one_meets e es of ih g h (f ∷ fs) a lg lh same = go (is_of_subscribers f.step) refl (one_meets e es of ih g (Then h f) fs)
  where
    ge : IsLegal (Then g e)
    ge = legal_before (Then g e) es lg

    hf : IsLegal (Then h f)
    hf = legal_before (Then h f) fs lh

    go : (b : Bool) → is_of_subscribers f.step ≡ b → (IsLike g (Then h f) → IsLegal (onto (Then g e) es) → IsLegal (onto (Then h f) fs) → answers (e ∷ es) ≡ answers fs → IsLike (onto (Then g e) es) (onto (Then h f) fs)) → IsLike (onto (Then g e) es) (onto (Then h f) fs)
    go true sub later = later (chained g h (Then h f) a (turned (Then h f) h (silent_alike h f hf sub))) lg lh (same ∙ skipped f fs sub)
    go false sub later =
        let both : (e.step, e.outcome) ∷ answers es ≡ (f.step, f.outcome) ∷ answers fs = sym (counted e es of) ∙ (same ∙ counted f fs sub) in
        let first : (e.step, e.outcome) ≡ (f.step, f.outcome) = ap (first_of (e.step, e.outcome)) both in
        ih (Then g e) (Then h f) fs (alike_next g h e f a ge hf (ap (λ x. x.0) first) (ap (λ x. x.1) first)) lg lh (ap rest_of both)

all_meet : (es : List Entry) → Meets es
all_meet [] g h fs a lg lh same = chained g h (onto h fs) a (turned (onto h fs) h (all_silent h fs lh (sym same)))
all_meet (e ∷ es) g h fs a lg lh same = go (is_of_subscribers e.step) refl (all_meet es)
  where
    go : (b : Bool) → is_of_subscribers e.step ≡ b → Meets es → IsLike (onto (Then g e) es) (onto h fs)
    go true of ih = ih (Then g e) h fs (chained (Then g e) g h (silent_alike g e (legal_before (Then g e) es lg) of) a) lg lh (sym (skipped e es of) ∙ same)
    go false of ih = one_meets e es of ih g h fs a lg lh same

pub stays_alike : StaysAlike
stays_alike h s es fs c lg lh same = all_meet es (Begin s) h fs (begins_alike h s c) lg lh same

pub go_on_telling_the_same : GoOnTellingTheSame
go_on_telling_the_same h s es fs c lg lh same = alike_tell_the_same (onto (Begin s) es) (onto h fs) (stays_alike h s es fs c lg lh same)
