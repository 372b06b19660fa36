-- Lines that were all answered: nothing waits for a joined topic, and the client's lists of it mirror its rows.
use Rattle.std.proofs.Common.{◌≡◌, ◌≤◌, ◌^◌, ℕ, cond, List, [], ◌∷◌, ◌++◌, map, Option, Some, None, refl, sym, ◌∙◌, ap, subst, append-nil, inl, inr}
use Rattle.std.specs.List.{AllByRecursion}
use Rattle.std.proofs.lemmas.Option.{same_Some}
use Rattle.phx_message.specs.declared.message.Message.{Message}
use Rattle.presence_journal.specs.History.{History}
use Rattle.presence_journal.specs.Present.{listed}
use Rattle.presence_journal.specs.Queue.{taken}
use Rattle.presence_journal.specs.Table.{IsLegal}
use Rattle.presence_journal.proofs.Same.{same_text-refl}
use Rattle.presence_metas.specs.Listing.{Listing}
use Rattle.channel_rules.specs.Frames.{message_of}
use Rattle.channel_rules.specs.InForce.{Joined, InForce, find}
use Rattle.session_laws.specs.Keeping.{IsAnswer, IsItem, IsSaid, Mirror, InStepAt, InStep, AreApart, Past, behind, then_past, ruled, served, lined, all_lined, client_lists, IsMirrored, begun, fresh, StaysInStep, JoinedAreMirrored}
use Rattle.session_laws.specs.Mirrors.{mirror_from, Mirrors}
use Rattle.channel_rules.specs.Rules.{End, answers, full, memory}
use Rattle.channel_rules.specs.Said.{Said, plainly}
use Rattle.session_laws.proofs.KeptAsks.{lists_of, Fits, Stands, IsOf, all_of, all_both, all_others, same_text-sym}
use Rattle.session_laws.proofs.KeptRules.{IsNoFrame, answer_no_frame, all_and, Good, map-more, rules_come}
use Rattle.session_laws.proofs.KeptFrames.{client-more, passed_over}
use Rattle.session_laws.proofs.KeptWords.{same_lists}
use Rattle.session_laws.proofs.KeptDeliveries.{Even, even_fits, even_same, told, Dealt, Deals, delivery_deals}
use Rattle.session_laws.proofs.Mirroring.{frames_mirror}
use Rattle.session_laws.proofs.SoundRows.{HistorySound}
use Rattle.session_laws.proofs.SoundSteps.{StateSound}
use Rattle.session_laws.proofs.SoundValues.{IsFramed, IsHeard}

-- these messages tell plainly what was said, and what is in force stands as the client has it, whose lists were these; where F holds, all of it is sound
record Standing (F : Type 0) (base : List ℕ → Listing) (p : Past) : Type 0 where
  messages : List Message
  plain_are : map plainly p.said ≡ messages
  said : AllByRecursion IsSaid p.said
  framed : F → AllByRecursion IsFramed messages
  sound : F → StateSound p.session p.history
  stands : Stands (told base messages) p.session p.history

-- and nothing waits
record Kept (F : Type 0) (base : List ℕ → Listing) (p : Past) : Type 0 where
  messages : List Message
  plain_are : map plainly p.said ≡ messages
  said : AllByRecursion IsSaid p.said
  framed : F → AllByRecursion IsFramed messages
  sound : F → StateSound p.session p.history
  stands : Stands (told base messages) p.session p.history
  even : AllByRecursion (Even (told base messages) p.history) p.session.joined

plain_more : (before said : List Said) (ms more : List Message) → map plainly before ≡ ms → map plainly said ≡ more → map plainly (before ++ said) ≡ ms ++ more
plain_more before said ms more e f = map-more plainly before said ∙ (λ i. e i ++ f i)

-- answers are said
answers_said : (said : List Said) (ms : List Message) → map plainly said ≡ ms → AllByRecursion IsAnswer ms → AllByRecursion IsSaid said
answers_said said ms e h = go said (subst (AllByRecursion IsAnswer) (sym e) h)
  where
    go : (xs : List Said) → AllByRecursion IsAnswer (map plainly xs) → AllByRecursion IsSaid xs
    go [] h = tt
    go (x ∷ xs) h = (inl h.0, go xs h.1)

stands_same : (lists others : List ℕ → Listing) (s : InForce) (h : History) → ((t : List ℕ) → others t ≡ lists t) → Stands lists s h → Stands others s h
stands_same lists others s h same st = record {
  legal = st.legal;
  pid = st.pid;
  working = st.working;
  apart = st.apart;
  joined = all_of (Fits lists h) (Fits others h) (λ j f. record { topic = f.topic; slot = f.slot; lists_are = λ q e. same j.topic ∙ f.lists_are q e }) s.joined st.joined;
}

no_past : (q : Past) → ◌≡◌ {A = Option Past} None (Some q) → ⊥
no_past q e = cc

-- ---- a message

ruled_stands : (F : Type 0) (base : List ℕ → Listing) (p : Past) (k : Standing F base p) (e : End) (h : History) → Good F (told base k.messages) e h → (q : Past) → behind p.said e h ≡ Some q → Standing F base q
ruled_stands F base p k (answers ts s) h good q is = subst (Standing F base) (same_Some (record { said = p.said ++ ts; session = s; history = h }) q is) (record {
  messages = k.messages ++ good.unheard.messages;
  plain_are = plain_more p.said ts k.messages good.unheard.messages k.plain_are good.unheard.plain_are;
  said = all_and IsSaid p.said ts k.said (answers_said ts good.unheard.messages good.unheard.plain_are good.unheard.answers_all);
  framed = λ f. all_and IsFramed k.messages good.unheard.messages (k.framed f) (good.unheard.framed f);
  sound = good.sound;
  stands = stands_same (told base k.messages) (told base (k.messages ++ good.unheard.messages)) s h
      (λ t. client-more t (base t) k.messages good.unheard.messages ∙ passed_over t (client_lists t (base t) k.messages) good.unheard.messages (all_of IsAnswer IsNoFrame answer_no_frame good.unheard.messages good.unheard.answers_all)) good.stands;
})
ruled_stands F base p k full h good q is = absurd (no_past q is)
ruled_stands F base p k memory h good q is = absurd (no_past q is)

-- ---- a delivery

evens_stand : (lists : List ℕ → Listing) (s : InForce) (h g : History) → Stands lists s h → (others : List ℕ → Listing) → IsLegal g → AllByRecursion (Even others g) s.joined → Stands others s g
evens_stand lists s h g st others legal even = record {
  legal = legal;
  pid = st.pid;
  working = st.working;
  apart = st.apart;
  joined = all_of (Even others g) (Fits others g) (even_fits others g) s.joined even;
}

dealt_keeps : (F : Type 0) (base : List ℕ → Listing) (p : Past) (k : Standing F base p) (ts : List Said) (g : History) (d : Dealt F (told base k.messages) p.session [] [] p.session.joined ts p.session g) → Kept F base (record { said = p.said ++ ts; session = p.session; history = g })
dealt_keeps F base p k ts g d = record {
  messages = k.messages ++ d.messages;
  plain_are = plain_more p.said ts k.messages d.messages k.plain_are (ap (map plainly) d.said_are ∙ d.plain_are);
  said = all_and IsSaid p.said ts k.said (subst (AllByRecursion IsSaid) (sym d.said_are) (all_of IsItem IsSaid (λ x a. inr a) d.more d.items_all));
  framed = λ f. all_and IsFramed k.messages d.messages (k.framed f) (d.framed f);
  sound = λ f. record { joined = (k.sound f).joined; history = d.history f };
  stands = evens_stand (told base k.messages) p.session p.history g k.stands (told base (k.messages ++ d.messages)) d.legal now;
  even = now;
}
  where
    now : AllByRecursion (Even (told base (k.messages ++ d.messages)) g) p.session.joined
    now = all_of _ _ (even_same (told (told base k.messages) d.messages) (told base (k.messages ++ d.messages)) g (λ t. client-more t (base t) k.messages d.messages)) p.session.joined d.done_now

dealt_same : (F : Type 0) (lists : List ℕ → Listing) (s t : InForce) (js : List Joined) (ts : List Said) (g : History) → Dealt F lists s [] [] js ts t g → Dealt F lists s [] [] js ts s g
dealt_same F lists s t js ts g d = record { more = d.more; said_are = d.said_are; messages = d.messages; plain_are = d.plain_are; items_all = d.items_all; framed = d.framed; session = refl; legal = d.legal; history = d.history; done_before = d.done_before; done_now = d.done_now }

served_keeps : (F : Type 0) (base : List ℕ → Listing) (p : Past) (k : Standing F base p) (e : End) (g : History) → Deals F (told base k.messages) p.session [] [] p.session.joined e g → (q : Past) → behind p.said e g ≡ Some q → Kept F base q
served_keeps F base p k (answers ts t) g d q is =
    subst (Kept F base) ((λ i. record { said = p.said ++ ts; session = sym d.session i; history = g }) ∙ same_Some (record { said = p.said ++ ts; session = t; history = g }) q is)
    (dealt_keeps F base p k ts g (dealt_same F (told base k.messages) p.session t p.session.joined ts g d))
served_keeps F base p k full g d q is = absurd (no_past q is)
served_keeps F base p k memory g d q is = absurd (no_past q is)

-- ---- lines

then_some : (o : Option Past) (next : Past → Option Past) (q : Past) → then_past o next ≡ Some q → (p : Past) × (o ≡ Some p) × (next p ≡ Some q)
then_some None next q is = absurd (no_past q is)
then_some (Some p) next q is = (p, refl, is)

module _ (F : Type 0) (base : List ℕ → Listing) (routes : List (List ℕ × ℕ)) where
  line_keeps : (p : Past) (m : Message) (q : Past) → (F → IsHeard m) → Kept F base p → lined routes p m ≡ Some q → Kept F base q
  line_keeps p m q heard k is =
      let mid : (r : Past) × (ruled routes p m ≡ Some r) × (served r ≡ Some q) = then_some (ruled routes p m) served q is in
      let now : Standing F base p = record { messages = k.messages; plain_are = k.plain_are; said = k.said; framed = k.framed; sound = k.sound; stands = k.stands } in
      let first : Standing F base mid.0 =
      ruled_stands F base p now _ _ (rules_come F (told base k.messages) routes p.session p.history m (record { stands = k.stands; sound = k.sound; heard = heard })) mid.0 mid.1 in
      served_keeps F base mid.0 first _ _ (delivery_deals F (told base first.messages) mid.0.session mid.0.history first.sound first.stands.legal first.stands.joined first.stands.apart) q mid.2

  lines_keep : (ms : List Message) (p q : Past) → (F → AllByRecursion IsHeard ms) → Kept F base p → all_lined routes p ms ≡ Some q → Kept F base q
  lines_keep [] p q heard k is = subst (Kept F base) (same_Some p q is) k
  lines_keep (m ∷ ms) p q heard k is =
      let mid : (r : Past) × (lined routes p m ≡ Some r) × (all_lined routes r ms ≡ Some q) = then_some (lined routes p m) (λ r. all_lined routes r ms) q is in
      lines_keep ms mid.0 q (λ f. (heard f).1) (line_keeps p m mid.0 (λ f. (heard f).0) k mid.1) mid.2

-- ---- the laws

kept_in_step : (F : Type 0) (base : List ℕ → Listing) (p : Past) → Kept F base p → InStep p.session p.history
kept_in_step F base p k = record {
  legal = k.stands.legal;
  pid = k.stands.pid;
  working = k.stands.working;
  apart = k.stands.apart;
  joined = all_of (Even (told base k.messages) p.history) (InStepAt p.history) (λ j e. record { topic = e.topic; slot = e.slot; served = e.served }) p.session.joined k.even;
}

-- each topic is found at its own entry
found_behind : (k : Joined) (js : List Joined) (j : Joined) → find j.topic js ≡ Some j → IsOf k.topic j → find j.topic (k ∷ js) ≡ Some j
found_behind k js j found other = ap (λ b. cond b (Some k) (find j.topic js)) (same_text-sym k.topic j.topic other) ∙ found

found_own : (js : List Joined) → AreApart js → AllByRecursion (λ j. find j.topic js ≡ Some j) js
found_own [] h = tt
found_own (k ∷ js) h = (
  ap (λ b. cond b (Some k) (find k.topic js)) (same_text-refl k.topic),
  all_both (λ j. find j.topic js ≡ Some j) (IsOf k.topic) (λ j. find j.topic (k ∷ js) ≡ Some j) (found_behind k js) js (found_own js h.1) (all_others k.topic js h.0),
)

-- what was taken for the topic's join
lists_found : History → Option Joined → Listing
lists_found h None = []
lists_found h (Some j) = lists_of h j

in_step_kept : (F : Type 0) (s : InForce) (h : History) → (F → StateSound s h) → InStep s h → Kept F (λ t. lists_found h (find t s.joined)) (begun s h)
unfolding lists_found
in_step_kept F s h sound i = record {
  messages = [];
  plain_are = refl;
  said = tt;
  framed = λ f. tt;
  sound = sound;
  stands = record { legal = i.legal; pid = i.pid; working = i.working; apart = i.apart; joined = all_of (Even base h) (Fits base h) (even_fits base h) s.joined even };
  even = even;
}
  where
    base : List ℕ → Listing
    base t = lists_found h (find t s.joined)

    even : AllByRecursion (Even base h) s.joined
    even = all_both (InStepAt h) (λ j. find j.topic s.joined ≡ Some j) (Even base h) (λ j e f. record { topic = e.topic; slot = e.slot; served = e.served; lists_are = ap (lists_found h) f }) s.joined i.joined (found_own s.joined i.apart)

even_mirrors : (lists : List ℕ → Listing) (h : History) → IsLegal h → (j : Joined) → Even lists h j → Mirrors (lists j.topic) (listed h j.topic)
even_mirrors lists h legal j e =
    subst (λ (ls : Listing). Mirrors ls (listed h j.topic)) (sym e.lists_are)
    (subst (λ is. Mirrors (mirror_from [] (map (message_of j.join_ref j.topic) is)) (listed h j.topic)) (append-nil (taken h j.sub.number))
    (frames_mirror h legal j.sub.number j.topic e.topic [] e.served j.join_ref []))

-- what was said, told plainly
plain_mirror : (F : Type 0) (p : Past) → Kept F (λ t. []) p → Mirror (map plainly p.said) p
plain_mirror F p k =
    subst (λ (ms : List Message). Mirror ms p) (sym k.plain_are)
    (all_of (Even (told (λ t. []) k.messages) p.history) (λ j. Mirrors (client_lists j.topic [] k.messages) (listed p.history j.topic)) (even_mirrors (told (λ t. []) k.messages) p.history k.stands.legal) p.session.joined k.even)

kept_mirrored : (F : Type 0) (p : Past) → Kept F (λ t. []) p → IsMirrored p
kept_mirrored F p k = record {
  said = k.said;
  mirrors = λ ms h.
      all_of (λ j. Mirrors (client_lists j.topic [] (map plainly p.said)) (listed p.history j.topic)) (λ j. Mirrors (client_lists j.topic [] ms) (listed p.history j.topic))
      (λ j m. subst (λ (ls : Listing). Mirrors ls (listed p.history j.topic)) (same_lists (λ kind topic key extra. Unit {0}) j.topic p.said ms [] h) m) p.session.joined (plain_mirror F p k);
}

pub fresh_in_step : (pid : ℕ) (h : History) → pid ≤ 2 ^ 62 → IsLegal h → InStep (fresh pid) h
fresh_in_step pid h low legal = record { legal = legal; pid = low; working = refl; apart = tt; joined = tt }

-- nothing is said of how sound it is
untold : {A : Type 0} → ⊥ → A
untold f = absurd f

pub stays_in_step : StaysInStep
stays_in_step routes s h i ms p is =
    kept_in_step ⊥ (λ t. lists_found h (find t s.joined)) p (lines_keep ⊥ (λ t. lists_found h (find t s.joined)) routes ms (begun s h) p untold (in_step_kept ⊥ s h untold i) is)

-- where what was heard and the history were sound, so is what was said
pub record MirroredWhere (F : Type 0) (p : Past) : Type 0 where
  pub mirrored : IsMirrored p
  pub framed : F → AllByRecursion IsFramed (map plainly p.said)

where_kept : (F : Type 0) (p : Past) → Kept F (λ t. []) p → MirroredWhere F p
unfolding kept_mirrored
where_kept F p k = record { mirrored = kept_mirrored F p k; framed = λ f. subst (AllByRecursion IsFramed) (sym k.plain_are) (k.framed f) }

pub mirrored_where : (F : Type 0) (routes : List (List ℕ × ℕ)) (pid : ℕ) (h : History) → pid ≤ 2 ^ 62 → IsLegal h → (F → HistorySound h) → (ms : List Message) (p : Past) → (F → AllByRecursion IsHeard ms)
    → all_lined routes (begun (fresh pid) h) ms ≡ Some p → MirroredWhere F p
unfolding lists_found
mirrored_where F routes pid h low legal sound ms p heard is =
    where_kept F p (lines_keep F (λ t. []) routes ms (begun (fresh pid) h) p heard (in_step_kept F (fresh pid) h (λ f. record { joined = tt; history = sound f }) (fresh_in_step pid h low legal)) is)

pub joined_are_mirrored : JoinedAreMirrored
joined_are_mirrored routes pid h low legal ms p is = (mirrored_where ⊥ routes pid h low legal untold ms p untold is).mirrored
