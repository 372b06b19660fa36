-- What the contract of a shard's call says, said by the plain table.
use Rattle.std.proofs.Common.{◌≡◌, ℕ, ◌+◌, ◌^◌, Bool, true, false, cond, ◌&&◌, ◌||◌, nat_eq, nat_lt, nat_le, List, [], ◌∷◌, Option, Some, None, is_some, Result, Ok, Err, refl, sym, ◌∙◌, ap, subst, inl, inr}
use Rattle.std.proofs.lemmas.Option.{same_Some}
use Rattle.std.specs.Prelude.{Vec}
use Rattle.std.specs.Global.{Global}
use Rattle.serde_json.specs.Data.{Data}
use Rattle.presence_base.specs.declared.dots.Dot.{Dot}
use Rattle.presence_base.specs.declared.row.Row.{Row}
use Rattle.presence_journal.specs.declared.step.Step.TheVariants as steps_are
use Rattle.presence_journal.specs.declared.entry.Outcome.TheVariants as outcomes_are
use Rattle.presence_journal.specs.declared.journal.TheConstants.{MAX_ENTRIES}
use Rattle.presence_journal.specs.declared.rows.Item.{Item}
use Rattle.presence_journal.specs.declared.step.Step.{Step}
use Rattle.presence_journal.specs.declared.entry.Outcome.{Outcome}
use Rattle.presence_journal.specs.History as journal
use Rattle.presence_journal.specs.History.{History, Then}
use Rattle.presence_journal.specs.Present as rooms
use Rattle.presence_journal.specs.Queue.{topic_of, queue, items_given}
use Rattle.presence_journal.specs.Table.{IsLegal, tracked, updated, rows_of_pid, rows_of_key, listed_key, with_outcome, accepted, after}
use Rattle.presence_journal.specs.Table as steps
use Rattle.tracker_shard.specs.declared.shard.Sub.{Sub}
use Rattle.tracker_shard.specs.declared.fault.ShardFault.{ShardFault}
use Rattle.tracker_shard.specs.declared.fault.ShardFault.TheVariants.{AlreadyTracked, NoPresence, ClockFull, JournalFull, NoSub, BadIncarnation, OutOfMemory}
use Rattle.tracker_shard.specs.Steps as shard
use Rattle.tracker_shard.specs.Steps.{Stepped, Answers, IsDue, MayRunOut, new_dot}
use Rattle.tracker_shard.specs.Calls.{always, finds}
use Rattle.presence_table.specs.Plain.{Table, table}
use Rattle.presence_table.specs.Plain as plain
use Rattle.presence_table.specs.Laws.{SaysTheSame}
use Rattle.presence_table.specs.Calls.{Performed, Performs}
use Rattle.presence_table.specs.Calls as calls
use Rattle.presence_table.specs.CallLaws.{Keeps, KeepsHere, KeepsDot, KeepsNothing, here, nothing, CallsArePlain}
use Rattle.presence_table.proofs.Subscribers.{at_topic}
use Rattle.presence_table.proofs.Outcomes.{key_same, table_is_plain}

-- where no refusal stands, the subscriber is there, and the journal has room
none_stands : (found full some : Bool) (c : ShardFault) → cond found (cond full (Some JournalFull) (cond some None (Some c))) (Some NoSub) ≡ None → (found ≡ true) × (full ≡ false)
none_stands true false some c e = (refl, refl)
none_stands true true some c e = absurd (cc)
none_stands false full some c e = absurd (cc)

cause_same : (s : Step) → calls.cause s ≡ shard.cause s
cause_same (steps_are.Rebirth i) = refl
cause_same _ = refl

module _ (h : History) (l : IsLegal h) where
  says : SaysTheSame h (table h)
  says = table_is_plain h l

  full_same : calls.is_full (table h) ≡ journal.is_full h
  full_same = λ i. nat_le MAX_ENTRIES (says.parts.entries i) || nat_le (2 ^ 62) (says.parts.last i)

  refusal_same : (found there : Bool) (s : Step) → there ≡ found → calls.refusal there (table h) s ≡ shard.refusal found h s
  refusal_same found there s is = λ i. cond (is i) (cond (full_same i) (Some JournalFull) (cond (is_some (says.outcome s i)) None (Some (cause_same s i)))) (Some NoSub)

  entered_same : (seat : Option ℕ) (s : Step) (o : Option Outcome) → calls.entered h seat s o ≡ with_outcome h s seat o
  entered_same seat s None = refl
  entered_same seat s (Some o) = λ i. Then h (record { number = says.parts.last i + 1; seat = seat; step = s; outcome = o })

  after_is : (seat : Option ℕ) (s : Step) → journal.is_full h ≡ false → after h s seat ≡ with_outcome h s seat (steps.outcome_of h s)
  unfolding after accepted
  after_is seat s f = ap (λ b. with_outcome h s seat (cond b None (steps.outcome_of h s))) f

module _ {A : Type 0} (Says Gives : A → Type 0) (found : Bool) (old new : History) (seat : Option ℕ) (s : Step) (gives : found ≡ true → (x : A) → Says x → Gives x) where
  abbrev Done : Option ShardFault → Result A ShardFault → Type 0
  Done f r = Performed Gives f (steps.outcome_of old s) old (with_outcome old s seat (steps.outcome_of old s)) new r

  memory : (f : Option ShardFault) → MayRunOut f → new ≡ old → Done f (Err OutOfMemory)
  memory None d m = m
  memory (Some NoSub) d m = absurd d
  memory (Some JournalFull) d m = absurd d
  memory (Some AlreadyTracked) d m = (inr refl, m)
  memory (Some NoPresence) d m = (inr refl, m)
  memory (Some ClockFull) d m = (inr refl, m)
  memory (Some BadIncarnation) d m = (inr refl, m)
  memory (Some OutOfMemory) d m = (inr refl, m)

  room : IsLegal old → shard.refusal found old s ≡ None → new ≡ after old s seat → new ≡ with_outcome old s seat (steps.outcome_of old s)
  room l d e = e ∙ after_is old l seat s (none_stands found (journal.is_full old) (is_some (steps.outcome_of old s)) (shard.cause s) d).1

  done : IsLegal old → (r : Result A ShardFault) → Stepped old new seat s r → Answers Says (steps.outcome_of old s) r → IsDue r (shard.refusal found old s) → Done (shard.refusal found old s) r
  done l (Ok x) m a d =
      subst (λ f. Done f (Ok x)) (sym d)
      (gives (none_stands found (journal.is_full old) (is_some (steps.outcome_of old s)) (shard.cause s) d).0 x a, room l d m.journal)
  done l (Err AlreadyTracked) m a d = subst (λ f. Done f (Err AlreadyTracked)) (sym d) (a, room l d m.journal)
  done l (Err NoPresence) m a d = subst (λ f. Done f (Err NoPresence)) (sym d) (a, room l d m.journal)
  done l (Err ClockFull) m a d = subst (λ f. Done f (Err ClockFull)) (sym d) (inl refl, m)
  done l (Err JournalFull) m a d = subst (λ f. Done f (Err JournalFull)) (sym d) (refl, m)
  done l (Err NoSub) m a d = subst (λ f. Done f (Err NoSub)) (sym d) (refl, m)
  done l (Err BadIncarnation) m a d = subst (λ f. Done f (Err BadIncarnation)) (sym d) (inl refl, m)
  done l (Err OutOfMemory) m a d = memory (shard.refusal found old s) d m

across : {A : Type 0} (G : A → Type 0) (f g : Option ShardFault) (o p : Option Outcome) (old new next later : History) (r : Result A ShardFault) → f ≡ g → o ≡ p → next ≡ later → Performed G f o old next new r → Performed G g p old later new r
across G f g o p old new next later r a b c d =
    subst (λ (n : History). Performed G g p old n new r) c
    (subst (λ (y : Option Outcome). Performed G g y old next new r) b
    (subst (λ (x : Option ShardFault). Performed G x o old next new r) a d))

keeps : {A : Type 0} (Says : History → A → Type 0) (Gives : Table → A → Type 0) (there : History → Bool) (is_there : Table → Bool) (s : Step) → ((h : History) → IsLegal h → is_there (table h) ≡ there h) → ((h : History) → IsLegal h → there h ≡ true → (x : A) → Says h x → Gives (table h) x) → Keeps Says Gives there is_there s
keeps Says Gives there is_there s same gives old new seat r p =
    across (Gives (table old)) (shard.refusal (there old) old s) (calls.refusal (is_there (table old)) (table old) s) (steps.outcome_of old s) (plain.outcome_of (table old) s) old new
    (with_outcome old s seat (steps.outcome_of old s)) (calls.entered old seat s (plain.outcome_of (table old) s)) r
    (sym (refusal_same old p.legal (there old) (is_there (table old)) s (same old p.legal)))
    (sym ((says old p.legal).outcome s))
    (sym (entered_same old p.legal seat s (steps.outcome_of old s)) ∙ ap (calls.entered old seat s) (sym ((says old p.legal).outcome s)))
    (done (Says old) (Gives (table old)) (there old) old new seat s (gives old p.legal) p.legal r p.step p.answer p.due)

keeps_here : {A : Type 0} (Says : History → A → Type 0) (Gives : Table → A → Type 0) (s : Step) → ((h : History) → IsLegal h → (x : A) → Says h x → Gives (table h) x) → KeepsHere Says Gives s
keeps_here Says Gives s gives = keeps Says Gives always here s (λ h l. refl) (λ h l there x a. gives h l x a)

-- the dot of a row that is made

counted_dot : (h : History) (b : Bool) (o : Outcome) (d : Dot) → (new_dot (Some o) ≡ Some d → d ≡ journal.next_dot h) → new_dot (cond b (Some o) None) ≡ Some d → d ≡ journal.next_dot h
counted_dot h true o d f e = f e
counted_dot h false o d f e = absurd (cc)

tracked_dot : (h : History) (xs : List (Dot × Row)) (d : Dot) → new_dot (tracked h xs) ≡ Some d → d ≡ journal.next_dot h
tracked_dot h [] d e = counted_dot h (nat_lt (journal.count h) (2 ^ 62)) (outcomes_are.Added (journal.next_dot h)) d (λ f. same_Some d (journal.next_dot h) (sym f)) e
tracked_dot h (x ∷ xs) d e = absurd (cc)

updated_dot : (h : History) (xs : List (Dot × Row)) (d : Dot) → new_dot (updated h xs) ≡ Some d → d ≡ journal.next_dot h
updated_dot h [] d e = absurd (cc)
updated_dot h (x ∷ xs) d e = counted_dot h (nat_lt (journal.count h) (2 ^ 62)) (outcomes_are.Replaced (journal.next_dot h) x.0) d (λ f. same_Some d (journal.next_dot h) (sym f)) e

track_dot : (h : History) (pid : ℕ) (topic key : List ℕ) (meta : Data) (d : Dot) → new_dot (steps.outcome_of h (steps_are.Track pid topic key meta)) ≡ Some d → d ≡ journal.next_dot h
unfolding steps.outcome_of
track_dot h pid topic key meta d e = tracked_dot h (rows_of_key h pid topic key) d e

update_dot : (h : History) (pid : ℕ) (topic key : List ℕ) (meta : Data) (d : Dot) → new_dot (steps.outcome_of h (steps_are.Update pid topic key meta)) ≡ Some d → d ≡ journal.next_dot h
unfolding steps.outcome_of
update_dot h pid topic key meta d e = updated_dot h (rows_of_key h pid topic key) d e

next_same : (h : History) → IsLegal h → journal.next_dot h ≡ plain.next_dot (table h)
next_same h l = λ i. record { replica = sym (says h l).parts.own i; count = sym (says h l).parts.count i + 1 }

-- a subscriber that is there

found_same : (h : History) → IsLegal h → (slot number : ℕ) → calls.is_found (table h) slot number ≡ shard.is_found h slot number
found_same h l slot number = ap (λ x. is_some x && nat_eq slot 0) ((says h l).parts.subscribers number) ∙ go (topic_of h number)
  where
    go : (o : Option (List ℕ)) → (is_some (at_topic o (queue h number)) && nat_eq slot 0) ≡ (is_some o && nat_eq slot 0)
    go None = refl
    go (Some t) = refl

given_there : (h : History) → IsLegal h → (slot number max : ℕ) → shard.is_found h slot number ≡ true → plain.given (table h) number max ≡ items_given h number max
given_there h l slot number max there = go (topic_of h number) refl there
  where
    go : (o : Option (List ℕ)) → topic_of h number ≡ o → (is_some o && nat_eq slot 0) ≡ true → plain.given (table h) number max ≡ items_given h number max
    go None e f = absurd (cc)
    go (Some t) e f = (says h l).given number t e max

keeps_dot : (s : Step) → ((h : History) (d : Dot) → new_dot (steps.outcome_of h s) ≡ Some d → d ≡ journal.next_dot h) → KeepsDot s
keeps_dot s is = keeps_here {A = Dot} (λ h d. new_dot (steps.outcome_of h s) ≡ Some d) (λ t d. (new_dot (plain.outcome_of t s) ≡ Some d) × (d ≡ plain.next_dot t)) s
    (λ h l d e. (ap new_dot ((says h l).outcome s) ∙ e, is h d e ∙ next_same h l))

keeps_nothing : (s : Step) → KeepsNothing s
keeps_nothing s = keeps_here {A = Unit {0}} nothing nothing s (λ h l x e. tt)

untracks : (pid : ℕ) (topic key : List ℕ) → KeepsHere {A = Vec Dot Global} (λ h ds. ds.items ≡ rooms.dots_of (rows_of_key h pid topic key)) (λ t ds. ds.items ≡ plain.dots_of (plain.under key (plain.mine t pid topic))) (steps_are.Untrack pid topic key)
untracks pid topic key =
    keeps_here {A = Vec Dot Global} (λ h ds. ds.items ≡ rooms.dots_of (rows_of_key h pid topic key)) (λ t ds. ds.items ≡ plain.dots_of (plain.under key (plain.mine t pid topic))) (steps_are.Untrack pid topic key)
    (λ h l ds e. e ∙ ap plain.dots_of (sym (key_same h (table h) (says h l).parts pid topic key)))

untracks_all : (pid : ℕ) (topic : List ℕ) → KeepsHere {A = Vec Dot Global} (λ h ds. ds.items ≡ rooms.dots_of (rows_of_pid h pid topic)) (λ t ds. ds.items ≡ plain.dots_of (plain.mine t pid topic)) (steps_are.UntrackAll pid topic)
untracks_all pid topic =
    keeps_here {A = Vec Dot Global} (λ h ds. ds.items ≡ rooms.dots_of (rows_of_pid h pid topic)) (λ t ds. ds.items ≡ plain.dots_of (plain.mine t pid topic)) (steps_are.UntrackAll pid topic)
    (λ h l ds e. e ∙ ap plain.dots_of (sym ((says h l).of_session pid topic)))

lists : (topic : List ℕ) → KeepsHere {A = List (Dot × Row)} (λ h rows. rows ≡ rooms.listed h topic) (λ t rows. rows ≡ plain.listed t topic) (steps_are.List topic)
lists topic =
    keeps_here {A = List (Dot × Row)} (λ h rows. rows ≡ rooms.listed h topic) (λ t rows. rows ≡ plain.listed t topic) (steps_are.List topic)
    (λ h l rows e. e ∙ sym ((says h l).listed topic))

gets : (topic key : List ℕ) → KeepsHere {A = Vec (Dot × Row) Global} (λ h rows. rows.items ≡ listed_key h topic key) (λ t rows. rows.items ≡ plain.under key (plain.listed t topic)) (steps_are.Get topic key)
gets topic key =
    keeps_here {A = Vec (Dot × Row) Global} (λ h rows. rows.items ≡ listed_key h topic key) (λ t rows. rows.items ≡ plain.under key (plain.listed t topic)) (steps_are.Get topic key)
    (λ h l rows e. e ∙ sym ((says h l).of_key topic key))

subscribes : (topic : List ℕ) → KeepsHere {A = Sub} (λ h sub. (sub.number ≡ journal.last_number h + 1) × (sub.slot ≡ 0)) (λ t sub. (sub.number ≡ t.last + 1) × (sub.slot ≡ 0)) (steps_are.Subscribe topic)
subscribes topic =
    keeps_here {A = Sub} (λ h sub. (sub.number ≡ journal.last_number h + 1) × (sub.slot ≡ 0)) (λ t sub. (sub.number ≡ t.last + 1) × (sub.slot ≡ 0)) (steps_are.Subscribe topic)
    (λ h l sub e. (e.0 ∙ ap (λ n. n + 1) (sym (says h l).parts.last), e.1))

takes : (sub : Sub) (max : ℕ) → Keeps {A = Vec Item Global} (λ h items. items.items ≡ items_given h sub.number max) (λ t items. items.items ≡ plain.given t sub.number max) (finds sub) (λ t. calls.is_found t sub.slot sub.number) (steps_are.Take sub.number max)
takes sub max =
    keeps {A = Vec Item Global} (λ h items. items.items ≡ items_given h sub.number max) (λ t items. items.items ≡ plain.given t sub.number max) (finds sub) (λ t. calls.is_found t sub.slot sub.number) (steps_are.Take sub.number max)
    (λ h l. found_same h l sub.slot sub.number)
    (λ h l there items e. e ∙ sym (given_there h l sub.slot sub.number max there))

ends : (sub : Sub) → Keeps {A = Unit {0}} nothing nothing (finds sub) (λ t. calls.is_found t sub.slot sub.number) (steps_are.Unsubscribe sub.number)
ends sub =
    keeps {A = Unit {0}} nothing nothing (finds sub) (λ t. calls.is_found t sub.slot sub.number) (steps_are.Unsubscribe sub.number)
    (λ h l. found_same h l sub.slot sub.number)
    (λ h l there x e. tt)

goes_on : (i : ℕ) → KeepsHere {A = List (Dot × Dot)} (λ h pairs. steps.outcome_of h (steps_are.Rebirth i) ≡ Some (outcomes_are.Reborn pairs)) (λ t pairs. plain.outcome_of t (steps_are.Rebirth i) ≡ Some (outcomes_are.Reborn pairs)) (steps_are.Rebirth i)
goes_on i =
    keeps_here {A = List (Dot × Dot)} (λ h pairs. steps.outcome_of h (steps_are.Rebirth i) ≡ Some (outcomes_are.Reborn pairs)) (λ t pairs. plain.outcome_of t (steps_are.Rebirth i) ≡ Some (outcomes_are.Reborn pairs)) (steps_are.Rebirth i)
    (λ h l pairs e. (says h l).outcome (steps_are.Rebirth i) ∙ e)

pub calls_are_plain : CallsArePlain
calls_are_plain =
    record {
      track = λ pid topic key meta. keeps_dot (steps_are.Track pid topic key meta) (λ h d e. track_dot h pid topic key meta d e);
      update = λ pid topic key meta. keeps_dot (steps_are.Update pid topic key meta) (λ h d e. update_dot h pid topic key meta d e);
      untrack = untracks;
      untrack_all = untracks_all;
      list = lists;
      get = gets;
      subscribe = subscribes;
      take = takes;
      unsubscribe = ends;
      shout = λ topic payload. keeps_nothing (steps_are.Shout topic payload);
      heard = λ replica now. keeps_nothing (steps_are.Heard replica now);
      tick = λ now. keeps_nothing (steps_are.Tick now);
      permdown = λ replica. keeps_nothing (steps_are.PermDown replica);
      merge = λ told. keeps_nothing (steps_are.Merge told);
      rebirth = goes_on;
    }
