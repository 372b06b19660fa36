-- What calls give in pieces leads a client's lists to where what the port inside gives does.
use Rattle.std.proofs.Common.{◌≡◌, ℕ, nat_eq, nat_lt, length, Bool, true, false, cond, List, [], ◌∷◌, ◌++◌, Option, Some, None, Result, Ok, Err, is_ok, inl, inr, refl, sym, ◌∙◌, ap, subst, append-nil, append_assoc}
use Rattle.std.specs.Str.{bytes_eq}
use Rattle.std.proofs.lemmas.Bool.{and_parts, eqb-true, or_parts}
use Rattle.std.proofs.lemmas.Option.{same_Some}
use Rattle.std.proofs.lemmas.Slice.Eq.{bytes_eq-Decides}
use Rattle.phx_message.specs.declared.message.MsgRef.{MsgRef}
use Rattle.presence_base.specs.declared.dots.Dot.{Dot}
use Rattle.presence_base.specs.declared.row.Row.{Row}
use Rattle.presence_journal.specs.declared.rows.Item.{Item}
use Rattle.presence_journal.specs.declared.rows.Item.TheVariants as items_are
use Rattle.presence_journal.specs.History.{History}
use Rattle.presence_metas.specs.Fold.{meta_at}
use Rattle.presence_metas.specs.Listing.{Listing}
use Rattle.presence_metas.proofs.Lookups.{Rises, none_rises}
use Rattle.channel_pieces.specs.Laws.{untold_items}
use Rattle.channel_pieces.specs.Pieces.{begun, is_to, left_of, Tells}
use Rattle.channel_pieces.specs.declared.telling.UntoldState.{UntoldState}
use Rattle.channel_rules.specs.declared.refusal.Refusal.{Refusal}
use Rattle.tracker_shard.specs.declared.shard.Sub.{Sub}
use Rattle.channel_rules.specs.Asks.{Ask, Answer, ByAnyone, Call, Made, track, update, untrack, untrack_all, list, get, subscribe, take, unsubscribe, waits, shout}
use Rattle.presence_stdio.specs.Local.{LocalStep}
use Rattle.session_laws.specs.Mirrors.{given_to, given_by}
use Rattle.session_laws.proofs.Givings.{all_frames_mirror, calls_give}
use Rattle.session_laws.specs.Pieces.{given_of, given_in, ends, some_ends, untold_of, numbered, PiecesLead, PiecesMirror}
use Rattle.channel_pieces.specs.Piecewise.{lone, left_by, TellsOr, GivesAlone, GivesAnswer, GivesPiece, Takes, Waits, Piecewise}
use Rattle.session_laws.proofs.Alike.{Alike, alike_refl, alike_trans, reads_all, all_alike, all_rises, reads_more}
use Rattle.session_laws.proofs.PieceReading.{next_read}

-- ---- what is untold

no_items : (b : Bool) → cond {A = List Item} b [] [] ≡ []
no_items true = refl
no_items false = refl

-- who is told a state has its topic and number
told_to : (mine : List ℕ → ℕ → Bool) (topic : List ℕ) (number : ℕ) (u : UntoldState) → is_to topic number u ≡ true → mine topic number ≡ mine u.topic u.number
told_to mine topic number u e =
    let parts = and_parts (bytes_eq u.topic topic) (nat_eq u.number number) e in
    sym (ap (λ t. mine t u.number) ((bytes_eq-Decides u.topic topic).0 parts.0) ∙ ap (mine topic) (eqb-true u.number number parts.1))

-- what is left of a subscriber's state is its own
untold_left : (mine : List ℕ → ℕ → Bool) (u : UntoldState) (next : ℕ) → untold_of mine (left_of u next) ≡ cond (mine u.topic u.number) (untold_items (left_of u next)) []
untold_left mine u next = go (nat_lt next (length u.rows))
  where
    go : (b : Bool) → untold_of mine (cond b (Some (record u { told = next })) None) ≡ cond (mine u.topic u.number) (untold_items (cond b (Some (record u { told = next })) None)) []
    go true = refl
    go false = sym (no_items (mine u.topic u.number))

-- another subscriber's end leaves it
untold_kept : (mine : List ℕ → ℕ → Bool) (gone : Bool) (topic : List ℕ) (number : ℕ) (o : Option UntoldState) → cond gone (mine topic number) false ≡ false
    → untold_of mine (left_by gone topic number o) ≡ untold_of mine o
untold_kept mine false topic number o h = refl
untold_kept mine true topic number None h = refl
untold_kept mine true topic number (Some u) h = go (is_to topic number u) refl
  where
    go : (b : Bool) → is_to topic number u ≡ b → untold_of mine (cond b None (Some u)) ≡ cond (mine u.topic u.number) (untold_items (Some u)) []
    go false e = refl
    go true e = sym (ap (λ c. cond c (untold_items (Some u)) []) (sym (told_to mine topic number u e) ∙ h))

-- ---- what one call gives

lone_is : (items : List Item) (rows : List (Dot × Row)) → lone items ≡ Some rows → items ≡ items_are.State rows ∷ []
lone_is [] rows e = absurd (cc)
lone_is (items_are.State x ∷ []) rows e = ap (λ y. items_are.State y ∷ []) (same_Some x rows e)
lone_is (items_are.State x ∷ i ∷ is) rows e = absurd (cc)
lone_is (items_are.Diff d ∷ is) rows e = absurd (cc)
lone_is (items_are.Shout p ∷ is) rows e = absurd (cc)

module _ (mine : List ℕ → ℕ → Bool) (r : Option MsgRef) (t : List ℕ) (ls ks : Listing) (h : Rises ls) where
  -- a piece, and what is then untold
  told : (u : UntoldState) (items : List Item) (after : Option UntoldState) → Tells (Some u) items after
      → Alike (reads_all r t (reads_all r t ls (cond (mine u.topic u.number) items [])) (untold_of mine after)) (reads_all r t ls (untold_of mine (Some u)))
  told u items after (item, is, next) = go (mine u.topic u.number) refl
    where
      left : untold_of mine after ≡ cond (mine u.topic u.number) (untold_items after) []
      left = ap (untold_of mine) next.2 ∙ (untold_left mine u next.0 ∙ ap (λ o. cond (mine u.topic u.number) (untold_items o) []) (sym next.2))

      go : (b : Bool) → mine u.topic u.number ≡ b
          → Alike (reads_all r t (reads_all r t ls (cond b items [])) (untold_of mine after)) (reads_all r t ls (cond b (untold_items (Some u)) []))
      go true e = rw (is, left, e) (next_read r t ls u item after next h)
      go false e = rw (left, e) (alike_refl ls h)

  -- a take's answer where the state of its subscriber was to be told
  told_or : (u : UntoldState) (answer : Result (List Item) Refusal) (topic : List ℕ) (sub : Sub) (max : ℕ) (after : Option UntoldState) → mine topic sub.number ≡ mine u.topic u.number
      → TellsOr (Some u) answer after → Alike (reads_all r t (reads_all r t ls (given_of mine (take topic sub max) answer)) (untold_of mine after)) (reads_all r t ls (untold_of mine (Some u)))
  told_or u (Ok items) topic sub max after e tells = rw e (told u items after tells)
  told_or u (Err fault) topic sub max after e (f, is) = rw is (alike_refl (reads_all r t ls (untold_of mine (Some u))) (all_rises r t ls (untold_of mine (Some u)) h))

  -- what the port inside gave, and what was given of it
  given_leads : (topic : List ℕ) (sub : Sub) (max : ℕ) (inner a : Result (List Item) Refusal) (after : Option UntoldState) → Alike ls ks → GivesAnswer topic sub.number inner a after
      → Alike (reads_all r t (reads_all r t ls (given_of mine (take topic sub max) a)) (untold_of mine after)) (reads_all r t ks (given_of mine (take topic sub max) inner))
  given_leads topic sub max (Err fault) a after alike (is, none) = rw (is, none) alike
  given_leads topic sub max (Ok items) a after alike gives = go (lone items) refl gives
    where
      go : (o : Option (List (Dot × Row))) → lone items ≡ o → GivesAlone o topic sub.number items a after
          → Alike (reads_all r t (reads_all r t ls (given_of mine (take topic sub max) a)) (untold_of mine after)) (reads_all r t ks (cond (mine topic sub.number) items []))
      go None e (is, none) = rw (is, none) (all_alike r t ls ks (cond (mine topic sub.number) items []) alike)
      go (Some rows) e tells =
          alike_trans _ _ _ (told_or (begun topic sub.number rows) a topic sub max after refl tells)
          (subst (λ is. Alike (reads_all r t ls (untold_of mine (Some (begun topic sub.number rows)))) (reads_all r t ks (cond (mine topic sub.number) is []))) (sym (lone_is items rows e))
          (all_alike r t ls ks (cond (mine topic sub.number) (items_are.State rows ∷ []) []) alike))

  -- a piece, or nothing, where the port inside isn't asked
  piece_leads : (topic : List ℕ) (sub : Sub) (max : ℕ) (u : UntoldState) (a : Result (List Item) Refusal) (after : Option UntoldState) → Alike (reads_all r t ls (untold_of mine (Some u))) ks
      → GivesPiece (is_to topic sub.number u) u a after → Alike (reads_all r t (reads_all r t ls (given_of mine (take topic sub max) a)) (untold_of mine after)) ks
  piece_leads topic sub max u a after alike gives = go (is_to topic sub.number u) refl gives
    where
      go : (b : Bool) → is_to topic sub.number u ≡ b → GivesPiece b u a after → Alike (reads_all r t (reads_all r t ls (given_of mine (take topic sub max) a)) (untold_of mine after)) ks
      go true e tells = alike_trans _ _ _ (told_or u a topic sub max after (told_to mine topic sub.number u e) tells) alike
      go false e (is, same) = rw (is, same, no_items (mine topic sub.number)) alike

-- ---- calls

-- The call, or the calls, were answered by these of the port inside: whatever lists are alike with what was untold stay so.
abbrev Leading : (List ℕ → ℕ → Bool) → List Item → Option UntoldState → List Item → Option UntoldState → Type 0
Leading mine given u more after =
    (r : Option MsgRef) (t : List ℕ) (ls ks : Listing) → Rises ls → Alike (reads_all r t ls (untold_of mine u)) ks
    → Alike (reads_all r t (reads_all r t ls given) (untold_of mine after)) (reads_all r t ks more)

module _ {P : Type 0} (step : P → (q : Ask) → Answer q → P → Type 0) where
  record Answered (old new : P × Option UntoldState) (given : (List ℕ → ℕ → Bool) → List Item) (ending : (List ℕ → ℕ → Bool) → Bool) : Type 0 where
    inner : List Call
    made : Made step old.0 inner new.0
    leading : (mine : List ℕ → ℕ → Bool) → ending mine ≡ false → Leading mine (given mine) old.1 (given_in mine inner) new.1

  -- one call of the port inside that gives nothing
  quiet : (old new : P × Option UntoldState) (q : Ask) (a b : Answer q) → step old.0 q b new.0 → ((mine : List ℕ → ℕ → Bool) → given_of mine q a ≡ []) → ((mine : List ℕ → ℕ → Bool) → given_of mine q b ≡ [])
      → ((mine : List ℕ → ℕ → Bool) → ends mine q a ≡ false → untold_of mine new.1 ≡ untold_of mine old.1)
      → Answered old new (λ mine. given_of mine q a) (λ mine. ends mine q a)
  quiet old new q a b s outside inside same = record {
    inner = record { ask = q; answer = b } ∷ [];
    made = (new.0, s, refl);
    leading = λ mine e r t ls ks h alike. rw (outside mine, inside mine, same mine e) alike;
  }

  -- none
  unasked : (old new : P × Option UntoldState) (q : Ask) (a : Answer q) → new.0 ≡ old.0 → ((mine : List ℕ → ℕ → Bool) → Leading mine (given_of mine q a) old.1 [] new.1)
      → Answered old new (λ mine. given_of mine q a) (λ mine. ends mine q a)
  unasked old new q a same leads = record { inner = []; made = same; leading = λ mine e. leads mine }

  take_answered : (u after : Option UntoldState) (old new : P) (topic : List ℕ) (sub : Sub) (max : ℕ) (a : Result (List Item) Refusal) → Takes step u topic sub max old a new after
      → Answered (old, u) (new, after) (λ mine. given_of mine (take topic sub max) a) (λ mine. false)
  take_answered None after old new topic sub max a (inl (inner, s, gives)) = record {
    inner = record { ask = take topic sub max; answer = inner } ∷ [];
    made = (new, s, refl);
    leading = λ mine e r t ls ks h alike. rw (append-nil (given_of mine (take topic sub max) inner)) (given_leads mine r t ls ks h topic sub max inner a after alike gives);
  }
  take_answered None after old new topic sub max a (inr (is, same, none)) = record {
    inner = [];
    made = same;
    leading = λ mine e r t ls ks h alike. rw (is, none) alike;
  }
  take_answered (Some u) after old new topic sub max a (same, gives) = record {
    inner = [];
    made = same;
    leading = λ mine e r t ls ks h alike. piece_leads mine r t ls ks h topic sub max u a after alike gives;
  }

  waits_answered : (u : Option UntoldState) (old new : P) (topic : List ℕ) (sub : Sub) (a : Result Bool Refusal) → Waits step u topic sub old a new
      → Answered (old, u) (new, u) (λ mine. []) (λ mine. false)
  waits_answered None old new topic sub a s = record { inner = record { ask = waits topic sub; answer = a } ∷ []; made = (new, s, refl); leading = λ mine e r t ls ks h alike. alike }
  waits_answered (Some u) old new topic sub a (is, same) = record { inner = []; made = same; leading = λ mine e r t ls ks h alike. alike }

  -- what is untold by another equation
  renewed : (old new : P × Option UntoldState) (u : Option UntoldState) (given : (List ℕ → ℕ → Bool) → List Item) (ending : (List ℕ → ℕ → Bool) → Bool) → new.1 ≡ u
      → Answered old (new.0, u) given ending → Answered old new given ending
  renewed old new u given ending e a = record { inner = a.inner; made = a.made; leading = λ mine f r t ls ks h alike. rw e (a.leading mine f r t ls ks h alike) }

  call_answered : (old new : P × Option UntoldState) (q : Ask) (a : Answer q) → Piecewise step old q a new → Answered old new (λ mine. given_of mine q a) (λ mine. ends mine q a)
  call_answered old new (track p k m) a s = quiet old new (track p k m) a a s.0 (λ mine. refl) (λ mine. refl) (λ mine e. ap (untold_of mine) s.1)
  call_answered old new (update p k m) a s = quiet old new (update p k m) a a s.0 (λ mine. refl) (λ mine. refl) (λ mine e. ap (untold_of mine) s.1)
  call_answered old new (untrack p k) a s = quiet old new (untrack p k) a a s.0 (λ mine. refl) (λ mine. refl) (λ mine e. ap (untold_of mine) s.1)
  call_answered old new (untrack_all p) a s = quiet old new (untrack_all p) a a s.0 (λ mine. refl) (λ mine. refl) (λ mine e. ap (untold_of mine) s.1)
  call_answered old new (list p) a s = quiet old new (list p) a s.0 s.1 (λ mine. refl) (λ mine. refl) (λ mine e. ap (untold_of mine) s.3)
  call_answered old new (get p k) a s = quiet old new (get p k) a s.0 s.1 (λ mine. refl) (λ mine. refl) (λ mine e. ap (untold_of mine) s.3)
  call_answered old new (subscribe p) a s = quiet old new (subscribe p) a a s.0 (λ mine. refl) (λ mine. refl) (λ mine e. ap (untold_of mine) s.1)
  call_answered old new (take p sub max) a s = take_answered old.1 new.1 old.0 new.0 p sub max a s
  call_answered old new (unsubscribe p sub) a s =
      quiet old new (unsubscribe p sub) a a s.0 (λ mine. refl) (λ mine. refl) (λ mine e. ap (untold_of mine) s.1 ∙ untold_kept mine (is_ok a) p sub.number old.1 e)
  call_answered old new (waits p sub) a s = renewed old new old.1 (λ mine. []) (λ mine. false) s.1 (waits_answered old.1 old.0 new.0 p sub a s.0)
  call_answered old new (shout p d) a s = quiet old new (shout p d) a a s.0 (λ mine. refl) (λ mine. refl) (λ mine e. ap (untold_of mine) s.1)

  made_more : (xs ys : List Call) (a b c : P) → Made step a xs b → Made step b ys c → Made step a (xs ++ ys) c
  made_more [] ys a b c same more = subst (λ p. Made step p ys c) same more
  made_more (x ∷ xs) ys a b c (mid, s, rest) more = (mid, s, made_more xs ys mid b c rest more)

  given_more : (mine : List ℕ → ℕ → Bool) (xs ys : List Call) → given_in mine (xs ++ ys) ≡ given_in mine xs ++ given_in mine ys
  given_more mine [] ys = refl
  given_more mine (x ∷ xs) ys = ap (λ is. given_of mine x.ask x.answer ++ is) (given_more mine xs ys) ∙ sym (append_assoc (given_of mine x.ask x.answer) (given_in mine xs) (given_in mine ys))

  run_answered : (calls : List Call) (old new : P × Option UntoldState) → Made (Piecewise step) old calls new → Answered old new (λ mine. given_in mine calls) (λ mine. some_ends mine calls)
  run_answered [] old new same = record {
    inner = [];
    made = ap (λ p. p.0) same;
    leading = λ mine e r t ls ks h alike. rw (ap (λ p. untold_of mine p.1) same) alike;
  }
  run_answered (c ∷ cs) old new (mid, s, made) =
      let first = call_answered old mid c.ask c.answer s in
      let second = run_answered cs mid new made in
      record {
        inner = first.inner ++ second.inner;
        made = made_more first.inner second.inner old.0 mid.0 new.0 first.made second.made;
        leading = λ mine e r t ls ks h alike.
            let apart = or_parts (ends mine c.ask c.answer) (some_ends mine cs) e in
            let gave = given_of mine c.ask c.answer in
            rw (reads_more r t ls gave (given_in mine cs), given_more mine first.inner second.inner, reads_more r t ks (given_in mine first.inner) (given_in mine second.inner))
            (second.leading mine apart.1 r t (reads_all r t ls gave) (reads_all r t ks (given_in mine first.inner)) (all_rises r t ls gave h)
            (first.leading mine apart.0 r t ls ks h alike));
      }

-- ---- whoever calls

module _ {P : Type 0} (step : P → (q : Ask) → Answer q → P → Type 0) (wider : P → (q : Ask) → Answer q → P → Type 0) (more : (old new : P) (q : Ask) (a : Answer q) → step old q a new → wider old q a new) where
  takes_more : (u after : Option UntoldState) (old new : P) (topic : List ℕ) (sub : Sub) (max : ℕ) (a : Result (List Item) Refusal) → Takes step u topic sub max old a new after → Takes wider u topic sub max old a new after
  takes_more None after old new topic sub max a (inl (inner, s, gives)) = inl (inner, more old new (take topic sub max) inner s, gives)
  takes_more None after old new topic sub max a (inr wants) = inr wants
  takes_more (Some u) after old new topic sub max a h = h

  waits_more : (u : Option UntoldState) (old new : P) (topic : List ℕ) (sub : Sub) (a : Result Bool Refusal) → Waits step u topic sub old a new → Waits wider u topic sub old a new
  waits_more None old new topic sub a s = more old new (waits topic sub) a s
  waits_more (Some u) old new topic sub a h = h

  -- calls in pieces of a port that does more
  pieces_more : (old new : P × Option UntoldState) (q : Ask) (a : Answer q) → Piecewise step old q a new → Piecewise wider old q a new
  pieces_more old new (track p k m) a s = (more old.0 new.0 (track p k m) a s.0, s.1)
  pieces_more old new (update p k m) a s = (more old.0 new.0 (update p k m) a s.0, s.1)
  pieces_more old new (untrack p k) a s = (more old.0 new.0 (untrack p k) a s.0, s.1)
  pieces_more old new (untrack_all p) a s = (more old.0 new.0 (untrack_all p) a s.0, s.1)
  pieces_more old new (list p) a s = (s.0, more old.0 new.0 (list p) s.0 s.1, s.2, s.3)
  pieces_more old new (get p k) a s = (s.0, more old.0 new.0 (get p k) s.0 s.1, s.2, s.3)
  pieces_more old new (subscribe p) a s = (more old.0 new.0 (subscribe p) a s.0, s.1)
  pieces_more old new (take p sub max) a s = takes_more old.1 new.1 old.0 new.0 p sub max a s
  pieces_more old new (unsubscribe p sub) a s = (more old.0 new.0 (unsubscribe p sub) a s.0, s.1)
  pieces_more old new (waits p sub) a s = (waits_more old.1 old.0 new.0 p sub a s.0, s.1)
  pieces_more old new (shout p d) a s = (more old.0 new.0 (shout p d) a s.0, s.1)

module _ {P : Type 0} (step : ℕ → P → (q : Ask) → Answer q → P → Type 0) where
  anyones : (calls : List Call) (old new : P × Option UntoldState) → Made (ByAnyone (λ pid. Piecewise (step pid))) old calls new → Made (Piecewise (ByAnyone step)) old calls new
  anyones [] old new same = same
  anyones (c ∷ cs) old new (mid, s, made) =
      (mid, pieces_more (step s.0) (ByAnyone step) (λ a b q x h. (s.0, h)) old mid c.ask c.answer s.1, anyones cs mid new made)

  pub pieces_lead : PiecesLead step
  pieces_lead old new untold calls made =
      let run = run_answered (ByAnyone step) calls (old, None) (new, untold) (anyones calls (old, None) (new, untold) made) in
      record {
        inner = run.inner;
        made = run.made;
        lead = λ mine e r t. rw (reads_more r t [] (given_in mine calls) (untold_of mine untold)) (run.leading mine e r t [] [] none_rises (alike_refl [] none_rises)).same;
      }

-- ---- one lent shard

-- what calls give the subscriber of a number
given_by_number : (n : ℕ) (q : Ask) (a : Answer q) → given_by q a n ≡ given_of (numbered n) q a
given_by_number n (track p k m) a = refl
given_by_number n (update p k m) a = refl
given_by_number n (untrack p k) a = refl
given_by_number n (untrack_all p) a = refl
given_by_number n (list p) a = refl
given_by_number n (get p k) a = refl
given_by_number n (subscribe p) a = refl
given_by_number n (take p sub max) (Ok items) = refl
given_by_number n (take p sub max) (Err e) = refl
given_by_number n (unsubscribe p sub) a = refl
given_by_number n (waits p sub) a = refl
given_by_number n (shout p d) a = refl

all_given : (n : ℕ) (calls : List Call) (old new : History) → Made (ByAnyone LocalStep) old calls new → given_to new n ≡ given_to old n ++ given_in (numbered n) calls
all_given n [] old new same = ap (λ x. given_to x n) same ∙ sym (append-nil (given_to old n))
all_given n (c ∷ cs) old new (mid, s, made) =
    all_given n cs mid new made
    ∙ (ap (λ is. is ++ given_in (numbered n) cs) (calls_give s.0 old mid c.ask c.answer s.1 n ∙ ap (λ is. given_to old n ++ is) (given_by_number n c.ask c.answer))
    ∙ append_assoc (given_to old n) (given_of (numbered n) c.ask c.answer) (given_in (numbered n) cs))

pub pieces_mirror : PiecesMirror
pieces_mirror old new untold calls n made nothing e legal t topic told quiet r k x =
    let run = pieces_lead LocalStep old new untold calls made in
    let all : given_to new n ≡ given_in (numbered n) run.inner = all_given n run.inner old new run.made ∙ ap (λ is. is ++ given_in (numbered n) run.inner) nothing in
    subst (λ is. meta_at (reads_all r t [] is) k x ≡ meta_at (reads_all r t [] (given_in (numbered n) run.inner)) k x) (ap (λ is. given_in (numbered n) calls ++ is) told ∙ append-nil (given_in (numbered n) calls)) (run.lead (numbered n) e r t k x)
    ∙ (sym (ap (λ is. meta_at (reads_all r t [] is) k x) all) ∙ all_frames_mirror new legal n t topic quiet r [] k x)
