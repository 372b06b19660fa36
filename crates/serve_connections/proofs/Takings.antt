-- Connections that are taken one after another.
use Rattle.std.proofs.Common.{◌≡◌, ℕ, ◌+◌, ◌≤◌, List, [], ◌∷◌, ◌++◌, length, refl, sym, ap, ◌∙◌, subst, Option, Some, None, Result, Ok, Err, arith}
use Rattle.std.specs.declared.alloc.AllocError.{AllocError}
use Rattle.std.specs.List.{AllByRecursion}
use Rattle.client_settings.specs.declared.settings.Settings.{Settings}
use Rattle.serve_connections.specs.declared.client.Client.{Client}
use Rattle.serve_connections.specs.declared.moment.Moment.{Moment}
use Rattle.serve_connections.specs.declared.worker.NoMore.{NoMore}
use Rattle.serve_connections.specs.declared.worker.TheConstants.{MAX_CONNECTIONS}
use Rattle.serve_connections.specs.Working.{EndsAt, IsNew, NoneLost, TakesIn, TakesOne}

append_none : {X : Type 0} (xs : List X) → xs ++ [] ≡ xs
append_none [] = refl
append_none (x ∷ xs) = ap (λ l. x ∷ l) (append_none xs)

append_one : {X : Type 0} (xs ys : List X) (x : X) → (xs ++ ys) ++ x ∷ [] ≡ xs ++ (ys ++ x ∷ [])
append_one [] ys x = refl
append_one (y ∷ xs) ys x = ap (λ l. y ∷ l) (append_one xs ys x)

all_more : {X : Type 0} (P : X → Type 0) (xs : List X) (x : X) → AllByRecursion P xs → P x → AllByRecursion P (xs ++ x ∷ [])
all_more P [] x h p = (p, tt {0})
all_more P (y ∷ xs) x h p = (h.0, all_more P xs x h.1 p)

pub takes_none : {S : Type 0} (settings : Settings) (carried : S → Option (List ℕ)) (now : Moment) (old new : List (Client S)) → new ≡ old → TakesIn settings carried now old new
takes_none settings carried now old new e = record { taken = []; new_ones = tt {0}; behind = e ∙ sym (append_none old) }

pub takes_more : {S : Type 0} (settings : Settings) (carried : S → Option (List ℕ)) (now : Moment) (old mid new : List (Client S)) (c : Client S) → IsNew settings carried now c → new ≡ mid ++ c ∷ [] → TakesIn settings carried now old mid → TakesIn settings carried now old new
takes_more {S} settings carried now old mid new c is e h =
    record {
      taken = h.taken ++ c ∷ [];
      new_ones = all_more (IsNew settings carried now) h.taken c h.new_ones is;
      behind = e ∙ ap (λ (l : List (Client S)). l ++ c ∷ []) h.behind ∙ append_one old h.taken c;
    }

-- one look at the queue more
pub takes_by : {S : Type 0} (settings : Settings) (carried : S → Option (List ℕ)) (now : Moment) (old mid new : List (Client S)) (r : Result (Option NoMore) AllocError) → TakesOne settings carried now mid new r → TakesIn settings carried now old mid → TakesIn settings carried now old new
takes_by settings carried now old mid new (Ok None) one h = takes_more settings carried now old mid new one.0 one.1 one.2 h
takes_by {S} settings carried now old mid new (Ok (Some why)) one h = subst (λ (l : List (Client S)). TakesIn settings carried now old l) (sym one.0) h
takes_by {S} settings carried now old mid new (Err e) one h = subst (λ (l : List (Client S)). TakesIn settings carried now old l) (sym one) h

-- ---- none is lost

pub lost_none : {S : Type 0} (pops : ℕ) (cs : List (Client S)) → NoneLost pops pops cs cs
lost_none pops cs = refl

pub lost_neither : {S : Type 0} (a b c : ℕ) (old mid new : List (Client S)) → NoneLost a b old mid → NoneLost b c mid new → NoneLost a c old new
lost_neither a b c old mid new h k =
    let one : b + length old ≡ a + length mid = h in
    let two : c + length mid ≡ b + length new = k in
    omega (arith, one, two)

one_longer : {S : Type 0} (cs : List (Client S)) (c : Client S) → length (cs ++ c ∷ []) ≡ length cs + 1
one_longer [] c = omega arith
one_longer (d ∷ cs) c = let e : length (cs ++ c ∷ []) ≡ length cs + 1 = one_longer cs c in omega (arith, e)

pub lost_not : {S : Type 0} (before after : ℕ) (cs news : List (Client S)) (c : Client S) → after ≡ before + 1 → news ≡ cs ++ c ∷ [] → NoneLost before after cs news
lost_not before after cs news c e n =
    let more : length news ≡ length cs + 1 = ap length n ∙ one_longer cs c in
    omega (arith, e, more)

-- ---- why no more are taken

-- a look that took one
pub took_by : {S : Type 0} (settings : Settings) (carried : S → Option (List ℕ)) (now : Moment) (mid new : List (Client S)) (r : Result (Option NoMore) AllocError) → TakesOne settings carried now mid new r → r ≡ Ok None → length new ≡ length mid + 1
took_by {S} settings carried now mid new r one e =
    let took = subst (λ z. TakesOne {S = S} settings carried now mid new z) e one in
    ap length took.2 ∙ one_longer mid took.0

-- a look that took none tells why
pub ends_by : {S : Type 0} (settings : Settings) (carried : S → Option (List ℕ)) (now : Moment) (mid new : List (Client S)) (r : Result (Option NoMore) AllocError) (why : NoMore) → TakesOne settings carried now mid new r → r ≡ Ok (Some why) → EndsAt new why
ends_by {S} settings carried now mid new r why one e = (subst (λ z. TakesOne {S = S} settings carried now mid new z) e one).1

-- one more was taken in each of so many looks
pub counted : (first mid new i : ℕ) → mid ≡ first + i → new ≡ mid + 1 → new ≡ first + (i + 1)
counted first mid new i m n = omega (arith, m, n)

-- as many looks as it may serve at most leave it full
pub full : (first now i : ℕ) → now ≡ first + i → MAX_CONNECTIONS ≤ i → now ≤ MAX_CONNECTIONS → now ≡ MAX_CONNECTIONS
full first now i e enough few = omega (arith, e, enough, few)

-- what is no less and no more
pub just : (n : ℕ) → MAX_CONNECTIONS ≤ n → n ≤ MAX_CONNECTIONS → n ≡ MAX_CONNECTIONS
just n enough few = omega (arith, enough, few)
