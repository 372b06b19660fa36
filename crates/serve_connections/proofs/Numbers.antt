-- Connections keep their numbers, which rise, and their tokens, whatever is done to the connections.
use Rattle.std.proofs.Common.{◌≡◌, ℕ, ◌<◌, ◌≤◌, Bool, true, false, List, [], ◌∷◌, ◌++◌, map, ap, arith}
use Rattle.std.specs.Prelude.{Option, filter, cond}
use Rattle.serve_connections.specs.Turning.{Around}
use Rattle.serve_connections.specs.declared.client.Client.{Client}
use Rattle.serve_connections.specs.declared.moment.Moment.{Moment}
use Rattle.serve_connections.specs.Working.{Pairwise, RisesBetween, ServesIf, ServesAll, DeliversIf, DeliversAll, SendsIf, StopsOne, goes_on, held, marked, readied}

-- a turn keeps the number
serves_number : {S P : Type 0} (w : Around S P) (routes : List (List ℕ × ℕ)) (now : Moment) (ready : Bool) (c d : Client S) (before after : P) → ServesIf w routes now ready c d before after → d.number ≡ c.number
serves_number w routes now true c d before after h = ap (λ x. x.number) h.client
serves_number w routes now false c d before after h = ap (λ x. x.number) h.0

pub serves_token : {S P : Type 0} (w : Around S P) (routes : List (List ℕ × ℕ)) (now : Moment) (ready : Bool) (c d : Client S) (before after : P) → ServesIf w routes now ready c d before after → d.token ≡ c.token
serves_token w routes now true c d before after h = ap (λ x. x.token) h.client
serves_token w routes now false c d before after h = ap (λ x. x.token) h.0

pub serves_rising : {S P : Type 0} (w : Around S P) (routes : List (List ℕ × ℕ)) (now : Moment) (floor top : ℕ) (cs ds : List (Client S)) (before after : P) → ServesAll w routes now cs ds before after → RisesBetween floor top cs → RisesBetween floor top ds
serves_rising w routes now floor top [] [] before after h r = r
serves_rising w routes now floor top [] (d ∷ ds) before after h r = absurd h
serves_rising w routes now floor top (c ∷ cs) [] before after h r = absurd h
serves_rising {S} w routes now floor top (c ∷ cs) (d ∷ ds) before after h r =
    let e : d.number ≡ c.number = serves_number w routes now c.ready c d before h.0 h.1 in
    (rw e r.0, rw e (serves_rising w routes now c.number top cs ds h.0 after h.2 r.1))

-- a turn that reads nothing keeps the number and the token
delivers_number : {S P : Type 0} (w : Around S P) (ready : Bool) (c d : Client S) (before after : P) → DeliversIf w ready c d before after → d.number ≡ c.number
delivers_number w true c d before after h = ap (λ x. x.number) h.client
delivers_number w false c d before after h = ap (λ x. x.number) h.0

pub delivers_token : {S P : Type 0} (w : Around S P) (ready : Bool) (c d : Client S) (before after : P) → DeliversIf w ready c d before after → d.token ≡ c.token
delivers_token w true c d before after h = ap (λ x. x.token) h.client
delivers_token w false c d before after h = ap (λ x. x.token) h.0

pub delivers_rising : {S P : Type 0} (w : Around S P) (floor top : ℕ) (cs ds : List (Client S)) (before after : P) → DeliversAll w cs ds before after → RisesBetween floor top cs → RisesBetween floor top ds
delivers_rising w floor top [] [] before after h r = r
delivers_rising w floor top [] (d ∷ ds) before after h r = absurd h
delivers_rising w floor top (c ∷ cs) [] before after h r = absurd h
delivers_rising {S} w floor top (c ∷ cs) (d ∷ ds) before after h r =
    let e : d.number ≡ c.number = delivers_number w c.ready c d before h.0 h.1 in
    (rw e r.0, rw e (delivers_rising w c.number top cs ds h.0 after h.2 r.1))

-- what keeps each number keeps the numbers rising
pub pairwise_rising : {S : Type 0} (R : Client S → Client S → Type 0) → ((c d : Client S) → R c d → d.number ≡ c.number) → (floor top : ℕ) (cs ds : List (Client S)) → Pairwise R cs ds → RisesBetween floor top cs → RisesBetween floor top ds
pairwise_rising R same floor top [] [] h r = r
pairwise_rising R same floor top [] (d ∷ ds) h r = absurd h
pairwise_rising R same floor top (c ∷ cs) [] h r = absurd h
pairwise_rising R same floor top (c ∷ cs) (d ∷ ds) h r =
    let e : d.number ≡ c.number = same c d h.0 in
    (rw e r.0, rw e (pairwise_rising R same c.number top cs ds h.1 r.1))

-- a flush keeps the number and the token, and so do a mark and a stop
pub sends_number : {S : Type 0} (contents : S → Option (List ℕ)) (unsent : Bool) (c d : Client S) → SendsIf contents unsent c d → d.number ≡ c.number
sends_number contents true c d h = ap (λ x. x.number) h.client
sends_number contents false c d h = ap (λ x. x.number) h

pub sends_token : {S : Type 0} (contents : S → Option (List ℕ)) (unsent : Bool) (c d : Client S) → SendsIf contents unsent c d → d.token ≡ c.token
sends_token contents true c d h = ap (λ x. x.token) h.client
sends_token contents false c d h = ap (λ x. x.token) h

pub readies_number : {S : Type 0} (c d : Client S) → d ≡ readied c → d.number ≡ c.number
readies_number c d e = ap (λ x. x.number) e

pub stops_number : {S : Type 0} (contents : S → Option (List ℕ)) (c d : Client S) → StopsOne contents c d → d.number ≡ c.number
stops_number contents c d h = ap (λ x. x.number) h.client

-- from below, they rise too
lower : {S : Type 0} (low floor top : ℕ) (cs : List (Client S)) → low ≤ floor → RisesBetween floor top cs → RisesBetween low top cs
lower low floor top [] le r = omega (arith, r)
lower low floor top (c ∷ cs) le r = let f : floor < c.number = r.0 in (omega arith, r.1)

filter_by : {S : Type 0} (b : Bool) (floor top : ℕ) (c : Client S) (cs : List (Client S)) → floor < c.number → RisesBetween c.number top cs → RisesBetween floor top (cond b (c ∷ cs) cs)
filter_by true floor top c cs lt r = (lt, r)
filter_by false floor top c cs lt r = lower floor c.number top cs (omega arith) r

pub kept_rising : {S : Type 0} (floor top : ℕ) (cs : List (Client S)) → RisesBetween floor top cs → RisesBetween floor top (filter goes_on cs)
kept_rising floor top [] r = r
kept_rising floor top (c ∷ cs) r = filter_by (goes_on c) floor top c (filter goes_on cs) r.0 (kept_rising c.number top cs r.1)

-- one more, above all that were taken
pub rising_more : {S : Type 0} (floor top : ℕ) (cs : List (Client S)) (c : Client S) → top < c.number → RisesBetween floor top cs → RisesBetween floor c.number (cs ++ c ∷ [])
rising_more floor top [] c lt r = let f : floor ≤ top = r in (omega arith, omega arith)
rising_more floor top (d ∷ cs) c lt r = (r.0, rising_more d.number top cs c lt r.1)

-- where none was taken, nothing changes but for the top
pub rising_to : {S : Type 0} (floor top other : ℕ) (cs : List (Client S)) → other ≡ top → RisesBetween floor top cs → RisesBetween floor other cs
rising_to floor top other cs e r = rw e r

-- above a higher top they rise too
pub higher : {S : Type 0} (floor top other : ℕ) (cs : List (Client S)) → top ≤ other → RisesBetween floor top cs → RisesBetween floor other cs
higher floor top other [] le r = let f : floor ≤ top = r in omega (arith, f, le)
higher floor top other (c ∷ cs) le r = (r.0, higher c.number top other cs le r.1)

-- those that are marked keep their numbers
pub marked_rising : {S : Type 0} (token floor top : ℕ) (cs : List (Client S)) → RisesBetween floor top cs → RisesBetween floor top (map (marked token) cs)
marked_rising token floor top [] r = r
marked_rising token floor top (c ∷ cs) r = (r.0, marked_rising token c.number top cs r.1)

-- and so do those that are held
pub held_rising : {S : Type 0} (token floor top : ℕ) (cs : List (Client S)) → RisesBetween floor top cs → RisesBetween floor top (map (held token) cs)
held_rising token floor top [] r = r
held_rising token floor top (c ∷ cs) r = (r.0, held_rising token c.number top cs r.1)
