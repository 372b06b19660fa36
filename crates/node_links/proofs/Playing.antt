-- What was made so far, and what is left, come to the whole.
use Rattle.std.proofs.Common.{◌≡◌, ℕ, zero, suc, ◌-◌, ◌+◌, ◌<◌, ◌≤◌, List, Result, Ok, Err, refl, sym, subst, arith}
use Rattle.presence_base.specs.declared.dots.Replica.{Replica}
use Rattle.node_links.specs.declared.action.LinkAction.{LinkAction}
use Rattle.node_links.specs.declared.act_outcome.Act.{Act}
use Rattle.node_links.specs.declared.port.ActFault.{ActFault}
use Rattle.node_links.specs.Asks.{permdown}
use Rattle.node_links.specs.Acting.{Steps, Downs, Plays}

module _ {P : Type 0} (step : Steps P) (q : Replica) where
  -- whatever comes of these shards, comes of those
  abbrev pub DownLeads : (n k : ℕ) → P → (m j : ℕ) → P → Type 0
  DownLeads n k old m j mid = (new : P) (r : Result Unit ActFault) → Downs step q m j mid new r → Downs step q n k old new r

  rest_is : (e j : ℕ) → j < e → e - j ≡ suc (e - (j + 1))
  rest_is e j h = omega arith

  next_is : (j : ℕ) → j + 1 ≡ suc j
  next_is j = omega arith

  none_is : (e j : ℕ) → e ≤ j → e - j ≡ zero
  none_is e j h = omega arith

  pub downs_more : (n k e j : ℕ) (old mid next : P) (u : Unit {0}) → j < e → DownLeads n k old (e - j) j mid → step mid (permdown j q) (Ok u) next → DownLeads n k old (e - (j + 1)) (j + 1) next
  downs_more n k e j old mid next u h leads made = λ new r rest.
      leads new r (subst (λ i. Downs step q i j mid new r) (sym (rest_is e j h)) (Ok u, next, made, subst (λ i. Downs step q (e - (j + 1)) i next new r) (next_is j) rest))

  pub downs_refused : (n k e j : ℕ) (old mid new : P) (f : ActFault) → j < e → DownLeads n k old (e - j) j mid → step mid (permdown j q) (Err f) new → Downs step q n k old new (Err f)
  downs_refused n k e j old mid new f h leads made =
      leads new (Err f) (subst (λ i. Downs step q i j mid new (Err f)) (sym (rest_is e j h)) (Err f, new, made, (refl, refl)))

  pub downs_done : (n k e j : ℕ) (old mid : P) → e ≤ j → DownLeads n k old (e - j) j mid → Downs step q n k old mid (Ok tt)
  downs_done n k e j old mid h leads = leads mid (Ok tt) (subst (λ i. Downs step q i j mid mid (Ok tt)) (sym (none_is e j h)) (refl, refl))

module _ {P : Type 0} (step : Steps P) (shards : P → ℕ) where
  -- whatever comes of these actions, comes of those
  abbrev pub PlayLeads : List LinkAction → Act → P → List LinkAction → Act → P → Type 0
  PlayLeads all first old rest act mid = (new : P) (r : Result Act ActFault) → Plays step shards rest act mid new r → Plays step shards all first old new r
