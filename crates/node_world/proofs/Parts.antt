-- What a part that is told makes of a world.
use Rattle.std.proofs.Common.{◌≡◌, ℕ, List, [], ◌∷◌, ◌++◌, slice_get, Option, Some, None, Result, Ok, Err, IfOk, refl, sym, ◌∙◌, ap, subst}
use Rattle.std.specs.FinMap as map
use Rattle.std.specs.BTreeMap.{get}
use Rattle.presence_base.specs.declared.dots.Replica.{Replica}
use Rattle.presence_base.specs.Order.{replica_cmp}
use Rattle.orswot_core.specs.declared.form.Form.{Form}
use Rattle.orswot_core.specs.Telling.{ToldValue}
use Rattle.node_world.specs.World.{LifeValue, Lives, with_replica, life_of, life_at, TellsPartIf, TellsInPart}
use Rattle.node_world.specs.Lives.{LifeMap, seen, PartOfLife}
use Rattle.node_world.specs.Worlds.{world, PartsTo}
use Rattle.node_world.proofs.WorldLifeFacts.{seen_life}

pub part_some : {E : Type 0} (form : Form) (m : LifeMap) (r : Replica) (old : LifeValue) (from : ℕ) (q : Result (Option ToldValue) E) → get replica_cmp m r ≡ Some old → IfOk q (TellsPartIf form old.history from) → IfOk q (PartOfLife form (map.get (seen m) r) from)
part_some form m r old from (Err e) was f = tt
part_some form m r old from (Ok o) was f = subst (λ y. PartOfLife form y from o) (sym (seen_life m r ∙ was)) f

pub part_none : (form : Form) (m : LifeMap) (r : Replica) (from : ℕ) → get replica_cmp m r ≡ None → PartOfLife form (map.get (seen m) r) from None
part_none form m r from was = subst (λ y. PartOfLife form y from None) (sym (seen_life m r ∙ was)) refl

parts_at : (form : Form) (old new : Lives) (p : List Replica) (r : Replica) (t u : List ToldValue) (from : ℕ) (x : Option LifeValue) (o : Option ToldValue) → new ≡ old → PartOfLife form x from o → ((one : ToldValue) → o ≡ Some one → u ≡ t ++ one ∷ []) → (o ≡ None → u ≡ t)
    → TellsInPart form (world old p t) from (with_replica r x) (world new p u)
parts_at form old new p r t u from None o same k some none = λ i. world (same i) p (none k i)
parts_at form old new p r t u from (Some l) None same k some none = (None, k, λ i. world (same i) p (none refl i))
parts_at form old new p r t u from (Some l) (Some one) same k some none = (Some one, k, λ i. world (same i) p (some one refl i))

pub part_told : (form : Form) (old new : Lives) (p : List Replica) (n : ℕ) (r : Replica) (t u : List ToldValue) (from : ℕ) (one : ToldValue) → slice_get p n ≡ Some r → new ≡ old → PartOfLife form (map.get old r) from (Some one) → u ≡ t ++ one ∷ [] → PartsTo form p old t n from new u
part_told form old new p n r t u from one f same k g = subst (λ y. TellsInPart form (world old p t) from (life_of (world old p t) y) (world new p u)) (sym f) (parts_at form old new p r t u from (map.get old r) (Some one) same k (λ a e. let w : one ≡ a = cc in g ∙ ap (λ z. t ++ z ∷ []) w) (λ e. absurd (cc)))

pub part_nothing : (form : Form) (old new : Lives) (p : List Replica) (n : ℕ) (r : Replica) (t u : List ToldValue) (from : ℕ) → slice_get p n ≡ Some r → new ≡ old → PartOfLife form (map.get old r) from None → u ≡ t → PartsTo form p old t n from new u
part_nothing form old new p n r t u from f same k left = subst (λ y. TellsInPart form (world old p t) from (life_of (world old p t) y) (world new p u)) (sym f) (parts_at form old new p r t u from (map.get old r) None same k (λ a e. absurd (cc)) (λ e. left))

pub part_nobody : (form : Form) (old : Lives) (p : List Replica) (n : ℕ) (t : List ToldValue) (from : ℕ) → slice_get p n ≡ None → TellsInPart form (world old p t) from (life_at (world old p t) n) (world old p t)
part_nobody form old p n t from f = subst (λ x. TellsInPart form (world old p t) from (life_of (world old p t) x) (world old p t)) (sym f) refl

pub ruleset parting = (part_told, part_nothing, part_nobody)
