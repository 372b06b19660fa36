-- A life in the place of another keeps what is true of a world.
use Rattle.std.proofs.Common.{◌≡◌, ℕ, ◌<◌, Bool, true, false, cond, List, Some, None, refl, sym, ◌∙◌, ap, subst, slice_get}
use Rattle.std.specs.List.{AllByRecursion}
use Rattle.std.specs.FinMap as map
use Rattle.std.proofs.lemmas.Option.{same_Some}
use Rattle.presence_base.specs.declared.dots.Replica.{Replica}
use Rattle.presence_base.specs.Order.{same_replica}
use Rattle.presence_journal.proofs.Same.{same_replica-true}
use Rattle.presence_journal_laws.specs.Deeds.{AllDeeds, no_deeds}
use Rattle.presence_journal_laws.specs.Truth.{AreDeeds, DoMore}
use Rattle.presence_journal_laws.proofs.More.{others_stay_true, told_stays_true}
use Rattle.node_world.specs.World.{LifeValue, Lives, WorldValue, next_life}
use Rattle.node_world.proofs.Lists.{all_weaker, get-put}
use Rattle.node_world.specs.TrueWorlds.{IsTrueLife, IsTrueTold, ArePresent, IsTrueBy}

-- ---- a life put in the place of a replica's

module _ (w : WorldValue) (deeds new : AllDeeds) (iv : IsTrueBy deeds w) (r : Replica) (l : LifeValue) (more : DoMore deeds new) (are : (q : Replica) → AreDeeds (new q)) (others : (q : Replica) → same_replica q r ≡ false → new q ≡ deeds q) (is : IsTrueLife new r l) where
  abbrev lives : Lives
  lives = map.insert w.lives r l

  life_of_other : (q : Replica) (m : LifeValue) → same_replica q r ≡ false → map.get w.lives q ≡ Some m → IsTrueLife new q m
  life_of_other q m a f =
      let k = iv.lives q m f in
      record {
        own = k.own;
        is = others_stay_true deeds new m.history more (ap new k.own ∙ (others q a ∙ ap deeds (sym k.own))) k.is;
        made = λ n. k.made n ∙ sym (ap (λ x. x.made n) (others q a));
      }

  pub put_lives : (q : Replica) (m : LifeValue) → map.get lives q ≡ Some m → IsTrueLife new q m
  put_lives q m f = go (same_replica q r) refl (sym (get-put w.lives r l q) ∙ f)
    where
      go : (b : Bool) → same_replica q r ≡ b → cond b (Some l) (map.get w.lives q) ≡ Some m → IsTrueLife new q m
      go true a g = subst (λ (x : LifeValue). IsTrueLife new q x) (same_Some l m g) (subst (λ (x : Replica). IsTrueLife new x l) (sym (same_replica-true q r a)) is)
      go false a g = life_of_other q m a g

  pub put_fresh : (q : Replica) → map.get lives q ≡ None → new q ≡ no_deeds
  put_fresh q f = go (same_replica q r) refl (sym (get-put w.lives r l q) ∙ f)
    where
      go : (b : Bool) → same_replica q r ≡ b → cond b (Some l) (map.get w.lives q) ≡ None → new q ≡ no_deeds
      go true a g = absurd (cc)
      go false a g = others q a ∙ iv.fresh q g

  pub put_told : AllByRecursion (IsTrueTold new) w.told
  put_told = all_weaker (IsTrueTold deeds) (IsTrueTold new) w.told (λ t k. (told_stays_true deeds new t more k.0, k.1)) iv.told

  pub put_true : (present : List Replica) → ArePresent present lives → IsTrueBy new (record { lives = lives; present = present; told = w.told })
  put_true present p = record { are = are; lives = put_lives; told = put_told; fresh = put_fresh; present = p }

  -- where the replica had a life before
  pub same_present : (old : LifeValue) → map.get w.lives r ≡ Some old → ArePresent w.present lives
  same_present old has = record {
    newest = λ n q f i a. newest n q f i a (same_replica (next_life q i) r) refl;
    apart = iv.present.apart;
    named = iv.present.named;
  }
    where
      newest : (n : ℕ) (q : Replica) → slice_get w.present n ≡ Some q → (i : ℕ) → q.incarnation < i → (b : Bool) → same_replica (next_life q i) r ≡ b → map.get lives (next_life q i) ≡ None
      newest n q f i a true p =
          let none : None ≡ Some old = sym (iv.present.newest n q f i a) ∙ (ap (map.get w.lives) (same_replica-true (next_life q i) r p) ∙ has) in
          absurd (cc)
      newest n q f i a false p = get-put w.lives r l (next_life q i) ∙ (ap (λ b. cond b (Some l) (map.get w.lives (next_life q i))) p ∙ iv.present.newest n q f i a)
