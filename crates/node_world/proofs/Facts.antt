-- What the claims rest on, from what is true of every world.
use Rattle.std.proofs.Common.{◌≡◌, ℕ, false, true, slice_get, Some, None, sym, ◌∙◌, ap, inl, inr}
use Rattle.std.specs.Prelude.{◌⊎◌}
use Rattle.std.specs.FinMap as map
use Rattle.presence_base.specs.declared.dots.Dot.{Dot}
use Rattle.orswot_core.specs.Telling.{ToldValue}
use Rattle.orswot_core.specs.Full.{dot_of}
use Rattle.presence_journal.specs.History.{removed}
use Rattle.presence_journal_laws.specs.Deeds.{Deeds}
use Rattle.presence_journal_laws.specs.Truth.{TellsTrue}
use Rattle.presence_journal_laws.proofs.Telling.{some_or_none}
use Rattle.node_world.specs.World.{LifeValue, WorldValue}
use Rattle.node_world.specs.TrueWorlds.{IsTrueTold, IsTrueLife, IsTrueWorld}
use Rattle.node_world.specs.Facts.{RowsAreMade, RemovalsAreMade, WorldsAreTrue}
use Rattle.node_world.proofs.Lists.{all_at}
use Rattle.node_world.proofs.Claims.{world_true, has_life}

told_true : (w : WorldValue) (iw : IsTrueWorld w) (n : ℕ) (t : ToldValue) → slice_get w.told n ≡ Some t → TellsTrue iw.deeds t
told_true w iw n t f = (all_at (IsTrueTold iw.deeds) w.told n t iw.is.told f).0

-- what went at a replica is removed in its own history
went_there : (w : WorldValue) (iw : IsTrueWorld w) (d : Dot) → (iw.deeds d.replica).went d.count ≡ true → (m : LifeValue) × (map.get w.lives d.replica ≡ Some m) × (removed m.history d ≡ true)
went_there w iw d f = go (some_or_none (map.get w.lives d.replica))
  where
    own_went : (m : LifeValue) → IsTrueLife iw.deeds d.replica m → removed m.history d ≡ true
    own_went m life = sym (ap (λ r. removed m.history (dot_of r d.count)) life.own) ∙ life.is.owners.went d.count (ap (λ r. (iw.deeds r).went d.count) life.own ∙ f)

    go : ((m : LifeValue) × (map.get w.lives d.replica ≡ Some m)) ⊎ (map.get w.lives d.replica ≡ None) → (m : LifeValue) × (map.get w.lives d.replica ≡ Some m) × (removed m.history d ≡ true)
    go (inl p) = (p.0, p.1, own_went p.0 (iw.is.lives d.replica p.0 p.1))
    go (inr n) = let g : false ≡ true = sym (ap (λ (x : Deeds). x.went d.count) (iw.is.fresh d.replica n)) ∙ f in absurd (cc)

pub worlds_are_true : WorldsAreTrue
worlds_are_true ns es w names f = world_true ns es w names f

pub rows_are_made : RowsAreMade
rows_are_made ns es w names f n t at d r g = let iw = world_true ns es w names f in has_life w iw d r ((told_true w iw n t at).row_made d r g)

pub removals_are_made : RemovalsAreMade
removals_are_made ns es w names f n t at d g = let iw = world_true ns es w names f in went_there w iw d ((told_true w iw n t at).removed_went d g)
