use Rattle.std.proofs.Common.{◌≡◌, sym, ◌∙◌, subst}
use Rattle.delta_range.specs.Keeping.{Kept, AreKept}
use Rattle.delta_range.proofs.KeepFacts.{kept_alike}
use Rattle.delta_range.proofs.generations.GenerationsClone.clone.Goals as goal

alike : (c : goal.After-result-1) → ◌≡◌ {A = Kept} (record { last = c.self.inside.last; short = c.in_ok-short.short; middle = c.in_ok-middle.middle; long = c.in_ok-long.long })
    (record { last = c.self.inside.last; short = c.self.inside.short; middle = c.self.inside.middle; long = c.self.inside.long })
alike c =
    kept_alike (record { last = c.self.inside.last; short = c.self.inside.short; middle = c.self.inside.middle; long = c.self.inside.long })
    c.in_ok-short.short c.in_ok-middle.middle c.in_ok-long.long c.in_ok-short.ensures c.in_ok-middle.ensures c.in_ok-long.ensures

pub invariant_of-result : goal.invariant_of-result
invariant_of-result c = subst AreKept (sym (alike c)) c.self.invariant

pub returns : goal.returns
returns c = record { cases = alike c ∙ c.self.view_is }
