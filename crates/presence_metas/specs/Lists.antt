-- What lists keep: keys in order, each with metas.
use Rattle.std.specs.Prelude.{◌≢◌, ℕ, List, []}
use Rattle.std.specs.List.{AllByRecursion}
use Rattle.std.specs.List.Sorted.{IsStrictlySortedBy}
use Rattle.std.specs.Map.{keys_of}
use Rattle.presence_base.specs.Order.{text_cmp}
use Rattle.presence_metas.specs.declared.tracked.TrackedMeta.{TrackedMeta}

-- no key is without metas
abbrev pub AreFilled : List (List ℕ × List TrackedMeta) → Type 0
AreFilled ls = AllByRecursion (λ e. e.1 ≢ []) ls

-- the keys rise by their bytes, and each has metas
pub record AreLists (ls : List (List ℕ × List TrackedMeta)) : Type 0 where
  pub rises : IsStrictlySortedBy text_cmp (keys_of ls)
  pub filled : AreFilled ls
