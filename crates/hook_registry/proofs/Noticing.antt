-- Notices of rows, one after the other.
use Rattle.std.proofs.Common.{◌≡◌, ℕ, List, [], ◌++◌, append-nil, subst}
use Rattle.presence_base.specs.declared.dots.Dot.{Dot}
use Rattle.presence_base.specs.declared.row.Row.{Row}
use Rattle.hook_registry.specs.Noted.{Noticed}

pub noticed_all : (P : List ℕ → Dot → List ℕ → Type 0) (rows left : List (Dot × Row)) (ns : List (List ℕ)) → left ≡ [] → ((xs : List (List ℕ)) → Noticed P left xs → Noticed P rows (ns ++ xs)) → Noticed P rows ns
noticed_all P rows left ns is h = subst (λ z. Noticed P rows z) (append-nil ns) (h [] (rw is tt))
