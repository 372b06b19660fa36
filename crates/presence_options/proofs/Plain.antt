-- A command that is read as plain has no option that is global.
use Rattle.std.proofs.Common.{◌≡◌, ◌&&◌, Bool, true, false, not, refl}

pub no_globals : (groups external globals rest : Bool) → (groups && (not external && (not globals && rest))) ≡ true → globals ≡ false
no_globals true false false rest h = refl
no_globals true false true rest h = absurd (cc)
no_globals true true globals rest h = absurd (cc)
no_globals false external globals rest h = absurd (cc)
