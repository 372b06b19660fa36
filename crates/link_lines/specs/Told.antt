-- Which JSON value is a told value, and what is wrong with one.
use Rattle.std.specs.Prelude.{ℕ, List, [], ◌∷◌, Bool, false, ◌&&◌, Option, Some, None, Result, Ok, Err}
use Rattle.std.specs.List.{list_all}
use Rattle.serde_json.specs.Data.{Data, null}
use Rattle.presence_base.specs.declared.dots.Replica.{Replica}
use Rattle.presence_base.specs.Names.{guarded}
use Rattle.presence_base.specs.Order.{same_replica}
use Rattle.orswot_core.specs.declared.told.ToldFault.{ToldFault}
use Rattle.orswot_core.specs.Telling.{Range, ToldValue}
use Rattle.orswot_core.specs.declared.form.Form.{Form}
use Rattle.orswot_core.specs.declared.form.Form.TheVariants.{One, Two}
use Rattle.orswot_core.specs.Checks.{first_fault}
use Rattle.link_lines.specs.declared.fault.LinkFault.{LinkFault}
use Rattle.link_lines.specs.declared.fault.LinkFault.TheVariants.{BadTold}
use Rattle.link_lines.specs.declared.hearer.Hearer.{Hearer}
use Rattle.link_lines.specs.declared.hearer.Telling.{Telling}
use Rattle.link_lines.specs.Arrays.{two_in, three_in}
use Rattle.link_lines.specs.Results.{◌>>=◌, or_bad}
use Rattle.link_lines.specs.Telling.{range_in, extra_in, row_in, list_in}

-- in the first form three lists, ranges, extras and live rows; in the second two, ranges and live rows
unfoldable pub raw_told_in : Form → Data → Result ToldValue LinkFault
raw_told_in One d = do
  m ← or_bad (three_in d)
  ranges ← or_bad (list_in range_in m.0)
  extras ← or_bad (list_in extra_in m.1)
  live ← or_bad (list_in row_in m.2)
  Ok (record { ranges = ranges; extras = extras; live = live })
raw_told_in Two d = do
  m ← or_bad (two_in d)
  ranges ← or_bad (list_in range_in m.0)
  live ← or_bad (list_in row_in m.1)
  Ok (record { ranges = ranges; extras = []; live = live })

-- the value, unless it has a fault
abbrev pub unless : Option ToldFault → ToldValue → Result ToldValue LinkFault
unless None t = Ok t
unless (Some f) t = Err (BadTold f)

-- the value, where nothing is wrong with it for this one of n shards
abbrev pub sound : ℕ → ℕ → Form → ToldValue → Result ToldValue LinkFault
sound shard n form t = unless (first_fault shard n form t) t

-- the value with its form
abbrev pub in_form : Form → ToldValue → Result Telling LinkFault
in_form form t = Ok (record { form = form; told = t })

-- a value of this form, where nothing is wrong with it
abbrev pub told_as : ℕ → ℕ → Data → Form → Result Telling LinkFault
told_as shard n d form = raw_told_in form d >>= sound shard n form >>= in_form form

-- what a hearer is told; before it knows in which form it is told, nothing
abbrev pub told_in : ℕ → Hearer → Data → Result Telling LinkFault
told_in shard h d = or_bad h.form >>= told_as shard h.shards d

-- in the first form one range, in the second some, all of this replica
abbrev pub are_own_ranges : Form → Replica → List Range → Bool
are_own_ranges One r (g ∷ []) = same_replica g.0 r
are_own_ranges One r _ = false
are_own_ranges Two r [] = false
are_own_ranges Two r (g ∷ gs) = same_replica g.0 r && list_all (λ h. same_replica h.0 r) gs

-- such ranges, and nothing of another replica
abbrev pub is_delta_of : Form → Replica → ToldValue → Bool
is_delta_of form r t = are_own_ranges form r t.ranges
    && (list_all (λ d. same_replica d.replica r) t.extras && list_all (λ x. same_replica x.0.replica r) t.live)

abbrev pub own_delta : Form → Replica → ToldValue → Result ToldValue LinkFault
own_delta form r t = or_bad (guarded (is_delta_of form r t) t)

-- a value of this form that is of this replica alone
abbrev pub delta_as : ℕ → ℕ → Replica → Data → Form → Result (Option Telling) LinkFault
delta_as shard n r d form = raw_told_in form d >>= own_delta form r >>= sound shard n form
    >>= (λ t. Ok (Some (record { form = form; told = t })))

-- null, or what a hearer is told of this replica
abbrev pub delta_in : ℕ → Hearer → Replica → Data → Result (Option Telling) LinkFault
delta_in shard h r null = Ok None
delta_in shard h r d = or_bad h.form >>= delta_as shard h.shards r d
