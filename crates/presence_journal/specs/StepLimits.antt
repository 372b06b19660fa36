-- What a step may hold.
use Rattle.std.specs.Prelude.{ℕ, ◌^◌, Bool, true, not, ◌&&◌, nat_le, nat_lt, List}
use Rattle.serde_json.specs.Data.{Data}
use Rattle.presence_base.specs.Metas.{is_meta}
use Rattle.std.specs.List.{list_all}
use Rattle.presence_base.specs.declared.dots.Dot.{Dot}
use Rattle.presence_base.specs.declared.row.Row.{Row}
use Rattle.presence_base.specs.Names.{is_short_text, is_node_name}
use Rattle.orswot_core.specs.Limits.{is_dot, is_row, is_range, are_texts}
use Rattle.orswot_core.specs.Telling.{ToldValue}
use Rattle.orswot_core.specs.Checks.{are_forward, are_live_covered, has_live_twice}
use Rattle.presence_journal.specs.declared.step.Step.{Step}
use Rattle.presence_journal.specs.declared.step.Step.TheVariants as steps_are
use Rattle.presence_journal.specs.Limits.{is_payload, is_take_limit}

-- what a row is made of; a session's number, which it keeps, is at most 2^62
abbrev pub is_row_made : ℕ → List ℕ → List ℕ → Data → Bool
is_row_made pid topic key meta = is_short_text topic && (is_short_text key && (is_meta meta && nat_le pid (2 ^ 62)))

-- any number of 64 bits may be asked for
abbrev pub is_asked : ℕ → List ℕ → Bool
is_asked pid topic = is_short_text topic && nat_lt pid (2 ^ 64)

-- whether a told value is sound
abbrev pub is_told : ToldValue → Bool
is_told t = are_forward t
    && (list_all is_range t.ranges && (list_all is_dot t.extras
    && (list_all (λ x. is_dot x.0 && is_row x.1) t.live && (are_live_covered t && not (has_live_twice t)))))

-- what another node may tell: rows within their limits, under dots whose names are names
abbrev pub is_named : Dot × Row → Bool
is_named x = is_node_name x.0.replica.name

abbrev pub is_heard : ToldValue → Bool
is_heard t = is_told t && (list_all is_named t.live && list_all (λ x. are_texts x.1) t.live)

abbrev pub is_within_limits : Step → Bool
is_within_limits (steps_are.Track pid topic key meta) = is_row_made pid topic key meta
is_within_limits (steps_are.Update pid topic key meta) = is_row_made pid topic key meta
is_within_limits (steps_are.Untrack pid topic key) = is_short_text key && is_asked pid topic
is_within_limits (steps_are.UntrackAll pid topic) = is_asked pid topic
is_within_limits (steps_are.List topic) = is_short_text topic
is_within_limits (steps_are.Get topic key) = is_short_text topic && is_short_text key
is_within_limits (steps_are.Subscribe topic) = is_short_text topic
is_within_limits (steps_are.Take subscriber max) = is_take_limit max
is_within_limits (steps_are.Unsubscribe subscriber) = true
is_within_limits (steps_are.Shout topic payload) = is_short_text topic && is_payload payload
is_within_limits (steps_are.Heard replica now) = is_node_name replica.name
is_within_limits (steps_are.Tick now) = true
is_within_limits (steps_are.PermDown replica) = is_node_name replica.name
is_within_limits steps_are.Cut = true
is_within_limits (steps_are.Merge told) = is_heard told
is_within_limits (steps_are.Rebirth incarnation) = nat_le 1 incarnation && nat_le incarnation (2 ^ 62)
