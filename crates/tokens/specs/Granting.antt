-- What is granted where a token grants this.
use Rattle.std.specs.Prelude.{◌&&◌, ℕ, List, Bool, true, false, nat_le, nat_lt, Option, Some, None, bytes_eq, is_some}
use Rattle.hook_registry.specs.Routes.{first_kind}
use Rattle.tokens.specs.Claimed.{Granted}

-- the topic is one of those; where none are named, any is
abbrev pub is_of_topics : Option (List (List ℕ × ℕ)) → List ℕ → Bool
is_of_topics None topic = true
is_of_topics (Some patterns) topic = is_some (first_kind topic patterns)

-- the key is the subject
abbrev pub is_subject : Option (List ℕ) → List ℕ → Bool
is_subject None key = false
is_subject (Some subject) key = bytes_eq subject key

-- it is the time for it
abbrev pub lasts : Granted → ℕ → Bool
lasts g now = nat_le g.begins now && nat_lt now g.ends

-- the topic may be joined and looked at
abbrev pub lets_join : Granted → ℕ → List ℕ → Bool
lets_join g now topic = lasts g now && is_of_topics g.topics topic

-- the client may be tracked there under the key
abbrev pub lets_track : Granted → ℕ → List ℕ → List ℕ → Bool
lets_track g now topic key = lets_join g now topic && is_subject g.subject key

-- the client may shout there
abbrev pub lets_shout : Granted → ℕ → List ℕ → Bool
lets_shout g now topic = lets_join g now topic && g.talks

-- both are of the same subject, or of none
abbrev pub same_subject : Option (List ℕ) → Option (List ℕ) → Bool
same_subject None None = true
same_subject None (Some other) = false
same_subject (Some subject) None = false
same_subject (Some subject) (Some other) = bytes_eq subject other
