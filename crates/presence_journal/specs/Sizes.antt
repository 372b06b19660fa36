-- How many entries a journal may have, and how many items may wait: the definitions cite them by these names.
use Rattle.std.specs.Prelude.{◌≡◌}
use Rattle.presence_journal.specs.declared.limits.TheConstants.{MAX_PAYLOAD_DEPTH, MAX_TAKEN}
use Rattle.presence_journal.specs.declared.journal.TheConstants.{MAX_ENTRIES}
use Rattle.presence_journal.specs.declared.waiting.TheConstants.{MAX_WAITING}

pub record AreSizes : Type 0 where
  pub entries : MAX_ENTRIES ≡ 262144
  pub waiting : MAX_WAITING ≡ 256
  pub taken : MAX_TAKEN ≡ 256
  pub payload : MAX_PAYLOAD_DEPTH ≡ 64
