-- How the logic stores the members of an extra.
use Rattle.std.specs.Prelude.{refl}
use Rattle.std.specs.Coded.{Coded, code_by}
use Rattle.serde_json.specs.Data.{Data, object, Members}
use Rattle.presence_base.specs.JsonCode.{data_code}
use Rattle.presence_metas.specs.Rows.{members_in}

abbrev pub members_code : Coded Members
members_code = code_by Data data_code object members_in (λ _. refl)
