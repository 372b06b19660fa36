use Rattle.std.proofs.Common.{rules, string_bytes}
use Rattle.hmac_keys.proofs.Reading.{first_kept, some_keys_there}
use Rattle.hmac_keys.proofs.keys.Keys.first.Goals as goal

pub index-requires : goal.index-requires
index-requires c =
    let some = some_keys_there (string_bytes c.args.self.now.text) c.args.self.now.keys c.args.self.now.read in
    search (some, rules)

pub returns : goal.returns
returns c =
    let some = some_keys_there (string_bytes c.args.self.now.text) c.args.self.now.keys c.args.self.now.read in
    rw c.as_slice.ensures.value (first_kept c.args.self.now.keys.items c.index.result.now some c.index.ensures)
