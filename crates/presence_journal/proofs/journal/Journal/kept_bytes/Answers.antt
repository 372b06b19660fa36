use Rattle.std.proofs.Common.{◌-◌, ◌^◌, min, ◌∙◌, ap}
use Rattle.presence_journal.proofs.KeptBytes.{bytes_here}
use Rattle.presence_journal.proofs.journal.Journal.kept_bytes.Goals as goal

pub returns : goal.returns
returns c =
    let j = c.self.inside in
    c.kept_bytes.ensures ∙ ap (λ n. min n (2 ^ 64 - 1)) (bytes_here j.start j.entries c.args.self.now c.self.view_is)
