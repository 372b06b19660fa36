use Rattle.std.proofs.lemmas.Str.Pattern.{ends_text}
use Rattle.client_settings.specs.Telling.{kept_ending}
use Rattle.client_settings.proofs.telling.ends_as_kept.Goals as goal

pub returns : goal.returns
returns c = ends_text c.ends_with.result kept_ending c.args.text.now c.ends_with.ensures.cases
