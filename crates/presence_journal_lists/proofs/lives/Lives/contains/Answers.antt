use Rattle.std.proofs.Common.{◌∙◌}
use Rattle.presence_journal_lists.proofs.LivesLemmas.{contains_is}
use Rattle.presence_journal_lists.proofs.lives.Lives.contains.Goals as goal

pub returns : goal.returns
returns c = c.is_ok.ensures.value ∙ contains_is _ _ c.search.result c.search.ensures.found c.search.ensures.absent
