use Rattle.std.proofs.Common.{◌∙◌, ap, map, string_bytes, sym}
use Rattle.std.specs.List.{list_any}
use Rattle.client_settings.specs.Telling.{ends_as_kept}
use Rattle.client_settings.proofs.Told.{told_alike}
use Rattle.client_settings.proofs.telling.told_texts.Goals as goal

pub returns-else-any_ends_as_kept : goal.returns-else-any_ends_as_kept
returns-else-any_ends_as_kept c =
    sym (told_alike c.args.events.now c.args.pid (map string_bytes c.args.texts.items)
    (ap (λ xs. list_any ends_as_kept (map string_bytes xs)) (sym c.as_slice.ensures.value) ∙ sym c.any_ends_as_kept.ensures ∙ c.if-any_ends_as_kept.false))
