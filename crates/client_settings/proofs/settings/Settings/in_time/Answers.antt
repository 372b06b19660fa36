use Rattle.std.proofs.Common.{map, string_bytes, sym, ap, ◌∙◌}
use Rattle.number_texts.specs.Marks.{become}
use Rattle.channel_rules.specs.Said.{text_of}
use Rattle.client_settings.specs.Meaning.{shouting}
use Rattle.client_settings.proofs.Taken.{taken_means}
use Rattle.client_settings.proofs.settings.Settings.in_time.Goals as goal

pub returns-then-is_taken_for_kept : goal.returns-then-is_taken_for_kept
returns-then-is_taken_for_kept c text =
    taken_means c.args.self.now c.args.session.now (become text c.args.marked) c.args.message _ _
    (sym c.is_own_event.ensures ∙ c.if-is_own_event.false)
    (sym c.is_taken_for_kept.ensures ∙ c.if-is_taken_for_kept.true)
    (c.in_ok-text.ensures ∙ ap (λ p. text_of (shouting c.args.message p)) c.in_ok-payload.ensures)
    (ap (map string_bytes) c.new.ensures.items)
