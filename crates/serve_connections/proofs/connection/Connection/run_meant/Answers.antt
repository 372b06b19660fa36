use Rattle.std.proofs.Common.{◌≡◌, ℕ, List, map, true, Result, Ok, Err, is_ok, ap, ◌∙◌}
use Rattle.std.specs.Prelude.{string_bytes}
use Rattle.client_settings.specs.Meaning.{reads}
use Rattle.serve_connections.proofs.Turnings.{acts_reading, acts_saying, acts_wanting}
use Rattle.serve_connections.specs.Turning.{around}
use Rattle.serve_connections.proofs.connection.Connection.run_meant.Goals as goal

-- what has failed isn't well
not_well : {A E : Type 0} (r : Result A E) (e : E) → r ≡ Err e → is_ok r ≡ true → ⊥
not_well (Ok x) e is well = absurd cc
not_well (Err f) e is well = absurd cc

pub returns-in-Ok-Reads-clause-ran : goal.returns-in-Ok-Reads-clause-ran
returns-in-Ok-Reads-clause-ran g c =
    let ok : List (List ℕ) = map string_bytes c.in-Ok-Reads.reading.ok.items in
    let meant = rw c.in-Ok-Reads.field-0-is at c.in-Ok-Reads.ensures.meaning in
    acts_reading (around g.S.Read.remaining g.S.Write.contents g.P.Port.step g.H.PresenceHooks c.args.channels.hooks.now) c.args.signing c.args.channels.routes.now c.args.text.now c.text_read-read.result.now ok
    c.args.self.now c.run_text-answer.new.self c.args.port.now c.run_text-answer.new.port c.run_text-answer.result c.said_for.result
    (ap (λ (t : List ℕ). reads t ok) c.text_read-read.ensures ∙ meant) c.run_text-answer.ensures.ran c.said_for.ensures

pub returns-in-Ok-Answers-clause-ran : goal.returns-in-Ok-Answers-clause-ran
returns-in-Ok-Answers-clause-ran g c =
    let meant = rw c.in-Ok-Answers.field-0-is at c.in-Ok-Answers.ensures.meaning in
    acts_saying (around g.S.Read.remaining g.S.Write.contents g.P.Port.step g.H.PresenceHooks c.args.channels.hooks.now) c.args.signing c.args.channels.routes.now c.args.text.now c.args.self.now c.args.port.now
    c.in-Ok-Answers.texts meant

pub returns-in-Err-clause-ran : goal.returns-in-Err-clause-ran
returns-in-Err-clause-ran g c =
    acts_wanting (around g.S.Read.remaining g.S.Write.contents g.P.Port.step g.H.PresenceHooks c.args.channels.hooks.now) c.args.signing c.args.channels.routes.now c.args.text.now c.args.self.now c.args.port.now
    (λ plain. not_well c.meaning.result _ c.in-Err.is (c.meaning.ensures.plain plain))
