use Rattle.std.proofs.Common.{◌≡◌, sym, ap, ◌∙◌, subst}
use Rattle.serde_json.specs.Data.{array}
use Rattle.json_parts.specs.Places.{items_data}
use Rattle.link_lines.specs.Results.{Answers}
use Rattle.link_lines.specs.Reading.{hello_in, want_in, permdown_in, gone_in, ok_in, line_of_kind}
use Rattle.link_lines.proofs.Outlines.{hello_shallow, want_shallow, permdown_shallow, gone_shallow, ok_shallow}
use Rattle.link_lines.proofs.reading.line_of.Goals as goal

pub returns-in-Hello : goal.returns-in-Hello
returns-in-Hello c = λ js rest at seen.
    subst (λ k. Answers c.hello_of.result (line_of_kind c.args.hearer (array (items_data js)) k)) (sym c.in-Hello.is)
    (subst (Answers c.hello_of.result) (ap hello_in seen ∙ hello_shallow (array (items_data js))) c.hello_of.ensures)

pub returns-in-Beat : goal.returns-in-Beat
returns-in-Beat c = λ js rest at seen.
    subst (λ k. Answers c.beat_of.result (line_of_kind c.args.hearer (array (items_data js)) k)) (sym c.in-Beat.is) (c.beat_of.ensures js rest at seen)

pub returns-in-Want : goal.returns-in-Want
returns-in-Want c = λ js rest at seen.
    subst (λ k. Answers c.want_of.result (line_of_kind c.args.hearer (array (items_data js)) k)) (sym c.in-Want.is)
    (subst (Answers c.want_of.result) (ap (want_in c.args.hearer.shards) seen ∙ want_shallow c.args.hearer.shards (array (items_data js))) c.want_of.ensures)

pub returns-in-Told : goal.returns-in-Told
returns-in-Told c = λ js rest at seen.
    subst (λ k. Answers c.told_line_of.result (line_of_kind c.args.hearer (array (items_data js)) k)) (sym c.in-Told.is) (c.told_line_of.ensures js rest at seen)

pub returns-in-PermDown : goal.returns-in-PermDown
returns-in-PermDown c = λ js rest at seen.
    subst (λ k. Answers c.permdown_of.result (line_of_kind c.args.hearer (array (items_data js)) k)) (sym c.in-PermDown.is)
    (subst (Answers c.permdown_of.result) (ap permdown_in seen ∙ permdown_shallow (array (items_data js))) c.permdown_of.ensures)

pub returns-in-Gone : goal.returns-in-Gone
returns-in-Gone c = λ js rest at seen.
    subst (λ k. Answers c.gone_of.result (line_of_kind c.args.hearer (array (items_data js)) k)) (sym c.in-Gone.is)
    (subst (Answers c.gone_of.result) (ap gone_in seen ∙ gone_shallow (array (items_data js))) c.gone_of.ensures)

pub returns-in-Ok : goal.returns-in-Ok
returns-in-Ok c = λ js rest at seen.
    subst (λ k. Answers c.ok_of.result (line_of_kind c.args.hearer (array (items_data js)) k)) (sym c.in-Ok.is)
    (subst (Answers c.ok_of.result) (ap ok_in seen ∙ ok_shallow (array (items_data js))) c.ok_of.ensures)
