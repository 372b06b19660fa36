use Rattle.std.proofs.Common.{ap, sym, ◌∙◌, ◌≤◌, arith}
use Rattle.serde_json.specs.View.{view}
use Rattle.serde_json.proofs.Views.{view-Object}
use Rattle.presence_base.proofs.RefPlace.{whole_front, none_found, place_found, place_most}
use Rattle.presence_base.proofs.ref_place.ref_place.Goals as goal

pub returns-then-not-begin_behind : goal.returns-then-not-begin_behind
returns-then-not-begin_behind c =
    let p = c.in_ok-behind.ensures in
    none_found c.args.value c.in-Object.members.entries c.split_off.new.self.entries c.in_ok-behind.behind.entries c.begin_behind.result
    (record { is = ap view c.in-Object.is ∙ view-Object c.in-Object.members; parts = p.parts; before = p.all_below; from = p.all_from }) c.begin_behind.ensures c.if-not-begin_behind.true

pub open_length-requires : goal.open_length-requires
open_length-requires c =
    let p = c.in_ok-behind.ensures in
    whole_front c.args.value c.in-Object.members.entries c.split_off.new.self.entries c.in_ok-behind.behind.entries
    (record { is = ap view c.in-Object.is ∙ view-Object c.in-Object.members; parts = p.parts; before = p.all_below; from = p.all_from }) c.requires

pub overflow_cast-result : goal.overflow_cast-result
overflow_cast-result c =
    let p = c.in_ok-behind.ensures in
    let most : c.in_ok-length.length ≤ 16384 =
    place_most (view c.args.value) c.in_ok-length.length c.requires
    (sym (place_found c.args.value c.in-Object.members.entries c.split_off.new.self.entries c.in_ok-behind.behind.entries c.begin_behind.result c.in_ok-length.length
    (record { is = ap view c.in-Object.is ∙ view-Object c.in-Object.members; parts = p.parts; before = p.all_below; from = p.all_from }) c.begin_behind.ensures c.if-not-begin_behind.false c.in_ok-length.ensures)) in
    omega (arith, most)

pub returns : goal.returns
returns c =
    let p = c.in_ok-behind.ensures in
    place_found c.args.value c.in-Object.members.entries c.split_off.new.self.entries c.in_ok-behind.behind.entries c.begin_behind.result c.in_ok-length.length
    (record { is = ap view c.in-Object.is ∙ view-Object c.in-Object.members; parts = p.parts; before = p.all_below; from = p.all_from }) c.begin_behind.ensures c.if-not-begin_behind.false c.in_ok-length.ensures
