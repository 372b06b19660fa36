use Rattle.std.proofs.Common.{◌≡◌, Some, None, Ok, unwrap_or, sym, ap, ◌∙◌, subst, arith}
use Rattle.json.specs.Json.{after_end_array}
use Rattle.serde_json.specs.Data.{null, array, item}
use Rattle.serde_json.specs.View.{view, items_view}
use Rattle.json_parts.specs.Items.{after, IsNext}
use Rattle.json_parts.specs.Places.{data_of, items_data}
use Rattle.json_parts.specs.Small.{IsNextMeta, no_object_first}
use Rattle.json_parts.proofs.Places.{items_end, items_next}
use Rattle.link_lines.specs.Results.{or_bad}
use Rattle.link_lines.specs.Rows.{front_in, entry_in, kept_row_in}
use Rattle.link_lines.specs.Taken.{front_view}
use Rattle.link_lines.proofs.RowParts.{Six, front_missing, without_object, without_prev, with_more, all_read, behind, with_meta}
use Rattle.link_lines.proofs.Memory.{out_of_memory}
use Rattle.link_lines.proofs.telling.row_of.Goals as goal

pub returns-in_default-clause-row : goal.returns-in_default-clause-row
returns-in_default-clause-row c = λ js rest at.
    let read = c.in_ok-items.ensures.few js rest at in
    let none : front_in (items_view c.in_ok-items.items.items) ≡ None = grind arith in
    ap or_bad (front_missing (items_data js) (ap front_in (sym read.0) ∙ none))

pub returns-in_err-items-clause-row : goal.returns-in_err-items-clause-row
returns-in_err-items-clause-row c = λ js rest at.
    let memory = c.in_err-items.ensures.few js rest at in
    out_of_memory (λ x. x) c.few_items.new.reader rest c.from_residual.result (or_bad (kept_row_in (array (items_data js)))) (grind (arith, memory))

pub returns-in_err-meta-clause-row : goal.returns-in_err-meta-clause-row
returns-in_err-meta-clause-row c = λ js rest at.
    let read = c.in_ok-items.ensures.few js rest at in
    let f = front_view c.in-Some.front in
    let found : front_in (items_view c.in_ok-items.items.items) ≡ Some f = grind arith in
    let b = behind js c.in_ok-items.items.items f c.few_items.new.reader rest read.0 read.1.0 found in
    let memory = c.in_err-meta.ensures.next (after 6 js) rest b.stands in
    out_of_memory (λ x. x) c.next_meta.new.reader rest c.from_residual-in_err-meta.result (or_bad (kept_row_in (array (items_data js)))) (grind (arith, memory))

pub returns-in_default-2-clause-row : goal.returns-in_default-2-clause-row
returns-in_default-2-clause-row c = λ js rest at.
    let read = c.in_ok-items.ensures.few js rest at in
    let f = front_view c.in-Some.front in
    let found : front_in (items_view c.in_ok-items.items.items) ≡ Some f = grind arith in
    let b = behind js c.in_ok-items.items.items f c.few_items.new.reader rest read.0 read.1.0 found in
    let none = subst (λ o. IsNextMeta (after 6 js) rest c.next_meta.new.reader (Ok o)) c.in_default-2.is (c.in_ok-meta.ensures.next (after 6 js) rest b.stands) in
    ap or_bad (without_object (items_data js) b.more f b.front (ap no_object_first (sym b.same) ∙ none))

pub returns-in_err-prev-clause-row : goal.returns-in_err-prev-clause-row
returns-in_err-prev-clause-row c = λ js rest at.
    let read = c.in_ok-items.ensures.few js rest at in
    let f = front_view c.in-Some.front in
    let found : front_in (items_view c.in_ok-items.items.items) ≡ Some f = grind arith in
    let b = behind js c.in_ok-items.items.items f c.few_items.new.reader rest read.0 read.1.0 found in
    let m = subst (λ o. IsNextMeta (after 6 js) rest c.next_meta.new.reader (Ok o)) c.in-Some-2.is (c.in_ok-meta.ensures.next (after 6 js) rest b.stands) in
    let s7 = with_meta js m.1 m.0 f c.few_items.new.reader rest b m.2 in
    let memory = c.in_err-prev.ensures.next m.1 rest m.5 in
    out_of_memory (λ x. x) c.next_shallow.new.reader rest c.from_residual-in_err-prev.result (or_bad (kept_row_in (array (items_data js)))) (grind (arith, memory))

pub returns-in_default-3-clause-row : goal.returns-in_default-3-clause-row
returns-in_default-3-clause-row c = λ js rest at.
    let ds = items_data js in
    let read = c.in_ok-items.ensures.few js rest at in
    let f = front_view c.in-Some.front in
    let found : front_in (items_view c.in_ok-items.items.items) ≡ Some f = grind arith in
    let b = behind js c.in_ok-items.items.items f c.few_items.new.reader rest read.0 read.1.0 found in
    let m = subst (λ o. IsNextMeta (after 6 js) rest c.next_meta.new.reader (Ok o)) c.in-Some-2.is (c.in_ok-meta.ensures.next (after 6 js) rest b.stands) in
    let s7 = with_meta js m.1 m.0 f c.few_items.new.reader rest b m.2 in
    let p = subst (λ o. IsNext 9 m.1 rest c.next_shallow.new.reader (Ok o)) c.in_default-3.is (c.in_ok-prev.ensures.next m.1 rest m.5) in
    ap or_bad (without_prev ds (data_of m.0) f (subst (λ l. Six ds f (item (data_of m.0) (items_data l))) p.0 s7))

pub returns-then-not-take_end_array-clause-row : goal.returns-then-not-take_end_array-clause-row
returns-then-not-take_end_array-clause-row c = λ js rest at.
    let ds = items_data js in
    let read = c.in_ok-items.ensures.few js rest at in
    let f = front_view c.in-Some.front in
    let found : front_in (items_view c.in_ok-items.items.items) ≡ Some f = grind arith in
    let b = behind js c.in_ok-items.items.items f c.few_items.new.reader rest read.0 read.1.0 found in
    let m = subst (λ o. IsNextMeta (after 6 js) rest c.next_meta.new.reader (Ok o)) c.in-Some-2.is (c.in_ok-meta.ensures.next (after 6 js) rest b.stands) in
    let s7 = with_meta js m.1 m.0 f c.few_items.new.reader rest b m.2 in
    let p = subst (λ o. IsNext 9 m.1 rest c.next_shallow.new.reader (Ok o)) c.in-Some-3.is (c.in_ok-prev.ensures.next m.1 rest m.5) in
    let s8 = subst (λ l. Six ds f (item (data_of m.0) (items_data l))) p.2 s7 in
    let going : after_end_array c.next_shallow.new.reader ≡ None = grind arith in
    let n = items_next c.next_shallow.new.reader p.1 rest p.4 going in
    ap or_bad (with_more ds (items_data n.1) (data_of m.0) (data_of p.0) (data_of n.0) f (subst (λ l. Six ds f (item (data_of m.0) (item (data_of p.0) (items_data l)))) n.2 s8))

pub returns-in_default-row_from-clause-row : goal.returns-in_default-row_from-clause-row
returns-in_default-row_from-clause-row c = λ js rest at.
    let ds = items_data js in
    let read = c.in_ok-items.ensures.few js rest at in
    let f = front_view c.in-Some.front in
    let found : front_in (items_view c.in_ok-items.items.items) ≡ Some f = grind arith in
    let b = behind js c.in_ok-items.items.items f c.few_items.new.reader rest read.0 read.1.0 found in
    let m = subst (λ o. IsNextMeta (after 6 js) rest c.next_meta.new.reader (Ok o)) c.in-Some-2.is (c.in_ok-meta.ensures.next (after 6 js) rest b.stands) in
    let s7 = with_meta js m.1 m.0 f c.few_items.new.reader rest b m.2 in
    let p = subst (λ o. IsNext 9 m.1 rest c.next_shallow.new.reader (Ok o)) c.in-Some-3.is (c.in_ok-prev.ensures.next m.1 rest m.5) in
    let s8 = subst (λ l. Six ds f (item (data_of m.0) (items_data l))) p.2 s7 in
    let over : after_end_array c.next_shallow.new.reader ≡ Some c.take_end_array.new.self = grind arith in
    let z = items_end c.next_shallow.new.reader c.take_end_array.new.self p.1 rest p.4 over in
    let s9 = subst (λ l. Six ds f (item (data_of m.0) (item (data_of p.0) (items_data l)))) z.0 s8 in
    let all = all_read ds f (data_of m.0) (data_of p.0) (view c.in-Some-3.prev) c.in-Some-2.meta s9 m.3 m.4 p.3 in
    let none : entry_in f (unwrap_or c.in-Some-2.meta null) (view c.in-Some-3.prev) ≡ None = grind arith in
    ap or_bad (all ∙ none)

pub returns-clause-row : goal.returns-clause-row
returns-clause-row c = λ js rest at.
    let ds = items_data js in
    let read = c.in_ok-items.ensures.few js rest at in
    let f = front_view c.in-Some.front in
    let found : front_in (items_view c.in_ok-items.items.items) ≡ Some f = grind arith in
    let b = behind js c.in_ok-items.items.items f c.few_items.new.reader rest read.0 read.1.0 found in
    let m = subst (λ o. IsNextMeta (after 6 js) rest c.next_meta.new.reader (Ok o)) c.in-Some-2.is (c.in_ok-meta.ensures.next (after 6 js) rest b.stands) in
    let s7 = with_meta js m.1 m.0 f c.few_items.new.reader rest b m.2 in
    let p = subst (λ o. IsNext 9 m.1 rest c.next_shallow.new.reader (Ok o)) c.in-Some-3.is (c.in_ok-prev.ensures.next m.1 rest m.5) in
    let s8 = subst (λ l. Six ds f (item (data_of m.0) (items_data l))) p.2 s7 in
    let over : after_end_array c.next_shallow.new.reader ≡ Some c.take_end_array.new.self = grind arith in
    let z = items_end c.next_shallow.new.reader c.take_end_array.new.self p.1 rest p.4 over in
    let s9 = subst (λ l. Six ds f (item (data_of m.0) (item (data_of p.0) (items_data l)))) z.0 s8 in
    let all = all_read ds f (data_of m.0) (data_of p.0) (view c.in-Some-3.prev) c.in-Some-2.meta s9 m.3 m.4 p.3 in
    (ap or_bad (all ∙ sym c.in-Some-row_from.ensures), z.1)
