-- The data of the members of an array, lent or taken out.
use Rattle.std.specs.Borrow.{Bor}
use Rattle.serde_json.specs.View.{view}
use Rattle.serde_json.specs.declared.value.Value.{Value}
use Rattle.link_lines.specs.declared.telling.Front.{Front}
use Rattle.link_lines.specs.Rows.{FrontValue}
use Rattle.link_lines.specs.Arrays.{Three, Four, Five, Six}

abbrev pub lent_three : Bor Value × Bor Value × Bor Value → Three
lent_three m = (view m.0.now, view m.1.now, view m.2.now)

abbrev pub lent_four : Bor Value × Bor Value × Bor Value × Bor Value → Four
lent_four m = (view m.0.now, view m.1.now, view m.2.now, view m.3.now)

abbrev pub lent_five : Bor Value × Bor Value × Bor Value × Bor Value × Bor Value → Five
lent_five m = (view m.0.now, view m.1.now, view m.2.now, view m.3.now, view m.4.now)

abbrev pub lent_six : Bor Value × Bor Value × Bor Value × Bor Value × Bor Value × Bor Value → Six
lent_six m = (view m.0.now, view m.1.now, view m.2.now, view m.3.now, view m.4.now, view m.5.now)

abbrev pub taken_six : Value × Value × Value × Value × Value × Value → Six
taken_six m = (view m.0, view m.1, view m.2, view m.3, view m.4, view m.5)

abbrev pub front_view : Front → FrontValue
front_view f = (f.dot, (view f.topic, (view f.key, view f.pid)))
