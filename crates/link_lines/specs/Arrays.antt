-- Arrays of just so many values.
use Rattle.std.specs.Prelude.{Option, Some, None}
use Rattle.serde_json.specs.Data.{Data, array, Items, no_items, item}

abbrev pub Pair : Type 0
Pair = Data × Data

abbrev pub two_items : Items → Option Pair
two_items (item a (item b no_items)) = Some (a, b)
two_items _ = None

abbrev pub two_in : Data → Option Pair
two_in (array ds) = two_items ds
two_in _ = None

abbrev pub Three : Type 0
Three = Data × Data × Data

abbrev pub three_items : Items → Option Three
three_items (item a (item b (item c no_items))) = Some (a, b, c)
three_items _ = None

abbrev pub three_in : Data → Option Three
three_in (array ds) = three_items ds
three_in _ = None

abbrev pub Four : Type 0
Four = Data × Data × Data × Data

abbrev pub four_items : Items → Option Four
four_items (item a (item b (item c (item d no_items)))) = Some (a, b, c, d)
four_items _ = None

abbrev pub four_in : Data → Option Four
four_in (array ds) = four_items ds
four_in _ = None

abbrev pub Five : Type 0
Five = Data × Data × Data × Data × Data

abbrev pub five_items : Items → Option Five
five_items (item a (item b (item c (item d (item e no_items))))) = Some (a, b, c, d, e)
five_items _ = None

abbrev pub five_in : Data → Option Five
five_in (array ds) = five_items ds
five_in _ = None

abbrev pub Six : Type 0
Six = Data × Data × Data × Data × Data × Data

abbrev pub six_items : Items → Option Six
six_items (item a (item b (item c (item d (item e (item f no_items)))))) = Some (a, b, c, d, e, f)
six_items _ = None

abbrev pub six_in : Data → Option Six
six_in (array ds) = six_items ds
six_in _ = None

abbrev pub Eight : Type 0
Eight = Data × Data × Data × Data × Data × Data × Data × Data

abbrev pub eight_items : Items → Option Eight
eight_items (item a (item b (item c (item d (item e (item f (item g (item h no_items)))))))) =
    Some (a, b, c, d, e, f, g, h)
eight_items _ = None

abbrev pub eight_in : Data → Option Eight
eight_in (array ds) = eight_items ds
eight_in _ = None
