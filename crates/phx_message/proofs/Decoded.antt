-- A text is read as a message exactly where it is that message's array within the limits.
use Rattle.std.proofs.Common.{◌≡◌, ◌≢◌, ◌≤◌, ℕ, List, [], ◌∷◌, length, Bool, true, false, cond, nat_lt, nat_le, Option, Some, None, Result, Ok, Err, IfOk, String, Global, string_bytes, refl, sym, ap, ◌∙◌, arith}
use Rattle.std.proofs.lemmas.Bool.Decides.{nat_tests}
use Rattle.serde_json.specs.Data.{unsigned, negative, float, Data, null, boolean, number, string, array, object, Items, no_items, item, depth}
use Rattle.serde_json.specs.Written.{has_float, compact_text}
use Rattle.serde_json.specs.Read.{read}
use Rattle.serde_json.specs.View.{items_view}
use Rattle.serde_json.specs.declared.value.Value.{Value}
use Rattle.presence_base.specs.Names.{is_short_text}
use Rattle.phx_message.specs.Lines.{lacks_feed}
use Rattle.phx_message.specs.Laws.{DecodedIsOrderly, ReadsBack}
use Rattle.phx_message.specs.Message.{is_event, ref_value, value_of, IsWithin}
use Rattle.phx_message.specs.declared.message.MsgRef.{MsgRef}
use Rattle.phx_message.specs.declared.message.MsgRef.TheVariants.{Text, Number}
use Rattle.phx_message.specs.Reading.{◌>>=◌, Answers, Five, decoded, found_value, value_in, five_in, five_items, ref_in, text_in, payload_in}
use Rattle.phx_message.specs.declared.message.Message.{Message}
use Rattle.phx_message.specs.declared.message.Limits.{Limits}
use Rattle.phx_message.specs.declared.message.TheConstants.Limits as the_limits
use Rattle.phx_message.specs.declared.message.MessageFault.{MessageFault}
use Rattle.phx_message.specs.declared.message.MessageFault.TheVariants.{TooLong, NotFive, BadTopic, BadEvent, TooDeep, Fraction}
use Rattle.phx_message.proofs.Lines.{text_lacks}
use Rattle.phx_message.proofs.Orderly.{read_orderly}
use Rattle.phx_message.proofs.Texts.{text_again}

pub not_five : (vs : List Value) → length vs ≢ 5 → five_items (items_view vs) ≡ Err NotFive
not_five [] h = refl
not_five (a ∷ []) h = refl
not_five (a ∷ b ∷ []) h = refl
not_five (a ∷ b ∷ c ∷ []) h = refl
not_five (a ∷ b ∷ c ∷ d ∷ []) h = refl
not_five (a ∷ b ∷ c ∷ d ∷ e ∷ []) h = absurd (h refl)
not_five (a ∷ b ∷ c ∷ d ∷ e ∷ f ∷ vs) h = refl

-- what a chain of steps that came to y did first
then : {A B G : Type 0} (r : Result A MessageFault) (f : A → Result B MessageFault) (y : B) → (r >>= f) ≡ Ok y → ((x : A) → r ≡ Ok x → f x ≡ Ok y → G) → G
then (Ok x) f y h k = k x refl h
then (Err e) f y h k = absurd (differ e y h)
  where
    differ : {C : Type 0} (d : MessageFault) (z : C) → Err d ≡ Ok z → ⊥
    differ d z bad = cc

found_value_ok : (o : Option Data) (d : Data) → found_value o ≡ Ok d → o ≡ Some d
found_value_ok None d h = cc
found_value_ok (Some e) d h = cc

guard_ok : {A : Type 0} (b : Bool) (e : MessageFault) (r : Result A MessageFault) (x : A) → cond b r (Err e) ≡ Ok x → (b ≡ true) × (r ≡ Ok x)
guard_ok true e r x h = (refl, h)
guard_ok false e r x h = (cc, cc)

guard_not_ok : {A : Type 0} (b : Bool) (e : MessageFault) (r : Result A MessageFault) (x : A) → cond b (Err e) r ≡ Ok x → (b ≡ false) × (r ≡ Ok x)
guard_not_ok true e r x h = (cc, cc)
guard_not_ok false e r x h = (refl, h)

value_ok : (bytes : ℕ) (s : List ℕ) (d : Data) → value_in bytes s ≡ Ok d → (length s ≤ bytes) × (read s ≡ Some d)
value_ok bytes s d h = let g = guard_not_ok (nat_lt bytes (length s)) TooLong (found_value (read s)) d h in (let short : nat_lt bytes (length s) ≡ false = g.0 in grind (arith, nat_tests), found_value_ok (read s) d g.1)

five_items_ok : (ds : Items) (f : Five) → five_items ds ≡ Ok f → ds ≡ item f.first (item f.second (item f.third (item f.fourth (item f.fifth no_items))))
five_items_ok no_items f h = cc
five_items_ok (item a no_items) f h = cc
five_items_ok (item a (item b no_items)) f h = cc
five_items_ok (item a (item b (item c no_items))) f h = cc
five_items_ok (item a (item b (item c (item d no_items)))) f h = cc
five_items_ok (item a (item b (item c (item d (item e no_items))))) f h =
    let same : record { first = a; second = b; third = c; fourth = d; fifth = e } ≡ f = cc in
    ap (λ (g : Five). item g.first (item g.second (item g.third (item g.fourth (item g.fifth no_items))))) same
five_items_ok (item a (item b (item c (item d (item e (item g ds)))))) f h = cc

five_ok : (d : Data) (f : Five) → five_in d ≡ Ok f → d ≡ array (item f.first (item f.second (item f.third (item f.fourth (item f.fifth no_items)))))
five_ok null f h = cc
five_ok (boolean b) f h = cc
five_ok (number n) f h = cc
five_ok (string s) f h = cc
five_ok (array ds) f h = ap array (five_items_ok ds f h)
five_ok (object ms) f h = cc

ref_ok : (d : Data) (r : Option MsgRef) → ref_in d ≡ Ok r → d ≡ ref_value r
ref_ok null r h = let e : None ≡ r = cc in rw (← e) refl
ref_ok (boolean b) r h = cc
ref_ok (number (unsigned n)) r h = let e : Some (Number n) ≡ r = cc in rw (← e) refl
ref_ok (number (negative z)) r h = cc
ref_ok (number (float x)) r h = cc
ref_ok (string s) r h = let e : Some (Text s) ≡ r = cc in rw (← e) refl
ref_ok (array ds) r h = cc
ref_ok (object ms) r h = cc

text_ok : (test : List ℕ → Bool) (e : MessageFault) (d : Data) (s : List ℕ) → text_in test e d ≡ Ok s → (d ≡ string s) × (test s ≡ true)
text_ok test e null s h = (cc, cc)
text_ok test e (boolean b) s h = (cc, cc)
text_ok test e (number n) s h = (cc, cc)
text_ok test e (string t) s h = let g = guard_ok (test t) e (Ok t) s h in let same : t ≡ s = cc in (ap string same, ap test (sym same) ∙ g.0)
text_ok test e (array ds) s h = (cc, cc)
text_ok test e (object ms) s h = (cc, cc)

payload_ok : (n : ℕ) (d p : Data) → payload_in n d ≡ Ok p → (d ≡ p) × (depth p ≤ n) × (has_float p ≡ false)
payload_ok n d p h =
    let shallow = guard_ok (nat_le (depth d) n) TooDeep _ p h in
    let whole = guard_not_ok (has_float d) Fraction (Ok d) p shallow.1 in
    let same : d ≡ p = cc in
    let low : nat_le (depth p) n ≡ true = ap (λ x. nat_le (depth x) n) (sym same) ∙ shallow.0 in
    (same, grind (arith, nat_tests), ap has_float (sym same) ∙ whole.0)

-- what a message says of the text that it was read from
pub record Belongs (limits : Limits) (s : List ℕ) (m : Message) : Type 0 where
  pub within : IsWithin limits.depth m
  pub short : length s ≤ limits.bytes
  pub reads : read s ≡ Some (value_of m)

abbrev answer : Message → Result Message MessageFault
answer m = Ok m

belongs : (limits : Limits) (s : List ℕ) (m : Message) (d : Data) (five : Five) (join_ref msg_ref : Option MsgRef) (topic event : List ℕ) (payload : Data)
    → value_in limits.bytes s ≡ Ok d → five_in d ≡ Ok five → ref_in five.first ≡ Ok join_ref → ref_in five.second ≡ Ok msg_ref
    → text_in is_short_text BadTopic five.third ≡ Ok topic → text_in is_event BadEvent five.fourth ≡ Ok event → payload_in limits.depth five.fifth ≡ Ok payload
    → answer (record { join_ref = join_ref; msg_ref = msg_ref; topic = topic; event = event; payload = payload }) ≡ Ok m → Belongs limits s m
belongs limits s m d five join_ref msg_ref topic event payload is_d is_five is_join is_msg is_topic is_event_text is_payload is_m =
    let v = value_ok limits.bytes s d is_d in
    let t = text_ok is_short_text BadTopic five.third topic is_topic in
    let e = text_ok is_event BadEvent five.fourth event is_event_text in
    let p = payload_ok limits.depth five.fifth payload is_payload in
    let same : record { join_ref = join_ref; msg_ref = msg_ref; topic = topic; event = event; payload = payload } ≡ m = cc in
    rw (← same) (record {
      within = record { topic = t.1; event = e.1; shallow = p.1; whole = p.2 };
      short = v.0;
      reads = rw (v.1, five_ok d five is_five, ref_ok five.first join_ref is_join, ref_ok five.second msg_ref is_msg, t.0, e.0, p.0) refl;
    })

pub decoded_found : (limits : Limits) (s : List ℕ) (m : Message) → decoded limits s ≡ Ok m → Belongs limits s m
unfolding decoded
decoded_found limits s m h =
    then (value_in limits.bytes s) _ m h (λ d is_d h1.
    then (five_in d) _ m h1 (λ five is_five h2.
    then (ref_in five.first) _ m h2 (λ join_ref is_join h3.
    then (ref_in five.second) _ m h3 (λ msg_ref is_msg h4.
    then (text_in is_short_text BadTopic five.third) _ m h4 (λ topic is_topic h5.
    then (text_in is_event BadEvent five.fourth) _ m h5 (λ event is_event_text h6.
    then (payload_in limits.depth five.fifth) _ m h6 (λ payload is_payload h7.
    belongs limits s m d five join_ref msg_ref topic event payload is_d is_five is_join is_msg is_topic is_event_text is_payload h7)))))))

ref_again : (r : Option MsgRef) → ref_in (ref_value r) ≡ Ok r
ref_again None = refl
ref_again (Some (Text s)) = refl
ref_again (Some (Number n)) = refl

pub decoded_only : (limits : Limits) (s : List ℕ) (m : Message) → IsWithin limits.depth m → length s ≤ limits.bytes → read s ≡ Some (value_of m) → decoded limits s ≡ Ok m
unfolding decoded
decoded_only limits s m within short reads =
    let fits : nat_lt limits.bytes (length s) ≡ false = grind (arith, nat_tests) in
    let low : nat_le (depth m.payload) limits.depth ≡ true = let l = within.shallow in grind (arith, nat_tests) in
    rw (fits, reads, ref_again m.join_ref, ref_again m.msg_ref, within.topic, within.event, low, within.whole) refl

pub found_from_answer : (limits : Limits) (s : List ℕ) (r : Result Message MessageFault) → Answers r (decoded limits s)
    → IfOk r (λ m. IsWithin limits.depth m × (length s ≤ limits.bytes) × (read s ≡ Some (value_of m)))
found_from_answer limits s (Ok m) h = let b = decoded_found limits s m h in (b.within, b.short, b.reads)
found_from_answer limits s (Err e) h = tt

depth-ref_value : (r : Option MsgRef) → depth (ref_value r) ≡ 0
depth-ref_value None = refl
depth-ref_value (Some (Text s)) = refl
depth-ref_value (Some (Number n)) = refl

depth-value_of : (m : Message) → depth m.payload ≤ 96 → depth (value_of m) ≤ 127
depth-value_of m h = rw (depth-ref_value m.join_ref, depth-ref_value m.msg_ref) (omega arith)

-- a text that reads as the message's array is read as the message
pub reads_again : (s : List ℕ) (m : Message) (d : Data) → d ≡ value_of m → (depth d ≤ 127 → read s ≡ Some d) → IsWithin the_limits.FRAME.depth m → length s ≤ the_limits.FRAME.bytes → decoded the_limits.FRAME s ≡ Ok m
reads_again s m d e h within short = decoded_only the_limits.FRAME s m within short (rw e at h (depth-value_of m within.shallow))

-- ---- the laws

pub decoded_orderly : DecodedIsOrderly
decoded_orderly limits s m e = let b = decoded_found limits s m e in (b.within, read_orderly s (value_of m) b.reads)

ref_whole : (r : Option MsgRef) → has_float (ref_value r) ≡ false
ref_whole None = refl
ref_whole (Some (Text s)) = refl
ref_whole (Some (Number n)) = refl

value_whole : (m : Message) → has_float m.payload ≡ false → has_float (value_of m) ≡ false
value_whole m h = rw (ref_whole m.join_ref, ref_whole m.msg_ref, h) refl

pub reads_back : ReadsBack
reads_back m within orderly short =
    decoded_only the_limits.FRAME (compact_text (value_of m)) m within short (text_again (value_of m) orderly (value_whole m within.whole) (depth-value_of m within.shallow))

-- ---- lines

abbrev TextIs : Data → List ℕ → Type 0
TextIs d s = has_float d ≡ false → s ≡ compact_text d

abbrev ReadsAs : Data → List ℕ → Type 0
ReadsAs d s = depth d ≤ 127 → read s ≡ Some d

-- a text that is written for a message within the limits of a frame is one line
pub line_written : {E : Type 0} (r : Result (String Global) E) (m : Message) (d : Data) → d ≡ value_of m → IfOk r (λ s. TextIs d (string_bytes s)) → IfOk r (λ s. ReadsAs d (string_bytes s))
    → IfOk r (λ s. IsWithin the_limits.FRAME.depth m → lacks_feed (string_bytes s) ≡ true)
line_written (Ok s) m d e text reads =
    λ within.
    let whole : has_float d ≡ false = ap has_float e ∙ value_whole m within.whole in
    let low : depth d ≤ 127 = rw e (depth-value_of m within.shallow) in
    ap lacks_feed (text whole) ∙ text_lacks d (read_orderly (string_bytes s) d (reads low)) whole
line_written (Err x) m d e text reads = tt
