-- Which faults a text can have.
use Rattle.std.proofs.Common.{◌≡◌, ℕ, Bool, true, false, cond, List, length, nat_lt, Option, Some, None, Result, Ok, Err, IfErr, refl, arith}
use Rattle.std.proofs.lemmas.Bool.Decides.{nat_tests}
use Rattle.serde_json.specs.Data.{Data, null, boolean, number, string, array, object, Items, no_items, item}
use Rattle.serde_json.specs.Read.{read}
use Rattle.presence_base.specs.declared.dots.Replica.{Replica}
use Rattle.orswot_core.specs.declared.told.ToldFault.{ToldFault}
use Rattle.orswot_core.specs.Telling.{ToldValue}
use Rattle.orswot_core.specs.declared.form.Form.{Form}
use Rattle.orswot_core.specs.declared.form.Form.TheVariants.{One, Two}
use Rattle.orswot_core.specs.Checks.{first_fault}
use Rattle.link_lines.specs.declared.kinds.Kind.{Kind}
use Rattle.link_lines.specs.declared.kinds.Kind.TheVariants as kinds_are
use Rattle.link_lines.specs.declared.lines.Line.{Line}
use Rattle.link_lines.specs.declared.hearer.Hearer.{Hearer}
use Rattle.link_lines.specs.declared.hearer.Telling.{Telling}
use Rattle.link_lines.specs.declared.fault.LinkFault.{LinkFault}
use Rattle.link_lines.specs.declared.fault.LinkFault.TheVariants.{LineTooLong, NotJson, BadLine, BadTold, OtherShards, ReadFailed, WriteFailed, OutOfMemory, CutLine}
use Rattle.presence_base.specs.declared.names.TheConstants.{MAX_SHARDS}
use Rattle.link_lines.specs.declared.lines.TheConstants.{MAX_LINE_BYTES}
use Rattle.presence_base.specs.Names.{guarded}
use Rattle.link_lines.specs.Arrays.{two_in, three_in, Four, four_in, Five, five_in, six_in}
use Rattle.link_lines.specs.Kinds.{kind_in}
use Rattle.link_lines.specs.Members.{whole_in, number_in, count_in, bound_in, replica_in}
use Rattle.link_lines.specs.Telling.{range_in, extra_in, row_in, list_in}
use Rattle.link_lines.specs.Reading.{below, shard_in, hello_with, hello_of, ok_items, ok_in, line_of_kind, line_in, found_value, decoded, IsTextFault}
use Rattle.link_lines.specs.Results.{◌>>=◌, or_bad, Answers}
use Rattle.link_lines.specs.Told.{raw_told_in, unless, sound, in_form, told_as, told_in, is_delta_of, own_delta, delta_as, delta_in}

-- a bad line or a bad told value
abbrev IsBad : LinkFault → Type 0
IsBad BadLine = Unit {0}
IsBad (BadTold f) = Unit {0}
IsBad _ = ⊥

abbrev HasBad : {A : Type 0} → Result A LinkFault → Type 0
HasBad (Ok x) = Unit {0}
HasBad (Err e) = IsBad e

record OnlyBad (A : Type 0) (r : Result A LinkFault) : Type 0 where
  is : HasBad r

fine : {A : Type 0} (x : A) → OnlyBad A (Ok x)
fine x = record { is = tt }

bad_then : {A B : Type 0} (r : Result A LinkFault) (f : A → Result B LinkFault) → OnlyBad A r → ((x : A) → OnlyBad B (f x)) → OnlyBad B (r >>= f)
bad_then (Ok x) f h k = k x
bad_then (Err e) f h k = record { is = h.is }

bad_or : {A : Type 0} (o : Option A) → OnlyBad A (or_bad o)
bad_or None = record { is = tt }
bad_or (Some x) = record { is = tt }

-- a step that finds something or not
bad_next : {A B : Type 0} (o : Option A) (f : A → Result B LinkFault) → ((x : A) → OnlyBad B (f x)) → OnlyBad B (or_bad o >>= f)
bad_next o f k = bad_then (or_bad o) f (bad_or o) k

bad_unless : (o : Option ToldFault) (t : ToldValue) → OnlyBad ToldValue (unless o t)
bad_unless None t = record { is = tt }
bad_unless (Some f) t = record { is = tt }

bad_raw : (form : Form) (d : Data) → OnlyBad ToldValue (raw_told_in form d)
unfolding raw_told_in
bad_raw Two d =
    bad_next (two_in d) _ (λ m.
    bad_next (list_in range_in m.0) _ (λ gs.
    bad_next (list_in row_in m.1) _ (λ xs. fine _)))
bad_raw One d =
    bad_next (three_in d) _ (λ m.
    bad_next (list_in range_in m.0) _ (λ gs.
    bad_next (list_in extra_in m.1) _ (λ es.
    bad_next (list_in row_in m.2) _ (λ xs. fine _))))

bad_told : (k : ℕ) (h : Hearer) (d : Data) → OnlyBad Telling (told_in k h d)
bad_told k h d = bad_next h.form (told_as k h.shards d) (λ form.
    bad_then (raw_told_in form d >>= sound k h.shards form) (in_form form)
    (bad_then (raw_told_in form d) (sound k h.shards form) (bad_raw form d) (λ t. bad_unless (first_fault k h.shards form t) t))
    (λ t. fine _))

abbrev some_told : Form → ToldValue → Result (Option Telling) LinkFault
some_told form t = Ok (Some (record { form = form; told = t }))

bad_some : (k : ℕ) (h : Hearer) (r : Replica) (d : Data) → OnlyBad (Option Telling) (or_bad h.form >>= delta_as k h.shards r d)
bad_some k h r d = bad_next h.form (delta_as k h.shards r d) (λ form.
    bad_then (raw_told_in form d >>= own_delta form r >>= sound k h.shards form) (some_told form)
    (bad_then (raw_told_in form d >>= own_delta form r) (sound k h.shards form)
    (bad_then (raw_told_in form d) (own_delta form r) (bad_raw form d) (λ t. bad_or (guarded (is_delta_of form r t) t)))
    (λ t. bad_unless (first_fault k h.shards form t) t))
    (λ t. fine _))

bad_delta : (k : ℕ) (n : Hearer) (r : Replica) (d : Data) → OnlyBad (Option Telling) (delta_in k n r d)
bad_delta k n r null = fine None
bad_delta k n r (boolean b) = bad_some k n r (boolean b)
bad_delta k n r (number x) = bad_some k n r (number x)
bad_delta k n r (string s) = bad_some k n r (string s)
bad_delta k n r (array ds) = bad_some k n r (array ds)
bad_delta k n r (object ms) = bad_some k n r (object ms)

bad_shard : (n : ℕ) (d : Data) → OnlyBad ℕ (shard_in n d)
bad_shard n d = bad_next (whole_in d) (λ k. or_bad (below n k)) (λ k. bad_or (below n k))

bad_ok_items : (ds : Items) → OnlyBad Line (ok_items ds)
bad_ok_items no_items = record { is = tt }
bad_ok_items (item d no_items) = record { is = tt }
bad_ok_items (item d (item e ds)) = record { is = tt }

bad_ok : (d : Data) → OnlyBad Line (ok_in d)
bad_ok null = record { is = tt }
bad_ok (boolean b) = record { is = tt }
bad_ok (number x) = record { is = tt }
bad_ok (string s) = record { is = tt }
bad_ok (array ds) = bad_ok_items ds
bad_ok (object ms) = record { is = tt }

bad_hello_with : (name incarnation shards : Data) (version : Option ℕ) → OnlyBad Line (hello_with name incarnation shards version)
bad_hello_with name incarnation shards version = bad_next (replica_in name incarnation) _ (λ r. bad_next (number_in 1 MAX_SHARDS shards) _ (λ k. fine _))

bad_hello : (o : Option Four) (p : Option Five) → OnlyBad Line (hello_of o p)
bad_hello (Some m) p = bad_hello_with m.1 m.2 m.3 None
bad_hello None (Some m) = bad_next (count_in m.4) _ (λ v. bad_hello_with m.1 m.2 m.3 (Some v))
bad_hello None None = record { is = tt }

bad_kind : (n : Hearer) (d : Data) (k : Kind) → OnlyBad Line (line_of_kind n d k)
bad_kind n d kinds_are.Hello = bad_hello (four_in d) (five_in d)
bad_kind n d kinds_are.Beat =
    bad_next (six_in d) _ (λ m.
    bad_then (shard_in n.shards m.1) _ (bad_shard n.shards m.1) (λ k.
    bad_next (replica_in m.2 m.3) _ (λ r.
    bad_next (bound_in m.4) _ (λ c.
    bad_then (delta_in k n r m.5) _ (bad_delta k n r m.5) (λ t. fine _)))))
bad_kind n d kinds_are.Want =
    bad_next (five_in d) _ (λ m.
    bad_then (shard_in n.shards m.1) _ (bad_shard n.shards m.1) (λ k.
    bad_next (replica_in m.2 m.3) _ (λ r.
    bad_next (bound_in m.4) _ (λ c. fine _))))
bad_kind n d kinds_are.Told =
    bad_next (three_in d) _ (λ m.
    bad_then (shard_in n.shards m.1) _ (bad_shard n.shards m.1) (λ k.
    bad_then (told_in k n m.2) _ (bad_told k n m.2) (λ t. fine _)))
bad_kind n d kinds_are.PermDown = bad_next (three_in d) _ (λ m. bad_next (replica_in m.1 m.2) _ (λ r. fine _))
bad_kind n d kinds_are.Gone = bad_next (three_in d) _ (λ m. bad_next (replica_in m.1 m.2) _ (λ r. fine _))
bad_kind n d kinds_are.Ok = bad_ok d

bad_line : (n : Hearer) (d : Data) → OnlyBad Line (line_in n d)
bad_line n d = bad_next (kind_in d) (line_of_kind n d) (λ k. bad_kind n d k)

-- ---- texts

abbrev OfText : List ℕ → Result Line LinkFault → Type 0
OfText s (Ok line) = Unit {0}
OfText s (Err e) = IsTextFault s e

of_text : (s : List ℕ) (r : Result Line LinkFault) → HasBad r → OfText s r
of_text s (Ok line) h = tt
of_text s (Err BadLine) h = tt
of_text s (Err (BadTold f)) h = tt
of_text s (Err _) h = absurd h

found_of_text : (n : Hearer) (s : List ℕ) (o : Option Data) → OfText s (found_value o >>= line_in n)
found_of_text n s None = tt
found_of_text n s (Some d) = of_text s (line_in n d) ((bad_line n d).is)

decoded_of_text : (n : Hearer) (s : List ℕ) → OfText s (decoded n s)
decoded_of_text n s = go (nat_lt MAX_LINE_BYTES (length s)) refl
  where
    go : (b : Bool) → nat_lt MAX_LINE_BYTES (length s) ≡ b → OfText s (cond b (Err LineTooLong) (found_value (read s)) >>= line_in n)
    go true was = grind (arith, nat_tests)
    go false was = found_of_text n s (read s)

fault_of_text : (s : List ℕ) (e : LinkFault) (r : Result Line LinkFault) → OfText s r → Answers (Err e) r → IsTextFault s e
fault_of_text s OutOfMemory r h a = tt
fault_of_text s LineTooLong r h a = rw a at h
fault_of_text s NotJson r h a = tt
fault_of_text s BadLine r h a = tt
fault_of_text s (BadTold f) r h a = tt
fault_of_text s OtherShards r h a = rw a at h
fault_of_text s ReadFailed r h a = rw a at h
fault_of_text s WriteFailed r h a = rw a at h
fault_of_text s CutLine r h a = rw a at h

pub faults_from_answer : (n : Hearer) (s : List ℕ) (r : Result Line LinkFault) → Answers r (decoded n s) → IfErr r (IsTextFault s)
faults_from_answer n s (Ok line) a = tt
faults_from_answer n s (Err e) a = fault_of_text s e (decoded n s) (decoded_of_text n s) a
