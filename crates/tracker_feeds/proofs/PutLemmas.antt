-- The map of cursors, where one is put in, written or taken out.
use Rattle.std.proofs.Common.{◌≡◌, ℕ, Bool, cond, nat_eq, List, Option, Some, None, option_map, IsSome, refl, sym, ◌∙◌, ap, arith}
use Rattle.std.specs.Prelude.{unwrap_or}
use Rattle.std.specs.Ordering.{nat_cmp}
use Rattle.std.specs.Cmp.{nat_cmp_total, unsigned_tied}
use Rattle.std.specs.Map.{lookup, remove_entry, set_value}
use Rattle.std.specs.BTreeMap.{BTreeMap, get, is_at, insert_entry, IsOrdered, WritesThrough}
use Rattle.std.proofs.lemmas.Map.Entries.{sum_by-insert_entry, sum_by-remove_entry, sum_by-set_value}
use Rattle.tracker_feeds.specs.Rings.{one_on, ones_on, followers_on, IsPut}
use Rattle.tracker_feeds.specs.declared.followers.Follower.{Follower}

pub at_number : (q : ℕ) (es : List (ℕ × Follower)) → lookup (is_at (nat_cmp q)) es ≡ lookup (nat_eq q) es
at_number q es = ap (λ (test : ℕ → Bool). lookup test es) (λ i k. unsigned_tied q k i)

ones_are : (t : List ℕ) (o : Option Follower) → unwrap_or (option_map (one_on t) o) 0 ≡ ones_on t o
ones_are t None = refl
ones_are t (Some f) = refl

looked_up : (m n : BTreeMap ℕ Follower) (k : ℕ) (f : Option Follower) → ((q : ℕ) → get nat_cmp n q ≡ cond (is_at (nat_cmp k) q) f (get nat_cmp m q)) → (q : ℕ) → lookup (nat_eq q) n.entries ≡ cond (nat_eq k q) f (lookup (nat_eq q) m.entries)
looked_up m n k f put q = sym (at_number q n.entries) ∙ (put q ∙ (λ i. cond (unsigned_tied k q i) f (at_number q m.entries i)))

was_there : (t : List ℕ) (k : ℕ) (es : List (ℕ × Follower)) → unwrap_or (option_map (one_on t) (lookup (is_at (nat_cmp k)) es)) 0 ≡ ones_on t (lookup (nat_eq k) es)
was_there t k es = ones_are t (lookup (is_at (nat_cmp k)) es) ∙ ap (ones_on t) (at_number k es)

pub put_in : (m n : BTreeMap ℕ Follower) (k : ℕ) (f : Follower) → IsOrdered nat_cmp m → ((q : ℕ) → get nat_cmp n q ≡ cond (is_at (nat_cmp k) q) (Some f) (get nat_cmp m q)) → n.entries ≡ insert_entry nat_cmp m.entries k f → IsPut m.entries n.entries k (Some f)
put_in m n k f ordered put is = record {
  lookups = looked_up m n k (Some f) put;
  counts = λ t.
      let e : followers_on t n.entries ≡ followers_on t (insert_entry nat_cmp m.entries k f) = ap (followers_on t) is in
      omega (arith, e, sum_by-insert_entry (one_on t) nat_cmp_total m.entries k f ordered, was_there t k m.entries);
}

pub taken_out : (m n : BTreeMap ℕ Follower) (k : ℕ) → ((q : ℕ) → get nat_cmp n q ≡ cond (is_at (nat_cmp k) q) None (get nat_cmp m q)) → n.entries ≡ remove_entry (is_at (nat_cmp k)) m.entries → IsPut m.entries n.entries k None
taken_out m n k out is = record {
  lookups = looked_up m n k None out;
  counts = λ t.
      let e : followers_on t n.entries ≡ followers_on t (remove_entry (is_at (nat_cmp k)) m.entries) = ap (followers_on t) is in
      omega (arith, e, sum_by-remove_entry (one_on t) (is_at (nat_cmp k)) m.entries, was_there t k m.entries);
}

found_one : (m : BTreeMap ℕ Follower) (k : ℕ) (f : Follower) → get nat_cmp m k ≡ Some f → IsSome (get nat_cmp m k)
found_one m k f e = rw e refl

pub written_over : (m n : BTreeMap ℕ Follower) (k : ℕ) (f g : Follower) → get nat_cmp m k ≡ Some f → WritesThrough nat_cmp (nat_cmp k) m g n → IsPut m.entries n.entries k (Some g)
written_over m n k f g was through = record {
  lookups = looked_up m n k (Some g) (through.3 (found_one m k f was)).0;
  counts = λ t.
      let e : followers_on t n.entries ≡ followers_on t (set_value (is_at (nat_cmp k)) m.entries g) = ap (followers_on t) through.0 in
      let o : ones_on t (lookup (nat_eq k) m.entries) ≡ one_on t f = ap (ones_on t) (sym (at_number k m.entries) ∙ was) in
      omega (arith, e, o, sum_by-set_value (one_on t) (is_at (nat_cmp k)) m.entries f g was);
}
