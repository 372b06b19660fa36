-- Which pairs a rebirth has, and whether it can be, by the set of what is covered.
use Rattle.std.proofs.Common.{◌≡◌, ℕ, ◌≤◌, ◌^◌, nat_lt, nat_le, Bool, true, false, cond, not, ◌&&◌, List, [], ◌∷◌, length, None, refl, sym, ◌∙◌, ap, subst, arith}
use Rattle.std.specs.Map.{keys_of}
use Rattle.std.specs.FinSet as set
use Rattle.std.specs.FinMap as map
use Rattle.std.specs.FinMap.Entries.{same_entries, is_sorted-where_key, find-where_key}
use Rattle.std.proofs.lemmas.Bool.{and_parts, and_from}
use Rattle.presence_base.specs.declared.dots.Replica.{Replica}
use Rattle.presence_base.specs.declared.dots.Dot.{Dot}
use Rattle.presence_base.specs.declared.row.Row.{Row}
use Rattle.presence_base.specs.Order.{dot_cmp, same_replica}
use Rattle.dot_context.specs.Sets.{TellsIfAny}
use Rattle.orswot_core.specs.Sets.{DotRows, rows_by}
use Rattle.replica_status.specs.declared.status.Status.{Status}
use Rattle.replica_status.specs.declared.status.Status.TheVariants as status_is
use Rattle.presence_journal.specs.History.{History, own, reborn, count, has_dots, is_gone, status, known, live, shown}
use Rattle.presence_journal.specs.Present.{dots}
use Rattle.presence_journal.specs.Table.{IsLegal, own_shown, put_rows, own_dots, reborn_from, pairs_for, is_unheard, can_be_reborn}
use Rattle.presence_journal.proofs.Same.{dot_total, dot_cmp-IsAntisymmetric, same_replica-true}
use Rattle.presence_journal.proofs.PresentLemmas.{shown-row}
use Rattle.presence_journal.proofs.Reborn.{get_own, own_dots_most, known_has, SomeIn, some_known}
use Rattle.presence_journal.proofs.HistoryLemmas.{legal_knows, status-own, shown-live}
use Rattle.presence_journal.proofs.Walking.{count-limit}
use Rattle.presence_journal_known.specs.LeftOut.{HoldsCovered}

-- an own row that is live is shown, and is in the set
pub own_kept : (h : History) (d : Dot) → d.replica ≡ own h → cond (is_gone (status h d.replica)) None (live h d) ≡ shown h d
own_kept h d o = ap (λ b. cond b None (live h d)) (ap (λ r. is_gone (status h r)) o ∙ ap is_gone (status-own h)) ∙ sym (shown-live h d o)

of_own : Replica → Dot → Bool
of_own r d = same_replica d.replica r

module _ (h : History) (s : DotRows) (o : Replica) (holds : HoldsCovered h s) (mine : o ≡ own h) where
  own_rows_are : map.entries (put_rows (own_shown h) (dots h)) ≡ rows_by s.live o
  own_rows_are =
      same_entries dot_cmp dot_total dot_cmp-IsAntisymmetric (map.entries m) (rows_by s.live o) (map.entries_sorted m)
      (is_sorted-where_key dot_cmp (λ d. same_replica d.replica o) (map.entries s.live) (map.entries_sorted s.live))
      (λ d. sym (map.get-entries m d)
      ∙ (get_own h d
      ∙ (at d (same_replica d.replica (own h)) refl
      ∙ (ap (λ p. cond (same_replica d.replica o) p None) (map.get-entries s.live d)
      ∙ sym (find-where_key dot_cmp (λ x. same_replica x.replica o) d (λ x e. ap (λ (y : Dot). same_replica y.replica o) (sym (dot_cmp-IsAntisymmetric d x e))) (map.entries s.live))))))
    where
      m : map.FinMap dot_cmp Row
      m = put_rows (own_shown h) (dots h)

      at : (d : Dot) (b : Bool) → same_replica d.replica (own h) ≡ b → cond (same_replica d.replica (own h)) (shown h d) None ≡ cond (same_replica d.replica o) (map.get s.live d) None
      at d true p =
          ap (λ c. cond c (shown h d) None) p
          ∙ (sym (own_kept h d (same_replica-true d.replica (own h) p))
          ∙ (sym (holds.live d)
          ∙ sym (ap (λ r. cond (same_replica d.replica r) (map.get s.live d) None) mine ∙ ap (λ c. cond c (map.get s.live d) None) p)))
      at d false p =
          ap (λ c. cond c (shown h d) None) p
          ∙ sym (ap (λ r. cond (same_replica d.replica r) (map.get s.live d) None) mine ∙ ap (λ c. cond c (map.get s.live d) None) p)

  pub own_keys_are : (es : List (Dot × Row)) → es ≡ rows_by s.live o → keys_of es ≡ own_dots h
  unfolding own_dots
  own_keys_are es is = ap keys_of (is ∙ sym own_rows_are)

  -- where nothing was heard of a replica, what is covered of it is all that is known
  tells_has : (r : Replica) (b : Bool) → is_unheard (status h r) ≡ true → TellsIfAny s.covered r b → b ≡ has_dots h r
  tells_has r true u some =
      sym (known_has h (record { replica = r; count = some.count })
      (and_parts (known h (record { replica = r; count = some.count })) (not (is_gone (status h r))) (sym (holds.covered (record { replica = r; count = some.count })) ∙ some.there)).0)
  tells_has r false u none = go (has_dots h r) refl
    where
      not_gone : (x : Status) → is_unheard x ≡ true → not (is_gone x) ≡ true
      not_gone status_is.Unheard f = refl
      not_gone status_is.Up f = absurd (cc)
      not_gone status_is.Down f = absurd (cc)
      not_gone status_is.Gone f = absurd (cc)

      there : SomeIn (known h) r → false ≡ true
      there x =
          sym (none x.dot.count)
          ∙ (ap (λ q. set.contains s.covered (record { replica = q; count = x.dot.count })) (sym x.of)
          ∙ (holds.covered x.dot
          ∙ and_from (known h x.dot) (not (is_gone (status h x.dot.replica))) x.has (ap (λ q. not (is_gone (status h q))) x.of ∙ not_gone (status h r) u)))

      go : (b : Bool) → has_dots h r ≡ b → false ≡ b
      go false f = refl
      go true f = there (some_known h r f)

  pub can_go_on_is : (i : ℕ) (x : Status) (b : Bool) → x ≡ status h (reborn (own h) i) → TellsIfAny s.covered (reborn o i) b
      → (nat_lt o.incarnation i && (nat_le i (2 ^ 62) && (is_unheard x && not b))) ≡ can_be_reborn h i
  unfolding can_be_reborn
  can_go_on_is i x b same tells =
      (λ j. nat_lt (mine j).incarnation i && (nat_le i (2 ^ 62) && (is_unheard x && not b)))
      ∙ ap (λ c. nat_lt (own h).incarnation i && (nat_le i (2 ^ 62) && c)) (go (is_unheard x) refl)
    where
      go : (u : Bool) → is_unheard x ≡ u → (is_unheard x && not b) ≡ (is_unheard (status h (reborn (own h) i)) && not (has_dots h (reborn (own h) i)))
      go true u =
          (λ j. is_unheard (same j) && not b)
          ∙ ap (λ c. is_unheard (status h (reborn (own h) i)) && not c)
          (tells_has (reborn (own h) i) b (ap is_unheard (sym same) ∙ u) (subst (λ (q : Replica). TellsIfAny s.covered (reborn q i) b) mine tells))
      go false u = ap (λ c. c && not b) u ∙ sym (ap (λ c. c && not (has_dots h (reborn (own h) i))) (ap is_unheard (sym same) ∙ u))

pub few_own_rows : (h : History) (s : DotRows) (o : Replica) (es : List (Dot × Row)) → IsLegal h → HoldsCovered h s → o ≡ own h → es ≡ rows_by s.live o → length es ≤ 2 ^ 62
few_own_rows h s o es legal holds mine is =
    let knows = legal_knows h legal in
    let most = own_dots_most h (count h) (λ d g. knows.of_own d g.own (knows.of_row d g.row (shown-row h d g.row g.shown).0)) in
    omega (arith, most, count-limit h legal, ap length (own_keys_are h s o holds mine es is), length-keys es)
  where
    length-keys : (xs : List (Dot × Row)) → length (keys_of xs) ≡ length xs
    length-keys [] = refl
    length-keys (x ∷ xs) = omega (arith, length-keys xs)

pub own_pairs_are : (h : History) (s : DotRows) (o : Replica) (i : ℕ) (es : List (Dot × Row)) (ps : List (Dot × Dot)) → HoldsCovered h s → o ≡ own h → es ≡ rows_by s.live o → ps ≡ reborn_from (reborn o i) 0 (keys_of es) → ps ≡ pairs_for h i
own_pairs_are h s o i es ps holds mine is same = same ∙ (λ j. reborn_from (reborn (mine j) i) 0 (own_keys_are h s o holds mine es is j))
