-- The states that are kept beside the rows, where either change.
use Rattle.std.proofs.Common.{◌≡◌, ℕ, ◌+◌, Bool, true, false, cond, ◌&&◌, List, [], ◌∷◌, drop, Option, Some, None, IsSome, IfSome, refl, sym, ◌∙◌, ap, subst, inl, inr}
use Rattle.std.specs.Prelude.{◌⊎◌}
use Rattle.std.specs.Map.{lookup}
use Rattle.std.specs.BTreeMap.{is_at, WritesThrough}
use Rattle.std.proofs.lemmas.Option.{same_Some}
use Rattle.presence_base.specs.declared.dots.Replica.{Replica}
use Rattle.presence_base.specs.declared.dots.Dot.{Dot}
use Rattle.presence_base.specs.declared.row.Row.{Row}
use Rattle.presence_base.specs.Order.{text_cmp, same_text, same_dot}
use Rattle.presence_journal.specs.declared.rows.Place.{Place}
use Rattle.presence_journal.proofs.Same.{same_text-true}
use Rattle.tracker_shown.specs.declared.stand.Holder.{Holder}
use Rattle.tracker_shown.specs.declared.stand.Holder.TheVariants.{Room}
use Rattle.tracker_shown.specs.Kept.{Kept, kept_at, is_for, belongs, IsPartlySet}
use Rattle.tracker_shown.specs.Listing.{Lists, everywhere}
use Rattle.tracker_shown.specs.States.{StateMap, state_at, AreStatesOf, IsNoState, IsSameStates, LosesSome, Forgets, AreOfOthers, ForgetsAll, KeepsToo, LeavesOthers}

-- rows that are set

second_false : (a c : Bool) → (a && (false && c)) ≡ false
second_false true c = refl
second_false false c = refl

-- a row belongs to no place of another topic
belongs_off : (o : Replica) (d : Dot) (r : Row) (w : Holder) (t : List ℕ) (p : Place) → same_text r.topic t ≡ false → belongs o d r w t p ≡ false
belongs_off o d r w t p e =
    ap (λ b. is_for o w d r && (b && (same_text r.key p.key && same_dot d p.dot))) e
    ∙ second_false (is_for o w d r) (same_text r.key p.key && same_dot d p.dot)

pub others_stay : (o : Replica) (d : Dot) (r : Row) (v : Option Row) (m n : Kept) → IsPartlySet o d r v m n → LeavesOthers ((d, r) ∷ []) m n
others_stay o d r v m n set w t p are = go (set w t p)
  where
    go : (kept_at n w t p ≡ kept_at m w t p) ⊎ (kept_at n w t p ≡ cond (belongs o d r w t p) v (kept_at m w t p)) → kept_at n w t p ≡ kept_at m w t p
    go (inl e) = e
    go (inr e) = e ∙ ap (λ b. cond b v (kept_at m w t p)) (belongs_off o d r w t p are.0)

-- what is kept on other topics than those of the first i rows is as it was, and the rest of the rows is of others too
abbrev pub OthersTo : List (Dot × Row) → ℕ → Kept → Kept → Type 0
OthersTo xs i m n =
    (w : Holder) (t : List ℕ) (p : Place) → AreOfOthers t xs → (kept_at n w t p ≡ kept_at m w t p) × AreOfOthers t (drop i xs)

pub others_more : (xs : List (Dot × Row)) (i : ℕ) (x : Dot × Row) (m k n : Kept) → drop i xs ≡ x ∷ drop (i + 1) xs → LeavesOthers (x ∷ []) k n → OthersTo xs i m k → OthersTo xs (i + 1) m n
others_more xs i x m k n at leaves told w t p are =
    let so_far = told w t p are in
    let rest = subst (AreOfOthers t) at so_far.1 in
    (leaves w t p (rest.0, tt) ∙ so_far.0, rest.1)

pub others_end : (xs : List (Dot × Row)) (i : ℕ) (m n : Kept) → OthersTo xs i m n → LeavesOthers xs m n
others_end xs i m n told w t p are = (told w t p are).0

-- states that are forgotten

-- only states that were kept before, of topics that none of the first i rows is of
abbrev pub ForgotTo : List (Dot × Row) → ℕ → StateMap → StateMap → Type 0
ForgotTo xs i ss us =
    (t : List ℕ) (v : List (Dot × Row))
    → state_at us t ≡ Some v → (state_at ss t ≡ Some v) × (AreOfOthers t (drop i xs) → AreOfOthers t xs)

pub one_forgotten : (d : Dot) (r : Row) (ss us : StateMap) → Forgets r.topic ss us → ForgetsAll ((d, r) ∷ []) ss us
one_forgotten d r ss us forgets t v is = go (same_text r.topic t) refl (sym (forgets t) ∙ is)
  where
    go : (b : Bool) → same_text r.topic t ≡ b → cond b None (state_at ss t) ≡ Some v → (state_at ss t ≡ Some v) × AreOfOthers t ((d, r) ∷ [])
    go true h e = absurd (cc)
    go false h e = (e, (h, tt))

pub forgot_more : (xs : List (Dot × Row)) (i : ℕ) (x : Dot × Row) (ss ts us : StateMap) → drop i xs ≡ x ∷ drop (i + 1) xs → Forgets x.1.topic ts us → ForgotTo xs i ss ts → ForgotTo xs (i + 1) ss us
forgot_more xs i x ss ts us at forgets told t v is =
    let one = one_forgotten x.0 x.1 ts us forgets t v is in
    let so_far = told t v one.0 in
    (so_far.0, λ rest. so_far.1 (subst (AreOfOthers t) (sym at) (one.1.0, rest)))

pub forgot_end : (xs : List (Dot × Row)) (i : ℕ) (ss us : StateMap) → drop i xs ≡ [] → ForgotTo xs i ss us → ForgetsAll xs ss us
forgot_end xs i ss us e told t v is = let so_far = told t v is in (so_far.0, so_far.1 (subst (AreOfOthers t) (sym e) tt))

-- what is left is still of the rows, where those change only on the topics that are forgotten
pub states_left : (xs : List (Dot × Row)) (m n : Kept) (ss us : StateMap) → AreStatesOf m ss → ForgetsAll xs ss us → LeavesOthers xs m n → AreStatesOf n us
states_left xs m n ss us are forgets leaves t v is rows f like =
    let was = forgets t v is in
    are t v was.0 rows f (λ p. like p ∙ leaves Room t p was.1)

pub set_left : (o : Replica) (d : Dot) (r : Row) (v : Option Row) (m n : Kept) (ss us : StateMap) → AreStatesOf m ss → Forgets r.topic ss us → IsPartlySet o d r v m n → AreStatesOf n us
set_left o d r v m n ss us are forgets set = states_left ((d, r) ∷ []) m n ss us are (one_forgotten d r ss us forgets) (others_stay o d r v m n set)

pub same_left : (xs : List (Dot × Row)) (m : Kept) (ss us : StateMap) → AreStatesOf m ss → ForgetsAll xs ss us → AreStatesOf m us
same_left xs m ss us are forgets = states_left xs m m ss us are forgets (λ w t p is. refl)

-- states that are kept

pub none_kept : (m : Kept) (ss : StateMap) → IsNoState ss → AreStatesOf m ss
none_kept m ss none t v is = let e : None ≡ Some v = sym (none t) ∙ is in absurd (cc)

pub same_kept : (m : Kept) (ss us : StateMap) → AreStatesOf m ss → IsSameStates ss us → AreStatesOf m us
same_kept m ss us are same t v is = are t v (sym (same t) ∙ is)

pub state_kept : (ss : StateMap) (t : List ℕ) (o : Option (List (Dot × Row))) (v : List (Dot × Row)) → o ≡ Some v → IfSome o (λ s. state_at ss t ≡ Some s) → state_at ss t ≡ Some v
state_kept ss t o v is if = subst (λ (p : Option (List (Dot × Row))). IfSome p (λ s. state_at ss t ≡ Some s)) is if

pub one_kept : (m : Kept) (u : List ℕ) (s r : List (Dot × Row)) (ss us : StateMap) → AreStatesOf m ss → Lists m Room u everywhere r → s ≡ r → KeepsToo u s ss us → AreStatesOf m us
one_kept m u s r ss us are lists same keeps t v is = go (keeps t v is)
  where
    go : (state_at ss t ≡ Some v) ⊎ ((same_text u t ≡ true) × (v ≡ s)) → Lists m Room t everywhere v
    go (inl e) = are t v e
    go (inr e) = subst (λ x. Lists m Room t everywhere x) (sym (e.1 ∙ same)) (subst (λ y. Lists m Room y everywhere r) (same_text-true u t e.0) lists)

-- the map of states, where one is written, put in or taken out

found_state : (ss : StateMap) (t : List ℕ) (v : List (Dot × Row)) → state_at ss t ≡ Some v → IsSome (state_at ss t)
found_state ss t v e = rw e refl

-- a state that is written over by an equal one
pub same_written : (ss us : StateMap) (u : List ℕ) (old new : List (Dot × Row)) → state_at ss u ≡ Some old → WritesThrough text_cmp (text_cmp u) ss new us → new ≡ old → IsSameStates ss us
same_written ss us u old new was through same t = (through.3 (found_state ss u old was)).0 t ∙ go (same_text u t) refl
  where
    go : (b : Bool) → same_text u t ≡ b → cond b (Some new) (state_at ss t) ≡ state_at ss t
    go true e = ap Some same ∙ (sym was ∙ ap (state_at ss) (same_text-true u t e))
    go false e = refl

pub no_entries : (ss us : StateMap) → us.entries ≡ [] → LosesSome ss us
no_entries ss us e t v is = let none : None ≡ Some v = sym (ap (lookup (is_at (text_cmp t))) e) ∙ is in absurd (cc)

-- where memory ran out, the states that were left are those that were kept
pub stays_too : (u : List ℕ) (s : List (Dot × Row)) (ss ts us : StateMap) → LosesSome ss ts → us.entries ≡ ts.entries → KeepsToo u s ss us
stays_too u s ss ts us loses same t v is = inl (loses t v (subst (λ es. lookup (is_at (text_cmp t)) es ≡ Some v) same is))

-- a state that is put in
pub put_too : (u k : List ℕ) (s w : List (Dot × Row)) (ss ts us : StateMap) → k ≡ u → w ≡ s → LosesSome ss ts → ((t : List ℕ) → state_at us t ≡ cond (same_text k t) (Some w) (state_at ts t)) → KeepsToo u s ss us
put_too u k s w ss ts us key same loses put t v is = go (same_text k t) refl (sym (put t) ∙ is)
  where
    go : (b : Bool) → same_text k t ≡ b → cond b (Some w) (state_at ts t) ≡ Some v → (state_at ss t ≡ Some v) ⊎ ((same_text u t ≡ true) × (v ≡ s))
    go true h e = inr (ap (λ x. same_text x t) (sym key) ∙ h, sym (same_Some w v e) ∙ same)
    go false h e = inl (loses t v e)
