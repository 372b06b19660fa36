-- What a connection more at a topic changes, and one at many topics.
use Rattle.std.proofs.Common.{◌≡◌, inl, inr, ◌||◌, ℕ, List, [], ◌∷◌, Bool, true, false, cond, filter, Option, Some, None, IsSome, refl, sym, ap, ◌∙◌, subst}
use Rattle.std.specs.BTreeMap.{get, WritesThrough}
use Rattle.std.specs.BTreeSet.{BTreeSet, contains}
use Rattle.std.specs.Cmp.{eq_by_cmp_equiv, nat_cmp_total}
use Rattle.std.specs.Ordering.{nat_cmp}
use Rattle.presence_base.specs.Order.{text_cmp, same_text}
use Rattle.presence_journal.proofs.Same.{same_text-true, same_text-refl}
use Rattle.serve_ports.specs.declared.followers.Followers.{Followers}
use Rattle.serve_ports.specs.Following.{Tokens, holds, is_kept_at, is_follower, same_token, GainsToken, GainsFollower, IsOnly, KeepsFollowers, FollowsThese}

found : (m : Tokens) (t : List ℕ) (s : BTreeSet ℕ) → get text_cmp m t ≡ Some s → IsSome (get text_cmp m t)
found m t s e = rw e refl

-- a token more, where there are some
pub gained : (m n : Tokens) (t : List ℕ) (token : ℕ) (old new : BTreeSet ℕ) → get text_cmp m t ≡ Some old → WritesThrough text_cmp (text_cmp t) m new n
    → ((k : ℕ) → contains nat_cmp new k ≡ cond (same_token token k) true (contains nat_cmp old k)) → GainsToken m t token n
gained m n t token old new was through too u k = ap (λ o. holds o k) ((through.3 (found m t old was)).0 u) ∙ go (same_text t u) refl
  where
    go : (b : Bool) → same_text t u ≡ b → holds (cond b (Some new) (get text_cmp m u)) k ≡ cond b (cond (same_token token k) true (is_kept_at m u k)) (is_kept_at m u k)
    go true e = too k ∙ ap (λ o. cond (same_token token k) true (holds o k)) (sym was ∙ ap (get text_cmp m) (same_text-true t u e))
    go false e = refl

-- the first token at a topic
pub begun : (m mid n : Tokens) (t key : List ℕ) (token : ℕ) (only : BTreeSet ℕ) → mid ≡ m → key ≡ t → get text_cmp m t ≡ None
    → ((u : List ℕ) → get text_cmp n u ≡ cond (same_text key u) (Some only) (get text_cmp mid u)) → IsOnly token only → GainsToken m t token n
begun m mid n t key token only same is none put one u k =
    ap (λ o. holds o k) (put u ∙ (λ i. cond (same_text (is i) u) (Some only) (get text_cmp (same i) u))) ∙ go (same_text t u) refl
  where
    go : (b : Bool) → same_text t u ≡ b → holds (cond b (Some only) (get text_cmp m u)) k ≡ cond b (cond (same_token token k) true (is_kept_at m u k)) (is_kept_at m u k)
    go true e = one k ∙ ap (λ o. cond (same_token token k) true (holds o k)) (sym none ∙ ap (get text_cmp m) (same_text-true t u e))
    go false e = refl

or_true : (a : Bool) → (a || true) ≡ true
or_true true = refl
or_true false = refl

-- one more follows, and so do those before it
pub keeps : (f g : Followers) (topic : List ℕ) (token : ℕ) → GainsFollower f topic token g → KeepsFollowers f g
keeps f g topic token (inl each) t k h = ap (λ b. b || is_kept_at g.by_topic t k) each
keeps f g topic token (inr gains) t k h =
    ap (λ b. b || is_kept_at g.by_topic t k) gains.0
    ∙ (ap (λ b. f.has_all || b) (gains.1 t k) ∙ go f.has_all (same_text topic t) (same_token token k) (is_kept_at f.by_topic t k) h)
  where
    go : (a b c d : Bool) → (a || d) ≡ true → (a || cond b (cond c true d) d) ≡ true
    go true b c d h = refl
    go false true true d h = refl
    go false true false d h = h
    go false false c d h = h

follows : (f g : Followers) (topic : List ℕ) (token : ℕ) → GainsFollower f topic token g → is_follower g topic token ≡ true
follows f g topic token (inl each) = ap (λ b. b || is_kept_at g.by_topic topic token) each
follows f g topic token (inr gains) =
    let had = is_kept_at f.by_topic topic token in
    ap (λ b. g.has_all || b)
    (gains.1 topic token
    ∙ (ap (λ b. cond b (cond (same_token token token) true had) had) (same_text-refl topic)
    ∙ ap (λ b. cond b true had) ((eq_by_cmp_equiv nat_cmp_total).refl token)))
    ∙ or_true g.has_all

-- those before go on, and what is left to follow is all that lacks
abbrev pub Rest : Followers → List (List ℕ) → ℕ → Followers → List (List ℕ) → Type 0
Rest f all token g left = KeepsFollowers f g × ((h : Followers) → KeepsFollowers g h → FollowsThese h left token → FollowsThese h all token)

pub rest_next : (f g n : Followers) (all left later : List (List ℕ)) (k : List ℕ) (token : ℕ) → left ≡ k ∷ later → Rest f all token g left → GainsFollower g k token n
    → Rest f all token n later
rest_next f g n all left later k token is rest gains = (
  (λ t j h. keeps g n k token gains t j (rest.0 t j h)),
  λ h on those. rest.1 h (λ t j e. on t j (keeps g n k token gains t j e)) (subst (λ (l : List (List ℕ)). FollowsThese h l token) (sym is) (on k token (follows g n k token gains), those)),
)

pub rest_done : (f g : Followers) (all left : List (List ℕ)) (token : ℕ) → left ≡ [] → Rest f all token g left → FollowsThese g all token
rest_done f g all left token is rest = rest.1 g (λ t k h. h) (subst (λ (l : List (List ℕ)). FollowsThese g l token) (sym is) tt)

-- the first of these that pass
pub picked : (p : List ℕ → Bool) (left later : List (List ℕ)) (k : List ℕ) → left ≡ k ∷ later → p k ≡ true
    → filter p left ≡ k ∷ filter p later
picked p left later k is passes = ap (filter p) is ∙ ap (λ b. cond b (k ∷ filter p later) (filter p later)) passes

-- the first doesn't
pub passed : (p : List ℕ → Bool) (left later : List (List ℕ)) (k : List ℕ) → left ≡ k ∷ later → p k ≡ false
    → filter p left ≡ filter p later
passed p left later k is fails = ap (filter p) is ∙ ap (λ b. cond b (k ∷ filter p later) (filter p later)) fails
