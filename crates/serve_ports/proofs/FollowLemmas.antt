-- What a topic that is put changes, and many.
use Rattle.std.proofs.Common.{◌≡◌, ◌⊎◌, inl, inr, ◌||◌, ℕ, List, [], ◌∷◌, Bool, true, false, cond, refl, sym, ap, ◌∙◌, subst}
use Rattle.std.specs.BTreeSet.{BTreeSet, contains}
use Rattle.presence_base.specs.Order.{text_cmp, same_text}
use Rattle.std.specs.Cmp.{eq_by_cmp_equiv}
use Rattle.presence_journal.proofs.Same.{same_text-true, text_total}
use Rattle.serve_ports.specs.declared.followed.Followed.{Followed}
use Rattle.serve_ports.specs.Following.{is_followed, is_one_of, FollowsEach, FollowsToo, FollowsAll, FollowsBoth}

-- a topic that is there is there again
pub there_already : (b : Bool) (s : BTreeSet (List ℕ)) (topic t : List ℕ) → contains text_cmp s topic ≡ true → (b || contains text_cmp s t) ≡ cond (same_text topic t) true (b || contains text_cmp s t)
there_already b s topic t there = go (same_text topic t) refl
  where
    or_true : (x : Bool) → (x || true) ≡ true
    or_true true = refl
    or_true false = refl

    go : (p : Bool) → same_text topic t ≡ p → (b || contains text_cmp s t) ≡ cond p true (b || contains text_cmp s t)
    go true p = ap (λ x. b || x) (subst (λ x. contains text_cmp s x ≡ true) (same_text-true topic t p) there) ∙ or_true b
    go false p = refl

-- what is left to follow, and what is followed, are all that is to be followed
abbrev pub Rest : Followed → List (List ℕ) → Followed → List (List ℕ) → Type 0
Rest f all g left = FollowsEach g ⊎ ((t : List ℕ) → (is_one_of left t || is_followed g t) ≡ (is_one_of all t || is_followed f t))

flip : (k t : List ℕ) → same_text k t ≡ same_text t k
flip k t = (eq_by_cmp_equiv text_total).symm k t

pub rest_next : (f g n : Followed) (all left later : List (List ℕ)) (k : List ℕ) → left ≡ k ∷ later → Rest f all g left → FollowsToo g k n → Rest f all n later
rest_next f g n all left later k is rest (inl each) = inl each
rest_next f g n all left later k is (inl each) (inr too) = inl (λ t. too t ∙ (ap (λ b. cond (same_text k t) true b) (each t) ∙ go (same_text k t)))
  where
    go : (s : Bool) → cond s true true ≡ true
    go true = refl
    go false = refl
rest_next f g n all left later k is (inr rest) (inr too) = inr (λ t. ap (λ b. is_one_of later t || b) (too t ∙ ap (λ s. cond s true (is_followed g t)) (flip k t)) ∙ (go (same_text t k) (is_one_of later t) (is_followed g t) ∙ (ap (λ ks. is_one_of ks t || is_followed g t) (sym is) ∙ rest t)))
  where
    go : (s r b : Bool) → (r || cond s true b) ≡ ((s || r) || b)
    go true true b = refl
    go true false b = refl
    go false r b = refl

pub rest_done : (f g : Followed) (all left : List (List ℕ)) → left ≡ [] → Rest f all g left → FollowsAll f all g
rest_done f g all left is (inl each) = inl each
rest_done f g all left is (inr rest) = inr (λ t. ap (λ ks. is_one_of ks t || is_followed g t) (sym is) ∙ rest t)

-- those of others were followed, over those of either that followed each
pub both_of : (f others g : Followed) → FollowsAll (record { topics = f.topics; has_all = f.has_all || others.has_all }) others.topics.keys g → FollowsBoth f others g
both_of f others g (inl each) = inl each
both_of f others g (inr all) = inr (λ t. all t ∙ go f.has_all others.has_all (contains text_cmp f.topics t) (is_one_of others.topics.keys t))
  where
    go : (a b c d : Bool) → (d || ((a || b) || c)) ≡ ((a || c) || (b || d))
    go true b c true = refl
    go true b c false = refl
    go false true true true = refl
    go false true true false = refl
    go false true false true = refl
    go false true false false = refl
    go false false true true = refl
    go false false true false = refl
    go false false false true = refl
    go false false false false = refl
