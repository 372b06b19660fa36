-- One step of each loop over the runs that come in, and what the loops leave.
use Rattle.std.proofs.Common.{◌≡◌, ℕ, ◌<◌, ◌≤◌, suc, Bool, true, false, ◌&&◌, ◌||◌, leb, eqb, List, [], ◌∷◌, length, arith, refl, sym, ◌∙◌, ap, inl, inr, true≢false}
use Rattle.std.proofs.lemmas.Bool.{cases_lt}
use Rattle.std.proofs.lemmas.Bool.Decides.{nat_tests}
use Rattle.dot_context.specs.Runs.{holds, AreRuns, AreLong, AreApart, has_room, is_hollow, begins, Opens, Fills, Sweeps}
use Rattle.dot_context.proofs.StepFacts.{never}

pub either : (a b : Bool) {P : Type 0} → (a || b) ≡ true → (a ≡ true → P) → (b ≡ true → P) → P
either true b e f g = f refl
either false b e f g = g e

pub left_true : (a b : Bool) → a ≡ true → (a || b) ≡ true
left_true true b e = refl
left_true false b e = absurd (cc)

pub right_true : (a b : Bool) → b ≡ true → (a || b) ≡ true
right_true true b e = refl
right_true false b e = e

pub same_key : (f g : ℕ) → eqb f g ≡ true → f ≡ g
same_key f g e = grind (arith, nat_tests)

pub key_itself : (f : ℕ) → eqb f f ≡ true
key_itself f = grind (arith, nat_tests)

-- room
pub opens_none : (rs : List (ℕ × ℕ)) (asked : ℕ → Bool) → AreApart 0 rs → Opens rs rs asked
opens_none rs asked h = record { apart = h; same = λ n. refl; room = λ g there. there; hollow = λ g there. left_true (is_hollow rs g) (asked g) there }

pub opens_more : (old cur new : List (ℕ × ℕ)) (asked more : ℕ → Bool) → Opens old cur asked → Opens cur new more → ((g : ℕ) → more g ≡ true → asked g ≡ true) → Opens old new asked
opens_more old cur new asked more before step is = record {
  apart = step.apart;
  same = λ n. step.same n ∙ before.same n;
  room = λ g there. step.room g (before.room g there);
  hollow = λ g there. either (is_hollow cur g) (more g) (step.hollow g there) (λ e. before.hollow g e) (λ e. right_true (is_hollow old g) (asked g) (is g e));
}

pub room_done : (cur new others both rest : List (ℕ × ℕ)) (more asked : ℕ → Bool) → Opens cur new asked → ((g : ℕ) → more g ≡ true → has_room new g ≡ true) → ((g : ℕ) → begins both g ≡ (more g || begins rest g))
    → ((g : ℕ) → begins others g ≡ true → (has_room cur g || begins both g) ≡ true) → (g : ℕ) → begins others g ≡ true → (has_room new g || begins rest g) ≡ true
room_done cur new others both rest more asked step here parts before g there =
    either (has_room cur g) (begins both g) (before g there)
    (λ e. left_true (has_room new g) (begins rest g) (step.room g e))
    (λ e. either (more g) (begins rest g) (sym (parts g) ∙ e) (λ e'. left_true (has_room new g) (begins rest g) (here g e')) (λ e'. right_true (has_room new g) (begins rest g) e'))

pub all_room : (new others rest : List (ℕ × ℕ)) → rest ≡ [] → ((g : ℕ) → begins others g ≡ true → (has_room new g || begins rest g) ≡ true) → (g : ℕ) → begins others g ≡ true → has_room new g ≡ true
all_room new others rest done before g asked = either (has_room new g) (begins rest g) (before g asked) (λ e. e) (λ e. absurd (true≢false (sym e ∙ ap (λ s. begins s g) done)))

-- what is left to fill in
pub record Filling (old cur rest others : List (ℕ × ℕ)) : Type 0 where
  pub apart : AreApart 0 cur
  pub counts : (n : ℕ) → (holds cur n || holds rest n) ≡ (holds old n || holds others n)
  pub room : (g : ℕ) → has_room old g ≡ true → has_room cur g ≡ true
  pub todo : (g : ℕ) → begins rest g ≡ true → has_room cur g ≡ true
  pub hollow : (g : ℕ) → is_hollow cur g ≡ true → is_hollow old g ≡ true
  pub cleared : (g : ℕ) → begins others g ≡ true → is_hollow cur g ≡ true → begins rest g ≡ true
  pub proper : AreLong rest

pub all_proper : (low : ℕ) (rs : List (ℕ × ℕ)) → AreRuns low rs → AreLong rs
all_proper low [] h = tt
all_proper low (r ∷ rs) h = (h.1, all_proper (suc r.1) rs h.2)

pub fill_begins : (old others : List (ℕ × ℕ)) → AreApart 0 old → AreLong others → ((g : ℕ) → begins others g ≡ true → has_room old g ≡ true) → Filling old old others others
fill_begins old others h h' room = record { apart = h; counts = λ n. refl; room = λ g there. there; todo = room; hollow = λ g there. there; cleared = λ g asked there. asked; proper = h' }

pub fill_more : (old cur new both rest others : List (ℕ × ℕ)) (more filled : ℕ → Bool) → Filling old cur both others → Fills cur new more filled
    → ((n : ℕ) → holds both n ≡ (more n || holds rest n)) → ((g : ℕ) → begins both g ≡ (filled g || begins rest g)) → AreLong rest → Filling old new rest others
fill_more old cur new both rest others more filled before step parts parts' long = record {
  apart = step.apart;
  counts = λ n. ap (λ b. b || holds rest n) (step.counts n) ∙ groups (holds cur n) (more n) (holds rest n) ∙ ap (λ b. holds cur n || b) (sym (parts n)) ∙ before.counts n;
  room = λ g there. step.room g (before.room g there);
  todo = λ g there. step.room g (before.todo g (parts' g ∙ right_true (filled g) (begins rest g) there));
  hollow = λ g there. before.hollow g (step.hollow g there);
  cleared = λ g asked there. either (filled g) (begins rest g) (sym (parts' g) ∙ before.cleared g asked (step.hollow g there)) (λ e. absurd (true≢false (sym there ∙ step.cleared g e))) (λ e. e);
  proper = long;
}
  where
    groups : (a b c : Bool) → ((a || b) || c) ≡ (a || (b || c))
    groups true b c = refl
    groups false b c = refl

pub fill_done : (old new rest others : List (ℕ × ℕ)) → rest ≡ [] → Filling old new rest others → Fills old new (holds others) (begins others)
fill_done old new rest others done last = record {
  apart = last.apart;
  counts = λ n. or_nothing (holds new n) ∙ ap (λ s. holds new n || holds s n) (sym done) ∙ last.counts n;
  room = last.room;
  hollow = last.hollow;
  cleared = λ g asked. never (is_hollow new g) (λ there. true≢false (sym (last.cleared g asked there) ∙ ap (λ s. begins s g) done));
}
  where
    or_nothing : (b : Bool) → b ≡ (b || false)
    or_nothing true = refl
    or_nothing false = refl

-- what is left to sweep
pub record Sweeping (old cur rest others : List (ℕ × ℕ)) : Type 0 where
  pub apart : AreApart 0 cur
  pub same : (n : ℕ) → holds cur n ≡ holds old n
  pub hollow : (g : ℕ) → is_hollow cur g ≡ true → is_hollow old g ≡ true
  pub cleared : (g : ℕ) → begins others g ≡ true → is_hollow cur g ≡ true → begins rest g ≡ true

pub sweep_begins : (old others : List (ℕ × ℕ)) → AreApart 0 old → Sweeping old old others others
sweep_begins old others h = record { apart = h; same = λ n. refl; hollow = λ g there. there; cleared = λ g asked there. asked }

pub sweep_more : (old cur new both rest others : List (ℕ × ℕ)) (swept : ℕ → Bool) → Sweeping old cur both others → Sweeps cur new swept → ((g : ℕ) → begins both g ≡ (swept g || begins rest g)) → Sweeping old new rest others
sweep_more old cur new both rest others swept before step parts = record {
  apart = step.apart;
  same = λ n. step.same n ∙ before.same n;
  hollow = λ g there. before.hollow g (step.hollow g there);
  cleared = λ g asked there. either (swept g) (begins rest g) (sym (parts g) ∙ before.cleared g asked (step.hollow g there)) (λ e. absurd (true≢false (sym there ∙ step.cleared g e))) (λ e. e);
}

pub sweep_done : (old new rest others : List (ℕ × ℕ)) → rest ≡ [] → Sweeping old new rest others → Sweeps old new (begins others)
sweep_done old new rest others done last = record {
  apart = last.apart;
  same = last.same;
  hollow = last.hollow;
  cleared = λ g asked. never (is_hollow new g) (λ there. true≢false (sym (last.cleared g asked there) ∙ ap (λ s. begins s g) done));
}

-- room, and then the run
pub fills_after : (old mid new : List (ℕ × ℕ)) (f : ℕ) (more : ℕ → Bool) → Opens old mid (λ g. eqb f g) → Fills mid new more (λ g. eqb f g) → Fills old new more (λ g. eqb f g)
fills_after old mid new f more opens fills = record {
  apart = fills.apart;
  counts = λ n. fills.counts n ∙ ap (λ b. b || more n) (opens.same n);
  room = λ g there. fills.room g (opens.room g there);
  hollow = λ g there. either (is_hollow old g) (eqb f g) (opens.hollow g (fills.hollow g there)) (λ e. e) (λ e. absurd (true≢false (sym there ∙ fills.cleared g e)));
  cleared = fills.cleared;
}

-- runs that are apart and none of which is hollow are longest runs
pub strict : (low : ℕ) (rs : List (ℕ × ℕ)) → AreApart low rs → ((g : ℕ) → is_hollow rs g ≡ true → ⊥) → AreRuns low rs
strict low [] h none = tt
strict low (r ∷ rs) h none = (h.0, elim (cases_lt r.0 r.1) [ inl lt ↦ lt | inr le ↦ absurd (none r.0 (left_true (eqb r.0 r.0 && eqb r.1 r.0) (is_hollow rs r.0) (hollow r.0 r.1 h.1 le))) ], strict (suc r.1) rs h.2 (λ g there. none g (right_true (eqb r.0 g && eqb r.1 g) (is_hollow rs g) there)))
  where
    hollow : (a b : ℕ) → a ≤ b → b ≤ a → (eqb a a && eqb b a) ≡ true
    hollow a b le le' = grind (arith, nat_tests)

pub loose : (low : ℕ) (rs : List (ℕ × ℕ)) → AreRuns low rs → AreApart low rs
loose low [] h = tt
loose low (r ∷ rs) h = (h.0, omega (arith, h.1), loose (suc r.1) rs h.2)

pub none_hollow : (low : ℕ) (rs : List (ℕ × ℕ)) → AreRuns low rs → (g : ℕ) → is_hollow rs g ≡ true → ⊥
none_hollow low [] h g there = absurd (cc)
none_hollow low (r ∷ rs) h g there = either (eqb r.0 g && eqb r.1 g) (is_hollow rs g) there (λ e. long r.0 r.1 g h.1 e) (none_hollow (suc r.1) rs h.2 g)
  where
    long : (a b g : ℕ) → a < b → (eqb a g && eqb b g) ≡ true → ⊥
    long a b g lt e = grind (arith, nat_tests)

-- runs with room somewhere are some
pub some_room : (rs : List (ℕ × ℕ)) (g : ℕ) → has_room rs g ≡ true → 0 < length rs
some_room [] g there = absurd (cc)
some_room (r ∷ rs) g there = omega arith

pub room_kept : (old new : List (ℕ × ℕ)) → AreApart 0 old → ((g : ℕ) → has_room old g ≡ true → has_room new g ≡ true) → 0 < length old → 0 < length new
room_kept [] new h room some = absurd (omega arith)
room_kept (r ∷ rs) new h room some = some_room new r.0 (room r.0 (left_true (leb r.0 r.0 && leb r.0 r.1) (has_room rs r.0) (here r.0 r.1 h.1)))
  where
    here : (a b : ℕ) → a ≤ b → (leb a a && leb a b) ≡ true
    here a b le = grind (arith, nat_tests)

pub begins_first : (rs : List (ℕ × ℕ)) → ((g : ℕ) → begins rs g ≡ true → ⊥) → rs ≡ []
begins_first [] none = refl
begins_first (r ∷ rs) none = absurd (none r.0 (left_true (eqb r.0 r.0) (begins rs r.0) (key_itself r.0)))
