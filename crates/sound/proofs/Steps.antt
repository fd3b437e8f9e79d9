-- The steps of a search keep what the state says of the clauses taken: going back, opening a level, deciding, propagating.
use Rattle.std.specs.Prelude.{◌≡◌, refl, Bool, true, false, List, [], ◌∷◌, ◌++◌, reverse, ℕ, ◌*◌, ◌<◌, get_or, drop}
use Rattle.std.proofs.Common.{ap, sym, ◌∙◌, subst, true≢false, arith}
use mathlib.Core.List.Memᴰ.{append_cases}
use mathlib.Core.List.Memᴰ.{head as here}
use mathlib.Core.List.Memᴰ.{not-nil}
use mathlib.Core.List.Memᴰ.{tail as there}
use Rattle.model.specs.Lit.{var, neg, no_reason}
use Rattle.model.specs.State.{VarState, State, decision_level, level_lit, reason_lit, with_ok, with_vars}
use Rattle.model.specs.Trail.{unchecked_enqueue, new_decision_level, cancel_until}
use Rattle.lawbase.specs.Basics.{◌∈◌, Every, every_nil, shrink, split, in_tail}
use Rattle.lawbase.specs.Sem.{Sat, Respects, Rup}
use Rattle.lawbase.specs.WellFormed.{Implies, Ground, fixed, decided, implied, Entries, Assignment}
use Rattle.assign.proofs.Lists.{get_or_in, index, from_reverse, in_reverse}
use Rattle.assign.proofs.Reading.{unset-fresh}
use Rattle.assign.proofs.Enqueue.{enqueue_level, enqueue_old, enqueue_cases, new_level}
use Rattle.assign.proofs.Back.{cancel_store, cancel_ok, cancel_levels, cancel_old, cancel_kept}
use Rattle.learning.specs.FirstUip.{Knows}
use Rattle.learning.proofs.Trail.{sorted}
use Rattle.watching.proofs.Permuted.{perm_sym, perm_in}
use Rattle.watching.specs.Forced.{Extended, Advance}
use Rattle.watching.proofs.Forced.{extended}
use Rattle.sound.proofs.Mono.{respects_same, sat_more}
use Rattle.sound.specs.Sound.{Agrees, Sound, SameBase}
use Rattle.sound.proofs.Sound.{sound_same}

-- ---- level 0 stays

pub cancel_base : {n : ℕ} {cs : List (List ℕ)} (phase : ℕ) (s : State) (level : ℕ) → Assignment n cs s.vars
    → SameBase s (cancel_until phase s level)
cancel_base phase s level w =
    record {
      ok = cancel_ok phase s level;
      clauses = ap (λ st. st.clauses) (cancel_store phase s level);
      back = λ p i z. ((cancel_old phase s level w p i).0, sym (same p) ∙ z);
      forth = λ p i z. (cancel_kept phase s level w p i (omega arith), same p ∙ z);
    }
  where
    same : (p : ℕ) → level_lit (cancel_until phase s level).vars p ≡ level_lit s.vars p
    same p = ap (λ ls. get_or ls (var p) 0) (cancel_levels phase s level)

-- a level opened
pub level_base : (s : State) → SameBase s (with_vars s (new_decision_level s.vars))
unfolding new_decision_level
level_base s = record { ok = refl; clauses = refl; back = λ p i z. (i, z); forth = λ p i z. (i, z) }

-- a literal set above level 0
pub enqueue_base : {n : ℕ} {cs : List (List ℕ)} (s : State) → Assignment n cs s.vars → (p from : ℕ) → p < 2 * n
    → get_or s.vars.values (var p) 0 ≡ 2 → 0 < decision_level s.vars → SameBase s (with_vars s (unchecked_enqueue s.vars p from))
enqueue_base s w p from h u z =
    record {
      ok = refl;
      clauses = refl;
      back = λ q i e. split (enqueue_cases s.vars p from q i) (λ j. (j, sym (old q j) ∙ e)) (λ (x : q ≡ p). absurd (new_not q x e));
      forth = λ q i e. (enqueue_old s.vars p from q i, old q i ∙ e);
    }
  where
    old : (q : ℕ) → q ∈ s.vars.trail → level_lit (unchecked_enqueue s.vars p from) q ≡ level_lit s.vars q
    old q i = enqueue_level s.vars p from (var q) (unset-fresh w p u q i)

    new_not : (q : ℕ) → q ≡ p → level_lit (unchecked_enqueue s.vars p from) q ≡ 0 → ⊥
    new_not q x e = omega (arith, z, sym (new_level w p from h) ∙ ap (λ y. level_lit (unchecked_enqueue s.vars p from) y) (sym x) ∙ e)

module _ {n : ℕ} {taken log : List (List ℕ)} {s : State} (k : Sound n taken log s) where
  pub cancel_sound : {cs : List (List ℕ)} (phase level : ℕ) → Assignment n cs s.vars → Sound n taken log (cancel_until phase s level)
  cancel_sound phase level w = sound_same (cancel_base phase s level w) k

  -- no model is left, whatever the assumptions
  pub bad_sound : Rup (log ++ taken) [] → Sound n taken log (with_ok s false)
  bad_sound r =
      record {
        known = λ S c. let x = k.known S c in record { stored = x.stored; fixed = x.fixed };
        logged = k.logged;
        covers = λ e. absurd (true≢false (sym e));
        range = k.range;
        bad = λ e. r;
      }

-- ---- propagation

-- S holds a literal that a clause implies, if it holds what the literal rests on
implied_holds : (S : ℕ → Bool) (cs : List (List ℕ)) → Every (Respects S) cs → (r p : ℕ) (before : List ℕ) → Implies cs r p before
    → Every (λ q. S q ≡ true) before → S p ≡ true
implied_holds S cs f r p before w h = go (get_or cs r []) (f (get_or cs r []) (get_or_in cs r [] w.stored)) w.first w.false_rest
  where
    go : (c : List ℕ) → Respects S c → get_or c 0 0 ≡ p → Every (λ q. neg q ∈ before) (drop 1 c) → S p ≡ true
    go [] x e g = absurd (x.clash (every_nil (λ m. S (neg m) ≡ true)))
    go (y ∷ c) x e g = rw (← e) (x.unit y (here refl) (λ m i ne. h (neg m) (g m (in_tail i ne))))

-- the literals of level 0, newest first: those without a reason are held, so all are
fixed-entries : (S : ℕ → Bool) (n : ℕ) (cs : List (List ℕ)) (vs : VarState) → Every (Respects S) cs → (l : List ℕ) → Entries n cs vs l
    → Every (λ p. level_lit vs p ≡ 0 → reason_lit vs p ≡ no_reason → S p ≡ true) l → Every (λ p. level_lit vs p ≡ 0 → S p ≡ true) l
fixed-entries S n cs vs f [] w g p i = absurd (not-nil i)
fixed-entries S n cs vs f (x ∷ l) w g p (there i) = fixed-entries S n cs vs f l w.1 (shrink g) p i
fixed-entries S n cs vs f (x ∷ l) w g p (here e) =
    rw e (λ z. one z w.0.grounds (fixed-entries S n cs vs f l w.1 (shrink g)))
  where
    one : level_lit vs x ≡ 0 → Ground cs vs x l → Every (λ q. level_lit vs q ≡ 0 → S q ≡ true) l → S x ≡ true
    one z (fixed a b) h = g x (here refl) z a
    one z (decided a b c) h = g x (here refl) z a
    one z (implied a b) h =
        implied_holds S cs f (reason_lit vs x) x l b (λ q j. h q j (omega (arith, sorted n cs vs x l w q j)))

module _ {n : ℕ} {s₀ s : State} (a : Advance n s₀ s) where
  ext : Extended s₀.vars s.vars
  ext = extended a.forced

  reordered_respects : (S : ℕ → Bool) → Every (Respects S) s₀.store.clauses → Every (Respects S) s.store.clauses
  reordered_respects S f C i =
      let k = index [] i in
      let p = a.reordered.each k.at in
      subst (Respects S) k.value
      (respects_same S (get_or s₀.store.clauses k.at []) (get_or s.store.clauses k.at []) (perm_in p) (perm_in (perm_sym p))
      (f (get_or s₀.store.clauses k.at []) (get_or_in s₀.store.clauses k.at [] (omega (arith, k.inside, a.reordered.count)))))

  reordered_sat : (ρ : ℕ → ℕ) → Every (Sat ρ) s.store.clauses → Every (Sat ρ) s₀.store.clauses
  reordered_sat ρ f C i =
      let k = index [] i in
      let p = a.reordered.each k.at in
      subst (Sat ρ) k.value
      (sat_more ρ (get_or s.store.clauses k.at []) (get_or s₀.store.clauses k.at []) (perm_in (perm_sym p))
      (f (get_or s.store.clauses k.at []) (get_or_in s.store.clauses k.at [] (omega (arith, k.inside, a.reordered.count)))))

  -- what has no reason was set before
  without_reason : (p : ℕ) → p ∈ s.vars.trail → reason_lit s.vars p ≡ no_reason → p ∈ s₀.vars.trail
  without_reason p i e =
      split (append_cases s₀.vars.trail (subst (λ t. p ∈ t) ext.trail i)) (λ j. j) (λ j. absurd (ext.reasons p j e))

  advance_knows : (S : ℕ → Bool) → Assignment n s.store.clauses s.vars → Knows S s₀.store s₀.vars → Knows S s.store s.vars
  advance_knows S w k =
      let r = reordered_respects S k.stored in
      record {
        stored = r;
        fixed = λ p i.
            fixed-entries S n s.store.clauses s.vars r (reverse s.vars.trail) w.entries
            (λ q j z e. let o = without_reason q (from_reverse s.vars.trail j) e in k.fixed q o (sym (ext.grown.level q o) ∙ z)) p (in_reverse i);
      }

  advance_agrees : (ρ : ℕ → ℕ) → Agrees ρ s.store s.vars → Agrees ρ s₀.store s₀.vars
  advance_agrees ρ x =
      record { stored = reordered_sat ρ x.stored; fixed = λ p i z. x.fixed p (ext.grown.on p i) (ext.grown.level p i ∙ z) }

  pub advance_sound : {taken log : List (List ℕ)} → Assignment n s.store.clauses s.vars → Sound n taken log s₀ → Sound n taken log s
  advance_sound w k =
      record {
        known = λ S c. advance_knows S w (k.known S c);
        logged = k.logged;
        covers = λ e ρ r x. k.covers (sym a.ok ∙ e) ρ r (advance_agrees ρ x);
        range = k.range;
        bad = λ e. k.bad (sym a.ok ∙ e);
      }
