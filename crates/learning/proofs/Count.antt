-- How many seen literals of the conflict's level a part of the trail has: what `path` counts.
use Rattle.std.specs.Prelude.{◌≡◌, refl, ◌≢◌, true, false, ◌&&◌, List, [], ◌∷◌, ℕ, suc, ◌<◌, eqb, length, set, replicate}
use Rattle.std.proofs.Common.{ap, sym, ◌∙◌, arith, eq-eqb, ne_eqb}
use Rattle.std.proofs.Math.Bool.{and-false}
use mathlib.Core.List.Memᴰ.{head as here}
use mathlib.Core.List.Memᴰ.{not-nil}
use mathlib.Core.List.Memᴰ.{tail as there}
use Rattle.model.specs.Lit.{var}
use Rattle.model.specs.State.{VarState, decision_level, level_lit}
use Rattle.model.specs.Minimise.{is_seen}
use Rattle.lawbase.specs.Basics.{◌∈◌, Every, shrink, split, same?, on?, var_range}
use Rattle.lawbase.specs.WellFormed.{Entries, bit}
use Rattle.learning.proofs.Marks.{mark_same, mark_other, none_seen}
use Rattle.learning.specs.Count.{hit, tops, Counted}

pub hit_true : (vs : VarState) (m : List ℕ) (p : ℕ) → is_seen m p ≡ true → level_lit vs p ≡ decision_level vs → bit (hit vs m p) ≡ 1
unfolding hit
hit_true vs m p h l = rw (h, eq-eqb (level_lit vs p) (decision_level vs) l)

pub hit-unseen : (vs : VarState) (m : List ℕ) (p : ℕ) → is_seen m p ≡ false → bit (hit vs m p) ≡ 0
unfolding hit
hit-unseen vs m p h = rw h

hit_level : (vs : VarState) (m : List ℕ) (p : ℕ) → level_lit vs p ≢ decision_level vs → hit vs m p ≡ false
unfolding hit
hit_level vs m p ne = rw (ne_eqb (level_lit vs p) (decision_level vs) ne) (and-false (is_seen m p))

hit_other : (vs : VarState) (m : List ℕ) (p v x : ℕ) → var p ≢ v → hit vs (set m v x) p ≡ hit vs m p
unfolding hit
hit_other vs m p v x ne = ap (λ b. b && eqb (level_lit vs p) (decision_level vs)) (mark_other m v x (var p) ne)

tops_same : (vs : VarState) (m k : List ℕ) (t : List ℕ) → Every (λ p. hit vs m p ≡ hit vs k p) t → tops vs m t ≡ tops vs k t
unfolding tops
tops_same vs m k [] h = refl
tops_same vs m k (p ∷ t) h =
    let a : bit (hit vs m p) ≡ bit (hit vs k p) = ap bit (h p (here refl)) in
    omega (arith, tops_same vs m k t (shrink h))

-- a cell of a variable that is not there
pub tops_absent : (vs : VarState) (m : List ℕ) (v x : ℕ) (t : List ℕ) → Every (λ p. var p ≢ v) t → tops vs (set m v x) t ≡ tops vs m t
tops_absent vs m v x t h = tops_same vs (set m v x) m t (λ p i. hit_other vs m p v x (h p i))

-- a cell of a variable of another level
pub tops_other : (vs : VarState) (m : List ℕ) (q x : ℕ) (t : List ℕ) → level_lit vs q ≢ decision_level vs → tops vs (set m (var q) x) t ≡ tops vs m t
tops_other vs m q x t ne = tops_same vs (set m (var q) x) m t (λ p i. split (same? (var p) (var q))
    (λ e.
    let k : level_lit vs p ≢ decision_level vs = rw e ne in
    hit_level vs (set m (var q) x) p k ∙ sym (hit_level vs m p k))
    (λ k. hit_other vs m p (var q) x k))

pub tops-zero : (vs : VarState) (m : List ℕ) (t : List ℕ) → tops vs m t ≡ 0 → Every (λ p. is_seen m p ≡ true → level_lit vs p ≢ decision_level vs) t
unfolding tops
tops-zero vs m [] z p i h l = not-nil i
tops-zero vs m (x ∷ t) z p (here e) h l = omega (arith, rw e at (hit_true vs m p h l))
tops-zero vs m (x ∷ t) z p (there i) h l = tops-zero vs m t (omega arith) p i h l

pub tops_below : (vs : VarState) (m : List ℕ) (t : List ℕ) → Every (λ p. level_lit vs p < decision_level vs) t → tops vs m t ≡ 0
unfolding tops
tops_below vs m [] h = refl
tops_below vs m (p ∷ t) h =
    let a : level_lit vs p < decision_level vs = h p (here refl) in
    let b : bit (hit vs m p) ≡ 0 = ap bit (hit_level vs m p (omega arith)) in
    omega (arith, tops_below vs m t (shrink h))

pub tops_none : (vs : VarState) (n : ℕ) (t : List ℕ) → tops vs (replicate n 0) t ≡ 0
unfolding tops
tops_none vs n [] = refl
tops_none vs n (p ∷ t) = omega (arith, hit-unseen vs (replicate n 0) p (none_seen n (var p)), tops_none vs n t)

found_later : (vs : VarState) (m : List ℕ) (x : ℕ) (t : List ℕ) → Counted vs m t → Counted vs m (x ∷ t)
found_later vs m x t r = (r.0, there r.1, r.2, r.3)

pub tops_find : (vs : VarState) (m : List ℕ) (t : List ℕ) → 0 < tops vs m t → Counted vs m t
unfolding tops
tops_find vs m [] h = absurd (omega arith)
tops_find vs m (x ∷ t) h = split (on? (is_seen m x))
    (λ e. split (same? (level_lit vs x) (decision_level vs))
    (λ l. (x, here refl, e, l))
    (λ l.
    let z : bit (hit vs m x) ≡ 0 = ap bit (hit_level vs m x l) in
    found_later vs m x t (tops_find vs m t (omega arith))))
    (λ e. found_later vs m x t (tops_find vs m t (omega (arith, hit-unseen vs m x e))))

-- one more is seen
pub tops_new : (n : ℕ) (cs : List (List ℕ)) (vs : VarState) (m : List ℕ) → length m ≡ n → (t : List ℕ) → Entries n cs vs t → (x : ℕ) → x ∈ t
    → is_seen m x ≡ false → level_lit vs x ≡ decision_level vs → tops vs (set m (var x) 1) t ≡ suc (tops vs m t)
unfolding tops
tops_new n cs vs m s [] w x i f l = absurd (not-nil i)
tops_new n cs vs m s (p ∷ t) w x (here e) f l =
    let a = tops_absent vs m (var x) 1 t (λ q j. rw e (w.0.fresh q j)) in
    let v : var x < length m = rw (e, s) (var_range p n w.0.range) in
    let b : bit (hit vs (set m (var x) 1) p) ≡ 1 = rw (← e) (hit_true vs (set m (var x) 1) x (mark_same m (var x) v) l) in
    let c : bit (hit vs m p) ≡ 0 = rw (← e) (hit-unseen vs m x f) in
    omega arith
tops_new n cs vs m s (p ∷ t) w x (there i) f l =
    let a : bit (hit vs (set m (var x) 1) p) ≡ bit (hit vs m p) = ap bit (hit_other vs m p (var x) 1 (λ e. w.0.fresh x i (sym e))) in
    omega (arith, tops_new n cs vs m s t w.1 x i f l)
