-- `blame`, back along the trail: with all of its clause false in S, S is contradictory.
use Rattle.std.specs.Prelude.{◌≡◌, refl, ◌≢◌, Bool, true, false, ℕ, ◌<◌, length, set}
use Rattle.std.proofs.Common.{sym, ◌∙◌, true≢false, arith, length-set, eq-eqb, ne_eqb}
use Rattle.std.proofs.lemmas.Bool.{false≢true}
use mathlib.Core.List.Memᴰ.{append_cases}
use mathlib.Core.List.Memᴰ.{append_left as in_left}
use mathlib.Core.List.Memᴰ.{append_right as in_right}
use mathlib.Core.List.Memᴰ.{head as here}
use mathlib.Core.List.Memᴰ.{not-nil}
use mathlib.Core.List.Memᴰ.{tail as there}
use mathlib.Core.List.{List, [], ◌∷◌, ◌++◌}
use Rattle.model.specs.Lit.{var, neg, no_reason}
use Rattle.model.specs.State.{Store, VarState, level_lit, reason_lit, reason_rest}
use Rattle.model.specs.Minimise.{is_seen}
use Rattle.model.specs.Final.{mem, insert, mark, blame}
use Rattle.lawbase.specs.Basics.{◌∈◌, Every, every_nil, every_cons, shrink, split, same?, on?, neg-neg, var-neg, var_range}
use Rattle.lawbase.specs.WellFormed.{Implies, Entries}
use Rattle.learning.proofs.Trail.{in_range, caused}
use Rattle.learning.specs.Marks.{seen_at}
use Rattle.learning.proofs.Marks.{mark_same, mark_keep, mark_other}
use Rattle.learning.specs.FirstUip.{Knows, Refutes}
use Rattle.learning.proofs.FirstUip.{fixed_or, follows}

-- ---- the set of literals

mem_in : (x : ℕ) (l : List ℕ) → mem x l ≡ true → x ∈ l
unfolding mem
mem_in x [] h = absurd (false≢true h)
mem_in x (y ∷ l) h = split (same? x y) here (λ ne. there (mem_in x l (rw (ne_eqb x y ne, mem) at h)))

insert_cases : (P : List ℕ → Type 0) (out : List ℕ) (l : ℕ) → (l ∈ out → P out) → (mem l out ≡ false → P (out ++ (l ∷ []))) → P (insert out l)
unfolding insert
insert_cases P out l f g = split (on? (mem l out)) (λ e. rw (e, insert) (f (mem_in l out e))) (λ e. rw (e, insert) (g e))

-- a new literal is never refused
pub insert_new : (out : List ℕ) (l : ℕ) → (l ∈ out → ⊥) → insert out l ≡ out ++ (l ∷ [])
insert_new out l h = insert_cases (λ k. k ≡ out ++ (l ∷ [])) out l (λ i. absurd (h i)) (λ e. refl)

insert_all : (out : List ℕ) (l : ℕ) → Every (λ q. q ∈ insert out l) (l ∷ out)
insert_all out l =
    insert_cases (λ k. Every (λ q. q ∈ k) (l ∷ out)) out l
    (λ i. every_cons (λ q. q ∈ out) i (λ q j. j))
    (λ e. every_cons (λ q. q ∈ (out ++ (l ∷ []))) (in_right out (here refl)) (λ q j. in_left (l ∷ []) j))

-- ---- marks

mark_cases : (P : List ℕ → Type 0) (vs : VarState) (l : ℕ) (ls m : List ℕ) → (level_lit vs l ≡ 0 → P (mark vs ls m))
    → (0 < level_lit vs l → P (mark vs ls (set m (var l) 1)))
    → P (mark vs (l ∷ ls) m)
unfolding mark
mark_cases P vs l ls m f g = split (same? (level_lit vs l) 0)
    (λ e. rw (eq-eqb (level_lit vs l) 0 e, mark) (f e))
    (λ ne. rw (ne_eqb (level_lit vs l) 0 ne, mark) (g (omega arith)))

mark-length : (vs : VarState) (ls m : List ℕ) → length (mark vs ls m) ≡ length m
unfolding mark
mark-length vs [] m = refl
mark-length vs (l ∷ ls) m =
    mark_cases (λ k. length k ≡ length m) vs l ls m (λ e. mark-length vs ls m) (λ z. mark-length vs ls (set m (var l) 1) ∙ length-set m (var l) 1)

mark_keeps : (vs : VarState) (ls m : List ℕ) (v : ℕ) → seen_at m v ≡ true → seen_at (mark vs ls m) v ≡ true
unfolding mark
mark_keeps vs [] m v h = h
mark_keeps vs (l ∷ ls) m v h =
    mark_cases (λ k. seen_at k v ≡ true) vs l ls m (λ e. mark_keeps vs ls m v h) (λ z. mark_keeps vs ls (set m (var l) 1) v (mark_keep m (var l) v h))

mark_covers : (vs : VarState) (ls m : List ℕ) → Every (λ l. var l < length m) ls → Every (λ l. 0 < level_lit vs l → is_seen (mark vs ls m) l ≡ true) ls
unfolding mark
mark_covers vs [] m r = every_nil (λ l. 0 < level_lit vs l → is_seen m l ≡ true)
mark_covers vs (l ∷ ls) m r =
    mark_cases (λ k. Every (λ x. 0 < level_lit vs x → is_seen k x ≡ true) (l ∷ ls)) vs l ls m
    (λ e. every_cons (λ x. 0 < level_lit vs x → is_seen (mark vs ls m) x ≡ true) (λ z. absurd (omega arith)) (mark_covers vs ls m (shrink r)))
    (λ z. every_cons (λ x. 0 < level_lit vs x → is_seen (mark vs ls (set m (var l) 1)) x ≡ true)
    (λ _. mark_keeps vs ls (set m (var l) 1) (var l) (mark_same m (var l) (r l (here refl))))
    (mark_covers vs ls (set m (var l) 1) (λ x i. rw (length-set m (var l) 1) (r x (there i)))))

-- ---- the branches, once

pub blame_cases : (P : List ℕ → Type 0) (st : Store) (vs : VarState) (l : ℕ) (ls m out : List ℕ)
    → (is_seen m l ≡ false → P (blame st vs ls m out))
    → (is_seen m l ≡ true → reason_lit vs l ≡ no_reason → P (blame st vs ls (set m (var l) 0) (insert out (neg l))))
    → (is_seen m l ≡ true → reason_lit vs l ≢ no_reason → P (blame st vs ls (set (mark vs (reason_rest st vs l) m) (var l) 0) out))
    → P (blame st vs (l ∷ ls) m out)
unfolding blame
blame_cases P st vs l ls m out f g h = split (on? (is_seen m l))
    (λ s. split (same? (reason_lit vs l) no_reason)
    (λ e. rw (s, eq-eqb (reason_lit vs l) no_reason e, blame) (g s e))
    (λ ne. rw (s, ne_eqb (reason_lit vs l) no_reason ne, blame) (h s ne)))
    (λ s. rw (s, blame) (f s))

-- ---- soundness: z is the trail's part at level 0

module _ (S : ℕ → Bool) (n : ℕ) (st : Store) (vs : VarState) (k : Knows S st vs) (z : List ℕ) (zero_level : Every (λ q. level_lit vs q ≡ 0) z) where
  abbrev pub Front : List ℕ → List ℕ → Type 0
  Front u m = Every (λ x. is_seen m x ≡ true → S x ≡ true) u

  -- with all of `out` false in S and all marked literals in S, S is contradictory
  abbrev pub Against : List ℕ → List ℕ → List ℕ → Type 0
  Against u m out = Refutes S out → Front u m → ⊥

  module _ (l : ℕ) (u : List ℕ) (w : Entries n st.clauses vs (l ∷ u ++ z)) (on : Every (λ q. q ∈ vs.trail) (l ∷ u ++ z)) where
    -- what is marked on the rest is marked after l is cleared
    cleared : (a b : List ℕ) → ((v : ℕ) → seen_at a v ≡ true → seen_at b v ≡ true) → Front u (set b (var l) 0) → Front u a
    cleared a b g f x i h =
        f x i (mark_other b (var l) 0 (var x) (w.0.fresh x (in_left z i)) ∙ g (var x) h)

    implied_by : (m : List ℕ) → length m ≡ n → Implies st.clauses (reason_lit vs l) l (u ++ z)
        → Front u (set (mark vs (reason_rest st vs l) m) (var l) 0) → S l ≡ true
    implied_by m s i f =
        follows S st vs k l (u ++ z) i (λ q j.
        let r = i.false_rest q j in
        fixed_or S st vs k q (on (neg q) (there r)) (λ a. split (append_cases u r)
        (λ b.
        let e : var q ≢ var l = λ c. w.0.fresh (neg q) r (var-neg q ∙ c) in
        f (neg q) b (rw var-neg (mark_other marked (var l) 0 (var q) e ∙ mark_covers vs (reason_rest st vs l) m room q j a)))
        (λ b.
        let e : level_lit vs q ≡ 0 = rw var-neg at (zero_level (neg q) b) in
        absurd (omega arith))))
      where
        marked : List ℕ
        marked = mark vs (reason_rest st vs l) m

        room : Every (λ x. var x < length m) (reason_rest st vs l)
        room x j = rw (s, ← var-neg x) (var_range (neg x) n (in_range n st.clauses vs (u ++ z) w.1 (neg x) (i.false_rest x j)))

    blame_turn : ((m out : List ℕ) → length m ≡ n → Against u m out → Refutes S (blame st vs u m out) → ⊥) → (m out : List ℕ) → length m ≡ n
        → Against (l ∷ u) m out
        → Refutes S (blame st vs (l ∷ u) m out) → ⊥
    blame_turn rec m out s h =
        blame_cases (λ o. Refutes S o → ⊥) st vs l u m out
        (λ e. rec m out s (λ a f. h a (every_cons M (λ g. absurd (true≢false (sym g ∙ e))) f)))
        (λ g e. rec (set m (var l) 0) (insert out (neg l)) (length-set m (var l) 0 ∙ s)
        (λ a f. h (λ q i. a q (insert_all out (neg l) q (there i)))
        (every_cons M (λ _. rw neg-neg at (a (neg l) (insert_all out (neg l) (neg l) (here refl)))) (cleared m m (λ v c. c) f))))
        (λ g c. rec (set marked (var l) 0) out (length-set marked (var l) 0 ∙ mark-length vs (reason_rest st vs l) m ∙ s)
        (λ a f. h a (every_cons M (λ _. implied_by m s (caused w.0.grounds c) f) (cleared m marked (mark_keeps vs (reason_rest st vs l) m) f))))
      where
        M : ℕ → Type 0
        M x = is_seen m x ≡ true → S x ≡ true

        marked : List ℕ
        marked = mark vs (reason_rest st vs l) m

  pub blame_sound : (u : List ℕ) → Entries n st.clauses vs (u ++ z) → Every (λ q. q ∈ vs.trail) (u ++ z) → (m out : List ℕ) → length m ≡ n
      → Against u m out
      → Refutes S (blame st vs u m out) → ⊥
  unfolding blame
  blame_sound [] w on m out s h a = h a (λ x i. absurd (not-nil i))
  blame_sound (l ∷ u) w on m out s h a = blame_turn l u w on (blame_sound u w.1 (shrink on)) m out s h a
