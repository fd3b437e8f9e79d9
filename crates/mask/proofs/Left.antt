-- Of a clause exactly the literals are left that cannot be traced, in their order, whatever the mask, if it lets pass what can be traced.
use Rattle.std.specs.Prelude.{◌≡◌, refl, ◌≢◌, ◌⊎◌, ◌↔◌, ℕ, suc, ◌<◌, length}
use Rattle.std.proofs.Common.{ap, ◌∙◌, subst, inl, inr, arith, eq-eqb, ne_eqb}
use Rattle.std.proofs.Math.Path.{sym}
use Rattle.std.specs.Prelude.{Option, None as none, Some as some}
use mathlib.Core.List.Memᴰ.{head as here}
use mathlib.Core.List.Memᴰ.{not-nil}
use mathlib.Core.List.Memᴰ.{tail as there}
use mathlib.Core.List.{List, [], ◌∷◌, ◌++◌, append_assoc, append-nil}
use Rattle.model.specs.Lit.{var, neg, no_reason}
use Rattle.model.specs.State.{Store, VarState, level_lit, reason_lit}
use Rattle.model.specs.Minimise.{lit_redundant, drop_redundant}
use Rattle.lawbase.specs.Basics.{◌∈◌, Every, shrink, split, same?}
use Rattle.lawbase.specs.WellFormed.{Entries}
use Rattle.learning.proofs.Trace.{Good, found}
use Rattle.mask.specs.Traceable.{Traceable}
use Rattle.mask.proofs.Back.{traceable_rests, Lets, Marked, done_traceable, redundant}
use Rattle.mask.specs.Left.{Left, end, stays, goes}

pub left_same : {st : Store} {vs : VarState} {clause ls J K : List ℕ} → Left st vs clause ls J → Left st vs clause ls K → J ≡ K
left_same end end = refl
left_same (stays {l = l} n a) (stays m b) = ap (λ (x : List ℕ). l ∷ x) (left_same a b)
left_same (stays n a) (goes h b) = absurd (n h)
left_same (goes h a) (stays n b) = absurd (n h)
left_same (goes h a) (goes k b) = left_same a b

pub left_exactly : {st : Store} {vs : VarState} {clause ls K : List ℕ} → Left st vs clause ls K → (q : ℕ)
    → (q ∈ K) ↔ ((q ∈ ls) × (Traceable st vs clause q → ⊥))
left_exactly {st} {vs} {clause} a q = (only a, all a)
  where
    only : {ls K : List ℕ} → Left st vs clause ls K → q ∈ K → (q ∈ ls) × (Traceable st vs clause q → ⊥)
    only end i = absurd (not-nil i)
    only (stays n a) (here e) = (here e, subst (λ (x : ℕ). Traceable st vs clause x → ⊥) (sym e) n)
    only (stays n a) (there i) = let x = only a i in (there x.0, x.1)
    only (goes h a) i = let x = only a i in (there x.0, x.1)

    all : {ls K : List ℕ} → Left st vs clause ls K → (q ∈ ls) × (Traceable st vs clause q → ⊥) → q ∈ K
    all end x = absurd (not-nil x.0)
    all (stays n a) (here e, m) = here e
    all (stays n a) (there i, m) = there (all a (i, m))
    all (goes h a) (here e, m) = absurd (m (subst (λ (x : ℕ). Traceable st vs clause x) (sym e) h))
    all (goes h a) (there i, m) = all a (i, m)

-- ---- the branches of `drop_redundant`, with what is known in each

module _ (st : Store) (vs : VarState) (mask l : ℕ) (m : List ℕ) where
  -- l stays: a decision, or its trace is broken off
  abbrev Kept : Type 0
  Kept = (reason_lit vs l ≡ no_reason) ⊎ (lit_redundant st vs mask (suc (length m)) (record { stack = l ∷ []; seen = m }) ≡ none)

  each : (P : List ℕ → Type 0) (kept ls : List ℕ) → (Kept → P (drop_redundant st vs mask (kept ++ (l ∷ [])) ls m))
      → ((k : List ℕ) → reason_lit vs l ≢ no_reason → lit_redundant st vs mask (suc (length m)) (record { stack = l ∷ []; seen = m }) ≡ some k
      → P (drop_redundant st vs mask kept ls k))
      → P (drop_redundant st vs mask kept (l ∷ ls) m)
  unfolding drop_redundant
  each P kept ls f g = split (same? (reason_lit vs l) no_reason)
      (λ e. rw (eq-eqb (reason_lit vs l) no_reason e, drop_redundant) (f (inl e)))
      (λ ne. rw (ne_eqb (reason_lit vs l) no_reason ne, drop_redundant)
      (go ne (lit_redundant st vs mask (suc (length m)) (record { stack = l ∷ []; seen = m })) refl))
    where
      go : reason_lit vs l ≢ no_reason → (o : Option (List ℕ)) → lit_redundant st vs mask (suc (length m)) (record { stack = l ∷ []; seen = m }) ≡ o
          → P (elim o [ none ↦ drop_redundant st vs mask (kept ++ (l ∷ [])) ls m | some k ↦ drop_redundant st vs mask kept ls k ])
      go ne none e = f (inr e)
      go ne (some k) e = g k ne e

none_some : {A : Type 0} {o : Option A} {a : A} → o ≡ none → o ≡ some a → ⊥
none_some {A} {o} {a} e f = go (sym e ∙ f)
  where
    go : ◌≡◌ {A = Option A} none (some a) → ⊥
    go p = let q : ◌≡◌ {A = ℕ} 0 1 = cc in omega (arith, q)

-- ---- what is left

module _ (n : ℕ) (st : Store) (vs : VarState) (t : List ℕ) (w : Entries n st.clauses vs t) (clause : List ℕ) (mask : ℕ)
    (lets : Lets n st vs t w clause mask) where
  -- literals of the clause, false and above level 0
  abbrev pub Part : List ℕ → Type 0
  Part ls = Every (λ q. (q ∈ clause) × (neg q ∈ t) × (0 < level_lit vs q)) ls

  -- what is left of ls behind `kept`
  abbrev pub Leaves : List ℕ → List ℕ → List ℕ → Type 0
  Leaves kept ls R = (K : List ℕ) × (R ≡ kept ++ K) × Left st vs clause ls K

  pub drop_left : (ls : List ℕ) → Part ls → (m : List ℕ) → length m ≡ n → Good n st vs t w clause [] m → Marked n st vs t w clause mask lets m → (kept : List ℕ)
      → Leaves kept ls (drop_redundant st vs mask kept ls m)
  unfolding drop_redundant
  drop_left [] p m s g b kept = ([], sym (append-nil kept), end)
  drop_left (l ∷ ls) p m s g b kept =
      let x = p l (here refl) in
      each st vs mask l m (Leaves kept (l ∷ ls)) kept ls
      (λ h.
      let r = drop_left ls (shrink p) m s g b (kept ++ (l ∷ [])) in (
        l ∷ r.0,
        r.1 ∙ append_assoc kept (l ∷ []) r.0,
        stays (λ y.
            let c = (traceable_rests x.2 y).caused in
            split h c
            (λ e. none_some e (redundant n st vs t w clause mask lets l m s (record { falsified = x.1; above = x.2; caused = c }) b x.0 y).1)) r.2,
      ))
      (λ k c e.
      let f = found n st vs t w clause mask (suc (length m)) l m k s (record { falsified = x.1; above = x.2; caused = c }) g e in
      let r = drop_left ls (shrink p) k f.sized f.good (λ y j. f.grows (var y) (b y j)) kept in
      (r.0, r.1, goes (done_traceable n st vs t w clause k f.good l x.1 f.done) r.2))
