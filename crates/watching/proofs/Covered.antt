-- Two watched literals: where one of a clause's first two literals is false and its negation propagated, the clause has a true literal of no higher level.
use Rattle.std.specs.Prelude.{◌≡◌, ◌≢◌, ◌⊎◌, List, [], ◌∷◌, ◌++◌, ℕ, ◌≤◌, ◌<◌, length, get_or, set, drop, take}
use Rattle.std.proofs.Common.{ap, sym, subst, inl, inr, arith, length-set, length-append, take-append-drop, get_or-set_same, get_or-set_other}
use mathlib.Core.List.Memᴰ.{append_cases}
use Rattle.std.proofs.Math.ListN.{get_or-append}
use Rattle.std.proofs.Math.Seq.{get_or-append_seam}
use Rattle.model.specs.Lit.{neg}
use Rattle.model.specs.State.{VarState, level_lit}
use Rattle.lawbase.specs.Basics.{◌∈◌, Every, same?, less?, var-neg}
use Rattle.watching.specs.Covered.{Witness, Covered, Grown}

pub level_neg : (vs : VarState) (l : ℕ) → level_lit vs (neg l) ≡ level_lit vs l
level_neg vs l = ap (λ v. get_or vs.levels v 0) (var-neg l)

pub witness_in : {vs : VarState} {c d : List ℕ} {k : ℕ} → Every (λ x. x ∈ d) c → Witness vs c k → Witness vs d k
witness_in f w = record { literal = w.literal; member = f w.literal w.member; set = w.set; low = w.low }

-- the level is named by an equal literal
pub witness_of : {vs : VarState} {c : List ℕ} {x y : ℕ} → x ≡ y → Witness vs c (level_lit vs y) → Witness vs c (level_lit vs x)
witness_of {vs} {c} e k = subst (λ z. Witness vs c (level_lit vs z)) (sym e) k

pub covered_less : {cs : List (List ℕ)} {vs : VarState} {done done' : ℕ → ℕ → Type 0} → Covered cs vs done
    → ((r l : ℕ) → r < length cs → done' r l → done r l) → Covered cs vs done'
covered_less h f = record { cover = λ r hr w i d. h.cover r hr w i (f r (neg w) hr d) }

pub covered_grown : {cs : List (List ℕ)} {vs vs' : VarState} {done : ℕ → ℕ → Type 0} → Grown vs vs'
    → ((r l : ℕ) → r < length cs → done r l → l ∈ vs.trail) → Covered cs vs done → Covered cs vs' done
covered_grown {cs} {vs} {vs'} g on h =
    record {
      cover = λ r hr w i d.
          let x = h.cover r hr w i d in
          let e = g.level (neg w) (on r (neg w) hr d) in
          record {
            literal = x.literal;
            member = x.member;
            set = g.on x.literal x.set;
            low = omega (arith, x.low, g.level x.literal x.set, level_neg vs w, level_neg vs' w, e);
          };
    }

-- clause r is another one, for which the law is shown by itself
pub covered_set : {cs : List (List ℕ)} {vs : VarState} {done done' : ℕ → ℕ → Type 0} → Covered cs vs done → (r : ℕ) (d : List ℕ) → r < length cs
    → ((k l : ℕ) → k ≢ r → done' k l → done k l)
    → ((w : ℕ) → w ∈ take 2 d → done' r (neg w) → Witness vs d (level_lit vs w)) → Covered (set cs r d) vs done'
covered_set {cs} {vs} {done} {done'} h r d hr g f = record { cover = λ k hk w i e. at k (omega (arith, length-set cs r d, hk)) (same? k r) w i e }
  where
    at : (k : ℕ) → k < length cs → (k ≡ r) ⊎ (k ≢ r) → (w : ℕ) → w ∈ take 2 (get_or (set cs r d) k []) → done' k (neg w)
        → Witness vs (get_or (set cs r d) k []) (level_lit vs w)
    at k hk (inl e) =
        subst (λ j. (w : ℕ) → w ∈ take 2 (get_or (set cs r d) j []) → done' j (neg w) → Witness vs (get_or (set cs r d) j []) (level_lit vs w)) (sym e)
        (subst (λ c. (w : ℕ) → w ∈ take 2 c → done' r (neg w) → Witness vs c (level_lit vs w)) (sym (get_or-set_same cs r d [] hr)) f)
    at k hk (inr n) =
        subst (λ c. (w : ℕ) → w ∈ take 2 c → done' k (neg w) → Witness vs c (level_lit vs w)) (sym (get_or-set_other cs r k d [] n))
        (λ w i e. h.cover k hk w i (g k (neg w) n e))

-- the clauses behind those stored are shown by themselves
pub covered_more : {cs : List (List ℕ)} {vs : VarState} {done : ℕ → ℕ → Type 0} → Covered cs vs done → (c : List ℕ)
    → ((w : ℕ) → w ∈ take 2 c → done (length cs) (neg w) → Witness vs c (level_lit vs w)) → Covered (cs ++ (c ∷ [])) vs done
covered_more {cs} {vs} {done} h c f = record { cover = λ k hk. at k hk (less? k (length cs)) }
  where
    at : (k : ℕ) → k < length (cs ++ (c ∷ [])) → (k < length cs) ⊎ (length cs ≤ k) → (w : ℕ) → w ∈ take 2 (get_or (cs ++ (c ∷ [])) k []) → done k (neg w)
        → Witness vs (get_or (cs ++ (c ∷ [])) k []) (level_lit vs w)
    at k hk (inl l) =
        subst (λ d. (w : ℕ) → w ∈ take 2 d → done k (neg w) → Witness vs d (level_lit vs w)) (sym (get_or-append cs (c ∷ []) [] k l)) (h.cover k l)
    at k hk (inr l) =
        let e : k ≡ length cs = omega (arith, length-append cs (c ∷ [])) in
        subst (λ j. (w : ℕ) → w ∈ take 2 (get_or (cs ++ (c ∷ [])) j []) → done j (neg w) → Witness vs (get_or (cs ++ (c ∷ [])) j []) (level_lit vs w)) (sym e)
        (subst (λ d. (w : ℕ) → w ∈ take 2 d → done (length cs) (neg w) → Witness vs d (level_lit vs w)) (sym (get_or-append_seam cs c [] [])) f)

-- ---- the trail, cut at the queue's head

pub cut_cases : {x : ℕ} (q : ℕ) (l : List ℕ) → x ∈ l → (x ∈ take q l) ⊎ (x ∈ drop q l)
cut_cases {x} q l i = append_cases (take q l) (subst (λ m. x ∈ m) (sym (take-append-drop q l)) i)
