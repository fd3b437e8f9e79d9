-- The store: counts of watches, room, and storing a clause.
use Rattle.std.specs.Prelude.{◌≡◌, refl, ◌≢◌, Bool, true, false, ◌&&◌, ℕ, suc, zero, ◌+◌, ◌<◌, eqb, ltb, leb, get_or, set}
use Rattle.std.proofs.Common.{ap, sym, ◌∙◌, subst, not-suc-le-zero, arith}
use mathlib.Core.List.Memᴰ.{head as here}
use mathlib.Core.List.Memᴰ.{tail as there}
use mathlib.Core.List.{List, [], ◌∷◌, ◌++◌}
use Rattle.std.proofs.Math.ListN.{length, length-set}
use Rattle.std.proofs.Math.Seq.{get_or-set_same, get_or-set_other}
use borrow.Author.Tests.{eq-eqb, ne_eqb, ltb-true, leb-true, lt-ltb, le-leb}
use Rattle.model.specs.Script.{Config}
use Rattle.model.specs.State.{Watch, Store}
use Rattle.model.specs.Store.{stored_literals, has_room, push_watch}
use Rattle.lawbase.specs.Basics.{◌∈◌, Every, every_one, every_append, split, same?, shrink}
use Rattle.lawbase.specs.WellFormed.{bit, times}
use Rattle.watching.specs.Permuted.{Permuted}
use Rattle.watching.proofs.Permuted.{perm_length}
use Rattle.watching.specs.Store.{Room}

-- ---- stored literals

pub stored-append : (cs ds : List (List ℕ)) → stored_literals (cs ++ ds) ≡ stored_literals cs + stored_literals ds
unfolding stored_literals
stored-append [] ds = omega arith
stored-append (c ∷ cs) ds = omega (arith, stored-append cs ds)

pub stored_one : (c : List ℕ) → stored_literals (c ∷ []) ≡ length c
unfolding stored_literals
stored_one c = omega arith

pub stored-set : (cs : List (List ℕ)) (r : ℕ) (d : List ℕ) → length d ≡ length (get_or cs r []) → stored_literals (set cs r d) ≡ stored_literals cs
unfolding stored_literals
stored-set [] r d h = refl
stored-set (c ∷ cs) zero d h = omega arith
stored-set (c ∷ cs) (suc r) d h = omega (arith, stored-set cs r d h)

pub stored_permuted : (cs : List (List ℕ)) (r : ℕ) (d : List ℕ) → Permuted (get_or cs r []) d → stored_literals (set cs r d) ≡ stored_literals cs
stored_permuted cs r d q = stored-set cs r d (sym (perm_length q))

-- ---- room

and_left : (a b : Bool) → (a && b) ≡ true → a ≡ true
and_left true b h = refl
and_left false b h = h

and_right : (a b : Bool) → (a && b) ≡ true → b ≡ true
and_right true b h = h
and_right false true h = refl
and_right false false h = h

and_both : (a b : Bool) → a ≡ true → b ≡ true → (a && b) ≡ true
and_both true b h k = k
and_both false b h k = h

module _ (cfg : Config) (st : Store) (c : List ℕ) where
  pub room : has_room cfg st c ≡ true → Room cfg st c
  unfolding has_room
  room h =
      record {
        clauses = ltb-true (length st.clauses) cfg.max_clauses
            (and_left (ltb (length st.clauses) cfg.max_clauses) (leb (stored_literals st.clauses + length c) cfg.max_literals) h);
        literals = leb-true (stored_literals st.clauses + length c) cfg.max_literals
            (and_right (ltb (length st.clauses) cfg.max_clauses) (leb (stored_literals st.clauses + length c) cfg.max_literals) h);
      }

  pub room_back : Room cfg st c → has_room cfg st c ≡ true
  unfolding has_room
  room_back h =
      and_both (ltb (length st.clauses) cfg.max_clauses) (leb (stored_literals st.clauses + length c) cfg.max_literals)
      (lt-ltb (length st.clauses) cfg.max_clauses h.clauses)
      (le-leb (stored_literals st.clauses + length c) cfg.max_literals h.literals)

-- ---- counts

pub times-append : (c : ℕ) (us vs : List Watch) → times c (us ++ vs) ≡ times c us + times c vs
times-append c [] vs = omega arith
times-append c (u ∷ us) vs = omega (arith, times-append c us vs)

pub times_own : (c : ℕ) (w : Watch) (ws : List Watch) → w.clause ≡ c → times c (w ∷ ws) ≡ suc (times c ws)
times_own c w ws e = rw (eq-eqb w.clause c e) (omega arith)

pub times_else : (c : ℕ) (w : Watch) (ws : List Watch) → w.clause ≢ c → times c (w ∷ ws) ≡ times c ws
times_else c w ws e = rw (ne_eqb w.clause c e) (omega arith)

pub times_in : {w : Watch} {ws : List Watch} → w ∈ ws → 0 < times w.clause ws
times_in {w} (here {x = v} {xs = ws} e) = omega (arith, times_own w.clause v ws (ap (λ (x : Watch). x.clause) (sym e)))
times_in (there i) = omega (arith, times_in i)

pub times_none : (c : ℕ) (ws : List Watch) → Every (λ w. w.clause ≢ c) ws → times c ws ≡ 0
times_none c [] h = refl
times_none c (w ∷ ws) h = times_else c w ws (h w (here refl)) ∙ times_none c ws (shrink h)

pub times_some : (c : ℕ) (ws : List Watch) → 0 < times c ws → (w : Watch) × (w ∈ ws) × (w.clause ≡ c)
times_some c [] h = absurd (not-suc-le-zero h)
times_some c (w ∷ ws) h =
    split (same? w.clause c)
    (λ e. (w, here refl, e))
    (λ n. (let k = times_some c ws (omega (arith, times_else c w ws n)) in (k.0, there k.1, k.2)))

pub bit_same : (a b : ℕ) → a ≡ b → bit (eqb a b) ≡ 1
bit_same a b e = rw (eq-eqb a b e)

pub bit_other : (a b : ℕ) → a ≢ b → bit (eqb a b) ≡ 0
bit_other a b e = rw (ne_eqb a b e)

-- ---- one more watch

module _ (ws : List (List Watch)) (p : ℕ) (w : Watch) where
  pub push-length : length (push_watch ws p w) ≡ length ws
  unfolding push_watch
  push-length = length-set ws p (get_or ws p [] ++ (w ∷ []))

  pub push_same : p < length ws → get_or (push_watch ws p w) p [] ≡ get_or ws p [] ++ (w ∷ [])
  unfolding push_watch
  push_same h = get_or-set_same ws p (get_or ws p [] ++ (w ∷ [])) [] h

  pub push_other : (l : ℕ) → l ≢ p → get_or (push_watch ws p w) l [] ≡ get_or ws l []
  unfolding push_watch
  push_other l n = get_or-set_other ws p l (get_or ws p [] ++ (w ∷ [])) [] n

  pub push_every : (P : Watch → Type 0) (l : ℕ) → p < length ws → P w → Every P (get_or ws l []) → Every P (get_or (push_watch ws p w) l [])
  push_every P l h one old =
      split (same? l p)
      (λ e. subst (λ k. Every P (get_or (push_watch ws p w) k [])) (sym e)
      (subst (λ x. Every P x) (sym (push_same h))
      (every_append P (get_or ws p []) (subst (λ k. Every P (get_or ws k [])) e old) (every_one P one))))
      (λ n. subst (λ x. Every P x) (sym (push_other l n)) old)

  pub times-push : (c l : ℕ) → p < length ws → w.clause ≡ c → times c (get_or (push_watch ws p w) l []) ≡ times c (get_or ws l []) + bit (eqb l p)
  times-push c l h own =
      split (same? l p)
      (λ e. subst (λ k. times c (get_or (push_watch ws p w) k []) ≡ times c (get_or ws k []) + bit (eqb k p)) (sym e)
      (ap (times c) (push_same h) ∙ times-append c (get_or ws p []) (w ∷ [])
      ∙ (omega (arith, times_own c w [] own, bit_same p p refl))))
      (λ n. ap (times c) (push_other l n) ∙ (omega (arith, bit_other l p n)))

  pub times-push_else : (c l : ℕ) → p < length ws → w.clause ≢ c → times c (get_or (push_watch ws p w) l []) ≡ times c (get_or ws l [])
  times-push_else c l h other =
      split (same? l p)
      (λ e. subst (λ k. times c (get_or (push_watch ws p w) k []) ≡ times c (get_or ws k [])) (sym e)
      (ap (times c) (push_same h) ∙ times-append c (get_or ws p []) (w ∷ [])
      ∙ (omega (arith, times_else c w [] other))))
      (λ n. ap (times c) (push_other l n))
