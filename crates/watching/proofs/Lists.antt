-- One clause reordered: its watches in their lists, and the store.
use Rattle.std.specs.Prelude.{◌≡◌, refl, ◌≢◌, ◌⊎◌, List, [], ◌∷◌, ◌++◌, ℕ, suc, zero, ◌+◌, ◌*◌, ◌<◌, eqb, length, get_or, set}
use Rattle.std.proofs.Common.{ap, sym, ◌∙◌, subst, inl, inr, arith, length-set, get_or-set_same, get_or-set_other}
use mathlib.Core.List.Memᴰ.{append_cases}
use mathlib.Core.List.Memᴰ.{append_left as in_left}
use mathlib.Core.List.Memᴰ.{append_right as in_right}
use mathlib.Core.List.Memᴰ.{head as here}
use mathlib.Core.List.Memᴰ.{tail as there}
use Rattle.model.specs.Lit.{neg}
use Rattle.model.specs.Script.{Config}
use Rattle.model.specs.State.{Watch, Store}
use Rattle.model.specs.Store.{push_watch}
use Rattle.lawbase.specs.Basics.{◌∈◌, Every, every_cons, split, same?, shrink, neg-neg}
use Rattle.lawbase.specs.WellFormed.{Proper, bit, times, Watches, Watched, Stored}
use Rattle.assign.proofs.Lists.{get_or_in}
use Rattle.watching.specs.Permuted.{Permuted}
use Rattle.watching.proofs.Permuted.{perm_in, perm_proper}
use Rattle.watching.specs.Store.{due}
use Rattle.watching.proofs.Store.{stored_permuted, times-append, times_own, times_else, bit_same, bit_other, push-length, push_every, times-push, times-push_else}
use Rattle.watching.specs.Look.{blocked_by}
use Rattle.watching.specs.Lists.{OldOrOwn}

-- ---- lists with one place set

pub every_set : {A : Type 0} (P : A → Type 0) (l : List A) (i : ℕ) (a : A) → Every P l → P a → Every P (set l i a)
every_set P [] i a h p = h
every_set P (x ∷ l) zero a h p = every_cons P p (shrink h)
every_set P (x ∷ l) (suc i) a h p = every_cons P (h x (here refl)) (every_set P l i a (shrink h) p)

-- a property of every place of a list, seen at one place that is set
pub at_set : {A : Type 0} (P : ℕ → A → Type 0) (l : List A) (i : ℕ) (a d : A) → i < length l → P i a → ((j : ℕ) → j ≢ i → P j (get_or l j d))
    → (j : ℕ) → P j (get_or (set l i a) j d)
at_set P l i a d h p q j =
    split (same? j i)
    (λ e. subst (λ k. P k (get_or (set l i a) k d)) (sym e) (subst (λ x. P i x) (sym (get_or-set_same l i a d h)) p))
    (λ n. subst (λ x. P j x) (sym (get_or-set_other l i j a d n)) (q j n))

-- ---- the counts in one list

pub times-blocked : (c : ℕ) (kept : List Watch) (w : Watch) (b : ℕ) (rest : List Watch)
    → times c (kept ++ (blocked_by w b ∷ rest)) ≡ times c (kept ++ (w ∷ rest))
times-blocked c kept w b rest = times-append c kept (blocked_by w b ∷ rest) ∙ sym (times-append c kept (w ∷ rest))

pub times-taken : (kept : List Watch) (w : Watch) (rest : List Watch) → times w.clause (kept ++ (w ∷ rest)) ≡ suc (times w.clause (kept ++ rest))
times-taken kept w rest =
    omega (arith, times-append w.clause kept (w ∷ rest), times-append w.clause kept rest, times_own w.clause w rest refl)

pub times_left : (c : ℕ) (kept : List Watch) (w : Watch) (rest : List Watch) → w.clause ≢ c → times c (kept ++ rest) ≡ times c (kept ++ (w ∷ rest))
times_left c kept w rest n = omega (arith, times-append c kept (w ∷ rest), times-append c kept rest, times_else c w rest n)

pub in_without : {v : Watch} (kept : List Watch) (w : Watch) (rest : List Watch) → v ∈ (kept ++ rest) → v ∈ (kept ++ (w ∷ rest))
in_without kept w rest i = split (append_cases kept i) (λ j. in_left (w ∷ rest) j) (λ j. in_right kept (there j))

-- ---- the clause cr becomes d, and the lists become others

module _ (n : ℕ) (cs : List (List ℕ)) (cr : ℕ) (d : List ℕ) (inside : cr < length cs) (permuted : Permuted (get_or cs cr []) d) where
  watches_kept : (w : Watch) → Watches cs w → Watches (set cs cr d) w
  watches_kept w h =
      record {
        stored = omega (arith, length-set cs cr d, h.stored);
        blocker = at_set (λ r c. r ≡ w.clause → w.blocker ∈ c) cs cr d [] inside
            (λ e. perm_in permuted w.blocker (subst (λ k. w.blocker ∈ (get_or cs k [])) (sym e) h.blocker))
            (λ j m e. subst (λ k. w.blocker ∈ (get_or cs k [])) (sym e) h.blocker) w.clause refl;
      }

  watches_own : (w : Watch) → w.clause ≡ cr → w.blocker ∈ d → Watches (set cs cr d) w
  watches_own w e i =
      record {
        stored = omega (arith, length-set cs cr d);
        blocker = subst (λ k. w.blocker ∈ (get_or (set cs cr d) k [])) (sym e) (subst (λ x. w.blocker ∈ x) (sym (get_or-set_same cs cr d [] inside)) i);
      }

  pub reordered_watched : (ws ws' : List (List Watch)) → Watched n cs ws → length ws' ≡ length ws
      → ((l : ℕ) → l < 2 * n → Every (OldOrOwn (get_or ws l []) cr d) (get_or ws' l []))
      → ((c l : ℕ) → l < 2 * n → cr ≢ c → times c (get_or ws' l []) ≡ times c (get_or ws l []))
      → ((l : ℕ) → l < 2 * n → times cr (get_or ws' l []) ≡ due l d)
      → Watched n (set cs cr d) ws'
  reordered_watched ws ws' h e k f g =
      record {
        lists = e ∙ h.lists;
        known = λ l hl v i. split (k l hl v i) (λ j. watches_kept v (h.known l hl v j)) (λ j. watches_own v j.0 j.1);
        twice = λ c l hc hl.
            at_set (λ r x. r < length cs → times r (get_or ws' l []) ≡ due l x)
            cs cr d [] inside (λ _. g l hl) (λ j m hj. f j l hl (λ z. m (sym z)) ∙ h.twice j l hj hl) c (omega (arith, length-set cs cr d, hc));
      }

-- the two orders of the first two literals give the same counts
swapped_due : (l a b : ℕ) (r c : List ℕ) → (c ≡ a ∷ b ∷ r) ⊎ (c ≡ b ∷ a ∷ r) → due l c ≡ bit (eqb l (neg a)) + bit (eqb l (neg b))
swapped_due l a b r c m =
    split m
    (λ e. subst (λ x. due l x ≡ bit (eqb l (neg a)) + bit (eqb l (neg b))) (sym e) refl)
    (λ e. subst (λ x. due l x ≡ bit (eqb l (neg a)) + bit (eqb l (neg b))) (sym e) (omega arith))

-- p's list is kept ++ w ∷ rest, and w's clause a ∷ neg p ∷ r in one of two orders
module _ (n p : ℕ) (cs : List (List ℕ)) (ws : List (List Watch)) (kept : List Watch) (w : Watch) (rest : List Watch) (a : ℕ) (r : List ℕ) where
  abbrev pub lists_now : List (List Watch)
  lists_now = set ws p (kept ++ (w ∷ rest))

  -- the watch stays, with another blocker
  abbrev pub lists_kept : List (List Watch)
  lists_kept = set ws p (kept ++ (blocked_by w a ∷ rest))

  -- the watch goes to the list of neg l
  abbrev pub lists_moved : ℕ → List (List Watch)
  lists_moved l = set (push_watch ws (neg l) (blocked_by w a)) p (kept ++ rest)

  pub stay_watched : Watched n cs lists_now → p < length ws → w.clause < length cs
      → Permuted (get_or cs w.clause []) (a ∷ neg p ∷ r) → (get_or cs w.clause [] ≡ a ∷ neg p ∷ r) ⊎ (get_or cs w.clause [] ≡ neg p ∷ a ∷ r)
      → Watched n (set cs w.clause (a ∷ neg p ∷ r)) lists_kept
  stay_watched h hp inside q m =
      reordered_watched n cs w.clause (a ∷ neg p ∷ r) inside q lists_now lists_kept h
      (length-set ws p (kept ++ (blocked_by w a ∷ rest)) ∙ sym (length-set ws p (kept ++ (w ∷ rest))))
      (λ l hl. members l)
      (λ c l hl z. counts c l)
      (λ l hl. counts w.clause l ∙ h.twice w.clause l inside hl ∙ swapped_due l a (neg p) r (get_or cs w.clause []) m)
    where
      counts : (c l : ℕ) → times c (get_or lists_kept l []) ≡ times c (get_or lists_now l [])
      counts c =
          at_set (λ l x. times c x ≡ times c (get_or lists_now l [])) ws p (kept ++ (blocked_by w a ∷ rest)) [] hp
          (times-blocked c kept w a rest ∙ ap (times c) (sym (get_or-set_same ws p (kept ++ (w ∷ rest)) [] hp)))
          (λ l z. ap (times c) (sym (get_or-set_other ws p l (kept ++ (w ∷ rest)) [] z)))

      here_members : Every (OldOrOwn (kept ++ (w ∷ rest)) w.clause (a ∷ neg p ∷ r)) (kept ++ (blocked_by w a ∷ rest))
      here_members v i =
          split (append_cases kept i)
          (λ j. inl (in_left (w ∷ rest) j))
          (λ j.
          every_cons (OldOrOwn (kept ++ (w ∷ rest)) w.clause (a ∷ neg p ∷ r)) (inr (refl, here refl)) (λ u k. inl (in_right kept (there k))) v j)

      members : (l : ℕ) → Every (OldOrOwn (get_or lists_now l []) w.clause (a ∷ neg p ∷ r)) (get_or lists_kept l [])
      members =
          at_set (λ l x. Every (OldOrOwn (get_or lists_now l []) w.clause (a ∷ neg p ∷ r)) x) ws p (kept ++ (blocked_by w a ∷ rest)) [] hp
          (subst (λ y. Every (OldOrOwn y w.clause (a ∷ neg p ∷ r)) (kept ++ (blocked_by w a ∷ rest)))
          (sym (get_or-set_same ws p (kept ++ (w ∷ rest)) [] hp)) here_members)
          (λ l z v i. inl (subst (λ y. v ∈ y) (sym (get_or-set_other ws p l (kept ++ (w ∷ rest)) [] z)) i))

  -- l is another literal of the clause, which is now a ∷ l ∷ q
  pub go_watched : (l : ℕ) (q : List ℕ) → Watched n cs lists_now → p < length ws → w.clause < length cs → neg l < length ws → neg l ≢ p
      → Permuted (get_or cs w.clause []) (a ∷ l ∷ q) → (get_or cs w.clause [] ≡ a ∷ neg p ∷ r) ⊎ (get_or cs w.clause [] ≡ neg p ∷ a ∷ r)
      → Watched n (set cs w.clause (a ∷ l ∷ q)) (lists_moved l)
  go_watched l q h hp inside hl ne perm m =
      reordered_watched n cs w.clause (a ∷ l ∷ q) inside perm lists_now (lists_moved l) h
      (length-set (push_watch ws (neg l) (blocked_by w a)) p (kept ++ rest) ∙ push-length ws (neg l) (blocked_by w a)
      ∙ sym (length-set ws p (kept ++ (w ∷ rest))))
      (λ k hk. members k)
      (λ c k hk z. counts c z k)
      (λ k hk. own k hk)
    where
      hp' : p < length (push_watch ws (neg l) (blocked_by w a))
      hp' = subst (λ k. p < k) (sym (push-length ws (neg l) (blocked_by w a))) hp

      members : (k : ℕ) → Every (OldOrOwn (get_or lists_now k []) w.clause (a ∷ l ∷ q)) (get_or (lists_moved l) k [])
      members =
          at_set (λ k x. Every (OldOrOwn (get_or lists_now k []) w.clause (a ∷ l ∷ q)) x)
          (push_watch ws (neg l) (blocked_by w a)) p (kept ++ rest) [] hp'
          (λ v i. inl (subst (λ y. v ∈ y) (sym (get_or-set_same ws p (kept ++ (w ∷ rest)) [] hp)) (in_without kept w rest i)))
          (λ k z. push_every ws (neg l) (blocked_by w a) (OldOrOwn (get_or lists_now k []) w.clause (a ∷ l ∷ q)) k hl
          (inr (refl, here refl)) (λ v i. inl (subst (λ y. v ∈ y) (sym (get_or-set_other ws p k (kept ++ (w ∷ rest)) [] z)) i)))

      counts : (c : ℕ) → w.clause ≢ c → (k : ℕ) → times c (get_or (lists_moved l) k []) ≡ times c (get_or lists_now k [])
      counts c other =
          at_set (λ k x. times c x ≡ times c (get_or lists_now k [])) (push_watch ws (neg l) (blocked_by w a)) p (kept ++ rest) [] hp'
          (times_left c kept w rest other ∙ ap (times c) (sym (get_or-set_same ws p (kept ++ (w ∷ rest)) [] hp)))
          (λ k z.
          times-push_else ws (neg l) (blocked_by w a) c k hl other ∙ ap (times c) (sym (get_or-set_other ws p k (kept ++ (w ∷ rest)) [] z)))

      now : (k : ℕ) → k < 2 * n → times w.clause (get_or lists_now k []) ≡ bit (eqb k (neg a)) + bit (eqb k (neg (neg p)))
      now k hk = h.twice w.clause k inside hk ∙ swapped_due k a (neg p) r (get_or cs w.clause []) m

      own : (k : ℕ) → k < 2 * n → times w.clause (get_or (lists_moved l) k []) ≡ bit (eqb k (neg a)) + bit (eqb k (neg l))
      own =
          at_set (λ k x. k < 2 * n → times w.clause x ≡ bit (eqb k (neg a)) + bit (eqb k (neg l)))
          (push_watch ws (neg l) (blocked_by w a)) p (kept ++ rest) [] hp'
          (λ hk. (omega (
            arith,
            times-taken kept w rest,
            ap (times w.clause) (get_or-set_same ws p (kept ++ (w ∷ rest)) [] hp),
            now p hk,
            bit_same p (neg (neg p)) (sym (neg-neg p)),
            bit_other p (neg l) (λ e. ne (sym e)),
          )))
          (λ k z hk. (omega (
            arith,
            times-push ws (neg l) (blocked_by w a) w.clause k hl refl,
            ap (times w.clause) (get_or-set_other ws p k (kept ++ (w ∷ rest)) [] z),
            now k hk,
            bit_other k (neg (neg p)) (λ e. z (e ∙ neg-neg p)),
          )))

-- ---- the store

pub reordered_stored : (cfg : Config) (st : Store) (ws ws' : List (List Watch)) (cr : ℕ) (d : List ℕ)
    → Stored cfg (record { clauses = st.clauses; watches = ws }) → cr < length st.clauses → Permuted (get_or st.clauses cr []) d
    → Watched cfg.variables (set st.clauses cr d) ws'
    → Stored cfg (record { clauses = set st.clauses cr d; watches = ws' })
reordered_stored cfg st ws ws' cr d h inside q k =
    record {
      clauses = omega (arith, length-set st.clauses cr d, h.clauses);
      literals = omega (arith, stored_permuted st.clauses cr d q, h.literals);
      proper = every_set (Proper cfg.variables) st.clauses cr d h.proper
          (perm_proper cfg.variables q (h.proper (get_or st.clauses cr []) (get_or_in st.clauses cr [] inside)));
      watched = k;
    }
