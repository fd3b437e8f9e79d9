-- Storing a clause keeps the store, and watches the clause by its first two literals.
use Rattle.std.specs.Prelude.{◌≡◌, ◌≢◌, true, ℕ, suc, ◌+◌, ◌*◌, ◌<◌, eqb, length, get_or}
use Rattle.std.proofs.Math.Path.{refl}
use Rattle.std.proofs.Common.{ap, sym, ◌∙◌, subst, arith, length-append}
use mathlib.Core.List.{List, [], ◌∷◌, ◌++◌}
use Rattle.std.proofs.Math.ListN.{get_or-append}
use Rattle.std.proofs.Math.Seq.{get_or-append_seam}
use Rattle.model.specs.Lit.{neg}
use Rattle.model.specs.Script.{Config}
use Rattle.model.specs.State.{Watch, Store}
use Rattle.model.specs.Store.{has_room, push_watch, attach_clause}
use Rattle.lawbase.specs.Basics.{◌∈◌, Every, every_one, every_append, split, less?, neg_range}
use Rattle.lawbase.specs.WellFormed.{Proper, bit, times, Watches, Watched, Stored}
use Rattle.assign.proofs.Lists.{get_or_in}
use Rattle.watching.specs.Store.{due}
use Rattle.watching.proofs.Store.{stored-append, stored_one, room, times_none, push-length, push_every, times-push, times-push_else}
use Rattle.watching.specs.Attach.{both_watched}

length_snoc : {A : Type 0} (xs : List A) (a : A) → length (xs ++ (a ∷ [])) ≡ suc (length xs)
length_snoc xs a = length-append xs (a ∷ []) ∙ (omega arith)

-- a stored clause stays at its index; the new one is behind the others
module _ (st : Store) (c : List ℕ) where
  pub attach_clauses : (attach_clause st c).clauses ≡ st.clauses ++ (c ∷ [])
  unfolding attach_clause
  attach_clauses = refl

  pub attach_length : length (attach_clause st c).clauses ≡ suc (length st.clauses)
  unfolding attach_clause
  attach_length = length_snoc st.clauses c

  pub attach_old : (r : ℕ) → r < length st.clauses → get_or (attach_clause st c).clauses r [] ≡ get_or st.clauses r []
  unfolding attach_clause
  attach_old r h = get_or-append st.clauses (c ∷ []) [] r h

  pub attach_new : get_or (attach_clause st c).clauses (length st.clauses) [] ≡ c
  unfolding attach_clause
  attach_new = get_or-append_seam st.clauses c [] []

module _ (ws : List (List Watch)) (cr c0 c1 : ℕ) (h0 : neg c0 < length ws) (h1 : neg c1 < length ws) where
  h1_pushed : neg c1 < length (push_watch ws (neg c0) (record { clause = cr; blocker = c1 }))
  h1_pushed = subst (λ k. neg c1 < k) (sym (push-length ws (neg c0) (record { clause = cr; blocker = c1 }))) h1

  pub both_length : length (both_watched ws cr c0 c1) ≡ length ws
  both_length =
      push-length (push_watch ws (neg c0) (record { clause = cr; blocker = c1 })) (neg c1) (record { clause = cr; blocker = c0 })
      ∙ push-length ws (neg c0) (record { clause = cr; blocker = c1 })

  pub both_every : (P : Watch → Type 0) (l : ℕ) → P (record { clause = cr; blocker = c1 }) → P (record { clause = cr; blocker = c0 })
      → Every P (get_or ws l []) → Every P (get_or (both_watched ws cr c0 c1) l [])
  both_every P l one two old =
      push_every (push_watch ws (neg c0) (record { clause = cr; blocker = c1 })) (neg c1) (record { clause = cr; blocker = c0 }) P l h1_pushed two
      (push_every ws (neg c0) (record { clause = cr; blocker = c1 }) P l h0 one old)

  pub both_times : (l : ℕ) → times cr (get_or (both_watched ws cr c0 c1) l []) ≡ times cr (get_or ws l []) + bit (eqb l (neg c0)) + bit (eqb l (neg c1))
  both_times l =
      times-push (push_watch ws (neg c0) (record { clause = cr; blocker = c1 })) (neg c1) (record { clause = cr; blocker = c0 }) cr l h1_pushed refl
      ∙ ap (λ (k : ℕ). k + bit (eqb l (neg c1))) (times-push ws (neg c0) (record { clause = cr; blocker = c1 }) cr l h0 refl)

  pub both_times_else : (c l : ℕ) → cr ≢ c → times c (get_or (both_watched ws cr c0 c1) l []) ≡ times c (get_or ws l [])
  both_times_else c l n =
      times-push_else (push_watch ws (neg c0) (record { clause = cr; blocker = c1 })) (neg c1) (record { clause = cr; blocker = c0 }) c l h1_pushed n
      ∙ times-push_else ws (neg c0) (record { clause = cr; blocker = c1 }) c l h0 n

watches_snoc : (cs : List (List ℕ)) (c : List ℕ) (w : Watch) → Watches cs w → Watches (cs ++ (c ∷ [])) w
watches_snoc cs c w h =
    record {
      stored = omega (arith, h.stored, length_snoc cs c);
      blocker = subst (λ x. w.blocker ∈ x) (sym (get_or-append cs (c ∷ []) [] w.clause h.stored)) h.blocker;
    }

watches_new : (cs : List (List ℕ)) (c : List ℕ) (b : ℕ) → b ∈ c → Watches (cs ++ (c ∷ [])) (record { clause = length cs; blocker = b })
watches_new cs c b i =
    record {
      stored = omega (arith, length_snoc cs c);
      blocker = subst (λ x. b ∈ x) (sym (get_or-append_seam cs c [] [])) i;
    }

module _ (n : ℕ) (cs : List (List ℕ)) (ws : List (List Watch)) (c : List ℕ) where
  abbrev pub new_lists : List (List Watch)
  new_lists = both_watched ws (length cs) (get_or c 0 0) (get_or c 1 0)

  pub attach_watched : Proper n c → Watched n cs ws → Watched n (cs ++ (c ∷ [])) new_lists
  attach_watched p h =
      record {
        lists = both_length ws (length cs) (get_or c 0 0) (get_or c 1 0) near far ∙ h.lists;
        known = λ l r.
            both_every ws (length cs) (get_or c 0 0) (get_or c 1 0) near far (Watches (cs ++ (c ∷ []))) l
            (watches_new cs c (get_or c 1 0) (get_or_in c 1 0 (omega (arith, p.two)))) (watches_new cs c (get_or c 0 0) (get_or_in c 0 0 (omega (arith, p.two))))
            (λ w i. watches_snoc cs c w (h.known l r w i));
        twice = counts;
      }
    where
      near : neg (get_or c 0 0) < length ws
      near = omega (arith, neg_range (get_or c 0 0) n (p.range (get_or c 0 0) (get_or_in c 0 0 (omega (arith, p.two)))), h.lists)

      far : neg (get_or c 1 0) < length ws
      far = omega (arith, neg_range (get_or c 1 0) n (p.range (get_or c 1 0) (get_or_in c 1 0 (omega (arith, p.two)))), h.lists)

      old : (r l : ℕ) → r < length cs → l < 2 * n → times r (get_or new_lists l []) ≡ due l (get_or cs r [])
      old r l hr hl = both_times_else ws (length cs) (get_or c 0 0) (get_or c 1 0) near far r l (λ e. (omega (arith, e, hr))) ∙ h.twice r l hr hl

      new : (l : ℕ) → l < 2 * n → times (length cs) (get_or new_lists l []) ≡ due l c
      new l hl =
          let none = times_none (length cs) (get_or ws l []) (λ w i e. (omega (arith, (h.known l hl w i).stored, e))) in
          both_times ws (length cs) (get_or c 0 0) (get_or c 1 0) near far l ∙ omega (arith, none)

      counts : (r l : ℕ) → r < length (cs ++ (c ∷ [])) → l < 2 * n → times r (get_or new_lists l []) ≡ due l (get_or (cs ++ (c ∷ [])) r [])
      counts r l hr hl =
          split (less? r (length cs))
          (λ s. rw (get_or-append cs (c ∷ []) [] r s) (old r l s hl))
          (λ s. (let e : r ≡ length cs = omega (arith, s, hr, length_snoc cs c) in rw (e, get_or-append_seam cs c [] []) (new l hl)))

pub attach_stored : (cfg : Config) (st : Store) (c : List ℕ) → Stored cfg st → has_room cfg st c ≡ true → Proper cfg.variables c
    → Stored cfg (attach_clause st c)
unfolding attach_clause
attach_stored cfg st c h r p =
    record {
      clauses = omega (arith, length_snoc st.clauses c, (room cfg st c r).clauses);
      literals = omega (arith, stored-append st.clauses (c ∷ []), stored_one c, (room cfg st c r).literals);
      proper = every_append (Proper cfg.variables) st.clauses h.proper (every_one (Proper cfg.variables) p);
      watched = attach_watched cfg.variables st.clauses st.watches c p h.watched;
    }

-- the new index has a watch in the list of each negation of the first two literals
pub attach_counts : (cfg : Config) (st : Store) (c : List ℕ) (l : ℕ) → Stored cfg st → has_room cfg st c ≡ true → Proper cfg.variables c
    → l < 2 * cfg.variables → times (length st.clauses) (get_or (attach_clause st c).watches l []) ≡ due l c
attach_counts cfg st c l h r p hl =
    rw attach_new at
    ((attach_stored cfg st c h r p).watched.twice (length st.clauses) l (omega (arith, attach_length st c)) hl)
