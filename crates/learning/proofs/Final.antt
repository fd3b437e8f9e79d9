-- `analyze_final`: the clause of a true literal p and of negations of decisions that make it true.
use Rattle.std.specs.Prelude.{◌≡◌, ◌≢◌, Bool, true, ℕ, ◌*◌, ◌≤◌, ◌<◌, length, drop, set, replicate}
use Rattle.std.proofs.Math.Path.{refl}
use Rattle.std.proofs.Common.{ap, sym, ◌∙◌, arith, length-set}
use mathlib.Core.List.Memᴰ.{append_left as in_left}
use mathlib.Core.List.Memᴰ.{head as here}
use mathlib.Core.List.Memᴰ.{tail as there}
use mathlib.Core.List.{List, [], ◌∷◌, ◌++◌, reverse}
use Rattle.std.proofs.Math.ListN.{get_or}
use Rattle.std.proofs.lemmas.List.{length-replicate}
use Rattle.model.specs.Lit.{var, neg, no_reason}
use Rattle.model.specs.State.{Store, VarState, decision_level, level_lit, reason_lit, reason_rest}
use Rattle.model.specs.Final.{insert, mark, blame, analyze_final}
use Rattle.lawbase.specs.Basics.{◌∈◌, Every, every_nil, every_one, every_append, shrink, split, neg-neg, neg_ne, neg_range, var-neg, var_range}
use Rattle.lawbase.specs.WellFormed.{Distinct, Entries, Assignment}
use Rattle.lawbase.specs.Sem.{Rup}
use Rattle.learning.proofs.Trail.{once, in_range, levels_top, in_reverse}
use Rattle.learning.proofs.Marks.{mark_same}
use Rattle.learning.proofs.Join.{distinct_snoc}
use Rattle.learning.specs.FirstUip.{Knows, Known, Refutes}
use Rattle.learning.specs.Parts.{upper, base}
use Rattle.learning.proofs.Parts.{parts_entries, parts_on, part_of, upper_level, base_level}
use Rattle.learning.proofs.Room.{distinct-length}
use Rattle.learning.proofs.Blame.{insert_new, blame_cases, blame_sound}
use Rattle.learning.specs.Final.{Decision, FinalClause}

-- ---- shape

-- what was inserted behind p; u is still to be walked
record Inserted (vs : VarState) (u D : List ℕ) : Type 0 where
  decisions : Every (Decision vs) D
  distinct : Distinct D
  apart : Every (λ l. Every (λ x. var x ≢ var l) u) D

record Shape (vs : VarState) (p : ℕ) (R : List ℕ) : Type 0 where
  rest : List ℕ
  is : R ≡ p ∷ rest
  decisions : Every (Decision vs) rest
  distinct : Distinct rest

module _ (n : ℕ) (st : Store) (vs : VarState) (a : Assignment n st.clauses vs) (p : ℕ) (i : p ∈ vs.trail) where
  -- no literal of the trail is the negation of another
  pub not_both : (l : ℕ) → l ∈ vs.trail → neg l ≡ p → ⊥
  not_both l j e =
      neg_ne l (e ∙ sym (once n st.clauses vs (reverse vs.trail) a.entries l p (in_reverse vs.trail j) (in_reverse vs.trail i)
      (sym (var-neg l) ∙ ap var e)))

  module _ (l : ℕ) (u : List ℕ) (j : l ∈ vs.trail) (fresh : Every (λ x. var x ≢ var l) u) (D : List ℕ) (d : Inserted vs (l ∷ u) D) where
    insert_takes : insert (p ∷ D) (neg l) ≡ p ∷ (D ++ (neg l ∷ []))
    insert_takes = insert_new (p ∷ D) (neg l) go
      where
        go : neg l ∈ (p ∷ D) → ⊥
        go (here e) = not_both l j e
        go (there k) = d.apart (neg l) k l (here refl) (sym (var-neg l))

    inserted : reason_lit vs l ≡ no_reason → 0 < level_lit vs l → Inserted vs u (D ++ (neg l ∷ []))
    inserted e h =
        record {
          decisions = every_append (Decision vs) D d.decisions
              (every_one (Decision vs) (record { falsified = rw neg-neg j; decided = rw var-neg e; above = rw var-neg h }));
          distinct = distinct_snoc D (neg l) d.distinct (λ x k c. d.apart x k l (here refl) (sym (var-neg l) ∙ sym c));
          apart = every_append (λ x. Every (λ y. var y ≢ var x) u) D (λ x k. shrink (d.apart x k))
              (every_one (λ x. Every (λ y. var y ≢ var x) u) (λ y k c. fresh y k (c ∙ var-neg l)));
        }

  passed : (l : ℕ) (u D : List ℕ) → Inserted vs (l ∷ u) D → Inserted vs u D
  passed l u D d = record { decisions = d.decisions; distinct = d.distinct; apart = λ x k. shrink (d.apart x k) }

  blame-shape : (z u : List ℕ) → Entries n st.clauses vs (u ++ z) → Every (λ q. q ∈ vs.trail) u → Every (λ q. 0 < level_lit vs q) u → (m D : List ℕ)
      → Inserted vs u D → Shape vs p (blame st vs u m (p ∷ D))
  unfolding blame
  blame-shape z [] w on h m D d = record { rest = D; is = refl; decisions = d.decisions; distinct = d.distinct }
  blame-shape z (l ∷ u) w on h m D d =
      blame_cases (Shape vs p) st vs l u m (p ∷ D)
      (λ s. blame-shape z u w.1 (shrink on) (shrink h) m D (passed l u D d))
      (λ s e.
      let j = on l (here refl) in
      let f : Every (λ x. var x ≢ var l) u = λ x k. w.0.fresh x (in_left z k) in
      rw (insert_takes l u j f D d)
      (blame-shape z u w.1 (shrink on) (shrink h) (set m (var l) 0) (D ++ (neg l ∷ [])) (inserted l u j f D d e (h l (here refl)))))
      (λ s c. blame-shape z u w.1 (shrink on) (shrink h) (set (mark vs (reason_rest st vs l) m) (var l) 0) D (passed l u D d))

-- ---- the clause

module _ (n : ℕ) (st : Store) (vs : VarState) (a : Assignment n st.clauses vs) (p : ℕ) (i : p ∈ vs.trail) where
  final_of : (R : List ℕ) → Shape vs p R → ((S : ℕ → Bool) → ((l : ℕ) → S l ≡ true → S (neg l) ≡ true → ⊥) → Knows S st vs → Refutes S R → ⊥)
      → FinalClause n st vs p R
  final_of R s h =
      let r : Every (λ l. l < 2 * n) s.rest = λ l j. rw neg-neg at
      (neg_range (neg l) n (in_range n st.clauses vs (reverse vs.trail) a.entries (neg l)
      (in_reverse vs.trail (s.decisions l j).falsified))) in
      record {
        rest = s.rest;
        is = s.is;
        decisions = s.decisions;
        distinct = s.distinct;
        once = λ l j e. not_both n st vs a p i (neg l) (s.decisions l j).falsified (neg-neg l ∙ e);
        short = rw s.is (omega (arith, distinct-length n s.rest r s.distinct));
        sound = h;
      }

  nothing : (u : List ℕ) → Inserted vs u []
  nothing u = record { decisions = every_nil (Decision vs); distinct = tt; apart = every_nil (λ l. Every (λ x. var x ≢ var l) u) }

  -- no level is open
  at_zero : vs.limits ≡ [] → level_lit vs p ≡ 0
  at_zero e =
      let h : level_lit vs p ≤ decision_level vs = levels_top n st.clauses vs (reverse vs.trail) a.entries p (in_reverse vs.trail i) in
      let z : decision_level vs ≡ 0 = ap length e in
      omega arith

  alone : level_lit vs p ≡ 0 → FinalClause n st vs p (p ∷ [])
  alone z =
      final_of (p ∷ []) (record { rest = []; is = refl; decisions = every_nil (Decision vs); distinct = tt })
      (λ S one k h. one p (k.fixed p i z) (h p (here refl)))

  module _ (start : ℕ) (first : get_or vs.limits 0 0 ≡ start) (open_level : 0 < decision_level vs) where
    abbrev u : List ℕ
    u = upper vs start

    abbrev z : List ℕ
    z = base vs start

    w : Entries n st.clauses vs (u ++ z)
    w = parts_entries n st.clauses vs a 0 open_level start first

    on : Every (λ q. q ∈ vs.trail) (u ++ z)
    on = parts_on n st.clauses vs a 0 open_level start first

    zero_level : Every (λ q. level_lit vs q ≡ 0) z
    zero_level q j = omega (arith, base_level n st.clauses vs a 0 open_level start first q j)

    -- p is marked first
    abbrev seen : List ℕ
    seen = set (replicate (length vs.values) 0) (var p) 1

    seen-length : length seen ≡ n
    seen-length = length-set (replicate (length vs.values) 0) (var p) 1 ∙ length-replicate (length vs.values) 0 ∙ a.values

    walked : FinalClause n st vs p (blame st vs u seen (p ∷ []))
    walked =
        final_of (blame st vs u seen (p ∷ []))
        (blame-shape n st vs a p i z u w (λ q j. on q (in_left z j)) (upper_level n st.clauses vs a 0 open_level start first) seen [] (nothing u))
        (λ S one k. blame_sound S n st vs k z zero_level u w on seen (p ∷ []) seen-length
        (λ h f. one p (split (part_of n st.clauses vs a 0 open_level start first p i)
        (λ j. f p j (mark_same (replicate (length vs.values) 0) (var p) room))
        (λ j. k.fixed p i (zero_level p j))) (h p (here refl))))
      where
        room : var p < length (replicate {A = ℕ} (length vs.values) 0)
        room = rw (length-replicate {A = ℕ} (length vs.values) 0, a.values)
            (var_range p n (in_range n st.clauses vs (reverse vs.trail) a.entries p (in_reverse vs.trail i)))

  pub final_law : FinalClause n st vs p (analyze_final st vs p)
  unfolding analyze_final
  final_law = go vs.limits refl
    where
      go : (limits : List ℕ) → vs.limits ≡ limits
          → FinalClause n st vs p
          (elim limits [ [] ↦ p ∷ [] | start ∷ more ↦ blame st vs (reverse (drop start vs.trail)) (set (replicate (length vs.values) 0) (var p) 1) (p ∷ []) ])
      go [] e = alone (at_zero e)
      go (start ∷ more) e = walked start (ap (λ (l : List ℕ). get_or l 0 0) e) (rw e (omega arith))

  -- with no level open, p alone, which is at level 0
  pub final_unit : vs.limits ≡ [] → (analyze_final st vs p ≡ p ∷ []) × (level_lit vs p ≡ 0)
  unfolding analyze_final
  final_unit e = (rw (e, analyze_final), at_zero e)

pub final_rup : (F : List (List ℕ)) (n : ℕ) (st : Store) (vs : VarState) (p : ℕ) (clause : List ℕ) → Known F st vs → FinalClause n st vs p clause
    → Rup F clause
final_rup F n st vs p clause k f S s = f.sound S s.one (k S s)
