-- The clause that is learnt: the same with the mask and without it, and what is kept of the clause before minimising.
use Rattle.std.specs.Prelude.{◌≡◌, refl, ◌↔◌, ℕ, drop}
use Rattle.std.proofs.Math.Path.{ap}
use Rattle.std.proofs.Common.{sym, ◌∙◌, subst, arith}
use mathlib.Core.List.{List, [], ◌∷◌, reverse}
use Rattle.std.proofs.Math.ListN.{get_or}
use Rattle.model.specs.Lit.{neg}
use Rattle.model.specs.Script.{Config}
use Rattle.model.specs.State.{Store, VarState, Solver, decision_level, level_lit}
use Rattle.model.specs.Minimise.{drop_redundant, minimize_conflict, abstract_levels}
use Rattle.model.specs.Analyze.{Resolvent, first_uip, highest_first, backtrack_level, analyze}
use Rattle.lawbase.specs.Basics.{◌∈◌, Every, var-neg}
use Rattle.lawbase.specs.WellFormed.{Entries}
use Rattle.learning.proofs.Trail.{in_reverse, from_reverse}
use Rattle.learning.specs.FirstUip.{Conflict, FirstUip}
use Rattle.learning.proofs.Uip.{first_uip_law}
use Rattle.learning.proofs.Highest.{highest_first_law, headed_all, headed_only}
use Rattle.learning.specs.Minimise.{Minimisable}
use Rattle.learning.proofs.Minimise.{start_good}
use Rattle.learning.proofs.Analyzed.{minimisable}
use Rattle.watching.specs.Covered.{Tied}
use Rattle.mask.specs.Unmasked.{drop_redundant_unmasked, analyze_unmasked}
use Rattle.mask.specs.Traceable.{Traceable, Keeps}
use Rattle.mask.specs.Bits.{full}
use Rattle.mask.proofs.Full.{drop_full}
use Rattle.mask.proofs.Back.{Lets}
use Rattle.mask.specs.Left.{Left}
use Rattle.mask.proofs.Left.{left_same, left_exactly, drop_left}
use Rattle.mask.proofs.Levels.{full_lets, first_aside}
use Rattle.mask.proofs.OwnLevels.{own_lets}

-- ---- the literals behind the UIP

module _ (n : ℕ) (st : Store) (vs : VarState) (ls seen : List ℕ) (h : Minimisable n st vs ls seen) (tied : Every (Tied st.clauses vs) vs.trail) where
  abbrev t : List ℕ
  t = reverse vs.trail

  abbrev w : Entries n st.clauses vs t
  w = h.assignment.entries

  left : (mask : ℕ) → Lets n st vs t w ls mask → Left st vs ls ls (drop_redundant st vs mask [] ls seen)
  left mask lets =
      let r = drop_left n st vs t w ls mask lets ls (λ q i. (i, in_reverse vs.trail (h.falsified q i), h.above q i)) seen h.marks.sized
      (start_good n st vs ls seen h) h.marks.all [] in
      subst (Left st vs ls ls) (sym r.1) r.2

  pub own_left : Left st vs ls ls (drop_redundant st vs (abstract_levels vs 0 ls) [] ls seen)
  own_left = left (abstract_levels vs 0 ls) (own_lets n st vs t w ls (λ p i. tied p (from_reverse vs.trail i)))

  pub same_left : drop_redundant st vs (abstract_levels vs 0 ls) [] ls seen ≡ drop_redundant_unmasked st vs [] ls seen
  same_left = left_same own_left (left full (full_lets n st vs t w ls)) ∙ sym (drop_full vs st [] ls seen)

-- mode 2 of `minimize_conflict`, whatever the other modes do
mode_two : (mode : ℕ) → mode ≡ 2 → (st : Store) (vs : VarState) (ls seen : List ℕ)
    → minimize_conflict mode st vs ls seen ≡ drop_redundant st vs (abstract_levels vs 0 ls) [] ls seen
unfolding minimize_conflict
mode_two mode e st vs ls seen = rw (e, minimize_conflict)

-- ---- the clause

module _ (cfg : Config) (two : cfg.mode ≡ 2) (x : Solver) (confl : ℕ) (c : Conflict cfg.variables x.state.store x.state.vars confl)
    (tied : Every (Tied x.state.store.clauses x.state.vars) x.state.vars.trail) where
  abbrev pub st : Store
  st = x.state.store

  abbrev pub vs : VarState
  vs = x.state.vars

  abbrev r : Resolvent
  r = first_uip cfg x confl

  -- the clause before minimising, and its literals behind the UIP
  abbrev before : List ℕ
  before = r.learnt

  abbrev behind : List ℕ
  behind = drop 1 r.learnt

  ready : Minimisable cfg.variables st vs behind r.seen
  ready = minimisable cfg.variables st vs confl c r (first_uip_law cfg x confl c) cfg.mode

  -- with the mask and without it the same clause is learnt, the run goes back to the same level, and the activities are the same
  pub same_learnt : analyze cfg x confl ≡ analyze_unmasked cfg x confl
  unfolding analyze analyze_unmasked
  same_learnt =
      ap (λ (K : List ℕ).
      record { clause = get_or before 0 0 ∷ highest_first vs K; level = backtrack_level vs (highest_first vs K); activity = r.activity })
      (mode_two cfg.mode two st vs behind r.seen ∙ same_left cfg.variables st vs behind r.seen ready tied)

  abbrev f : FirstUip st vs confl before
  f = (first_uip_law cfg x confl c).first

  -- the UIP is of no help to trace a literal behind it
  uip_aside : (q : ℕ) → q ∈ behind → Traceable st vs before q ↔ Traceable st vs behind q
  uip_aside q i =
      let e : behind ≡ f.rest = ap (drop 1) f.learnt in
      let u : before ≡ neg f.uip ∷ behind = f.learnt ∙ ap (λ (K : List ℕ). neg f.uip ∷ K) (sym e) in
      let top : level_lit vs (neg f.uip) ≡ decision_level vs = rw var-neg f.uip_top in
      subst (λ (L : List ℕ). Traceable st vs L q ↔ Traceable st vs behind q) (sym u)
      (first_aside cfg.variables st vs (reverse vs.trail) c.assignment.entries behind (neg f.uip) q
      (in_reverse vs.trail (ready.falsified q i)) (omega (arith, f.below q (rw e at i), top)))

  pub keeps : Keeps x.state.store x.state.vars (first_uip cfg x confl).learnt (analyze cfg x confl).clause
  unfolding analyze
  keeps =
      let K = minimize_conflict cfg.mode st vs behind r.seen in
      let d = highest_first_law vs K in
      let m = mode_two cfg.mode two st vs behind r.seen in
      let exactly : (q : ℕ) → (q ∈ K) ↔ ((q ∈ behind) × (Traceable st vs behind q → ⊥)) =
      rw m (left_exactly (own_left cfg.variables st vs behind r.seen ready tied)) in
      record {
        first = refl;
        others = λ q. (
          λ i. let y = (exactly q).0 (headed_only d q i) in (y.0, λ z. y.1 ((uip_aside q y.0).0 z)),
          λ y. headed_all d q ((exactly q).1 (y.0, λ z. y.1 ((uip_aside q y.0).1 z))),
        );
      }
