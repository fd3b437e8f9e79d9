-- Rule 6: the levels of the assumptions, and the pick behind them.
use Rattle.std.specs.Prelude.{ℕ, suc, ◌+◌, ◌*◌, ◌≤◌, ◌<◌, ◌≡◌, refl, ◌≢◌, true, false, List, [], ◌∷◌, length, get_or, drop, replicate, Float, Option}
use Rattle.std.specs.Prelude.{None as none, Some as some}
use Rattle.std.proofs.Common.{arith, add-one, sym, ap, ◌∙◌, drop-cons, eq-eqb, ne_eqb}
use Rattle.std.proofs.Math.Seq.{length-sets}
use Rattle.std.proofs.lemmas.List.{length-replicate}
use Rattle.model.specs.Lit.{var, neg, no_reason, l_true, l_false, value_lit, is_false}
use Rattle.model.specs.State as model
use Rattle.model.specs.State.{decision_level, with_vars}
use Rattle.model.specs.Trail.{new_decision_level}
use Rattle.model.specs.Final.{analyze_final}
use Rattle.model.specs.Decide as definition
use Rattle.model.specs.Decide.{pick, pick_branch_lit, open_level, assume, decide}
use Rattle.lawbase.specs.Basics.{◌∈◌, Every, var_range}
use Rattle.lawbase.specs.WellFormed.{WellFormed}
use Rattle.assign.proofs.Lists.{get_or_in}
use Rattle.assign.proofs.Reading.{on_is_false, trail_room}
use Rattle.assign.proofs.Level.{level_more}
use Rattle.assign.specs.Levels.{Levels}
use Rattle.assign.proofs.Levels.{levels_empty, levels_trail}
use Rattle.assign.specs.Pick.{Free}
use Rattle.assign.proofs.Pick.{branch_some}
use Rattle.assign.proofs.Decide.{opened-empty, open_formed}
use Rattle.activity.specs.Pick.{pick-unset}
use Rattle.clause.specs.declared.Lit.{Lit}
use Rattle.trail.specs.View.{Assignment, enqueued, next_level}
use Rattle.watch.specs.View.{Under}
use Rattle.litset.specs.View.{Members, emptied, with_items}
use Rattle.state.specs.declared.Config.{Config}
use Rattle.state.specs.declared.State.{State}
use Rattle.state.specs.Still.{config_of, state_at, Sized, Still, Has, Beside}
use Rattle.decide.specs.declared.Decision.{Decision}
use Rattle.decide.specs.declared.Decision.TheVariants.{Decided, Complete, Failed}
use Rattle.decide.specs.Blaming.{flagged-length}
use Rattle.decide.specs.Final.{Explained, traced}

-- ---- the answers

abbrev pub branch_of : Option Lit → Option ℕ
branch_of (some p) = some p.0
branch_of none = none

-- the definition's decision, with the state s after it
abbrev pub decision_of : Decision → State → definition.Decision
decision_of Decided s = definition.decided (state_at s)
decision_of Complete s = definition.complete (state_at s)
decision_of Failed s = definition.failed (state_at s) s.finals.items

-- as between two steps, but for a final clause
pub record Ended (s : State) : Type 0 where
  pub sized : Sized s
  pub marks : s.scratch.marks ≡ replicate s.config.vars 0
  pub pushed : s.clauses.pushed ≡ []
  pub nodes : Under (2 * length s.clauses.clauses) s.watches.lists
  pub formed : WellFormed (config_of s.config) (state_at s)

-- nothing is half done, but for the final clause after a failure
abbrev pub Settled : Decision → State → State → Type 0
Settled Decided s s' = Still s' × (s'.finals ≡ s.finals)
Settled Complete s s' = Still s' × (s'.finals ≡ s.finals)
Settled Failed s s' = Ended s' × (s'.finals ≡ with_items s.finals s'.finals.items)

-- what a decision leaves as it was
pub record Same (s s' : State) : Type 0 where
  pub config : s'.config ≡ s.config
  pub scratch : s'.scratch ≡ s.scratch
  pub watches : s'.watches ≡ s.watches
  pub clauses : s'.clauses ≡ s.clauses

-- the code's decision r, with s' after it, is the definition's m
pub record Decides (m : definition.Decision) (s s' : State) (r : Decision) : Type 0 where
  pub is : decision_of r s' ≡ m
  pub settled : Settled r s s'
  pub same : Same s s'

-- as large, with another trail and another final clause
sized_with : (s : State) → Sized s → (t : Assignment) → length t.vars.values ≡ s.config.vars
    → (f : Members) → length f.flag_cells ≡ length s.finals.flag_cells → length f.item_cells ≡ length s.finals.item_cells
    → Sized (record { config = s.config; trail = t; scratch = s.scratch; watches = s.watches; clauses = s.clauses; finals = f; qhead = s.qhead; ok = s.ok })
sized_with s z t values f flags members =
    record {
      some = z.some;
      vars = z.vars;
      room = z.room;
      lit_room = z.lit_room;
      values = values;
      marks = z.marks;
      buffer = z.buffer;
      stack = z.stack;
      notes = z.notes;
      lists = z.lists;
      blockers = z.blockers;
      chains = z.chains;
      clauses = z.clauses;
      literals = z.literals;
      flags = flags ∙ z.flags;
      members = members ∙ z.members;
    }

-- when the final clause is cleared, nothing is half done
pub ended_cleared : {s : State} → Ended s → Has (traced s s.scratch.marks (emptied (length s.finals.flag_cells) s.finals)) (state_at s)
ended_cleared {s} e =
    record {
      still =
          record {
            sized = sized_with s e.sized s.trail e.sized.values (emptied (length s.finals.flag_cells) s.finals) (length-replicate (length s.finals.flag_cells) 0) refl;
            idle = record { marks = e.marks; final = refl; pushed = e.pushed; nodes = e.nodes };
            formed = e.formed;
          };
      state = refl;
    }

-- ---- the assignment changed

-- s with another trail
abbrev pub moved : State → Assignment → State
moved s t =
    record { config = s.config; trail = t; scratch = s.scratch; watches = s.watches; clauses = s.clauses; finals = s.finals; qhead = s.qhead; ok = s.ok }

module _ {s : State} (k : Still s) where
  still_moved : (t : Assignment) → WellFormed (config_of s.config) (state_at (moved s t)) → Still (moved s t)
  still_moved t f =
      record {
        sized = sized_with s k.sized t f.vars.values s.finals refl refl;
        idle = record { marks = k.idle.marks; final = k.idle.final; pushed = k.idle.pushed; nodes = k.idle.nodes };
        formed = f;
      }

  -- an empty level
  pub level_has : Has (moved s (next_level s.trail)) (with_vars (state_at s) (new_decision_level s.trail.vars))
  level_has = record { still = still_moved (next_level s.trail) (opened-empty k.formed); state = refl }

  -- a level with its decision
  module _ {p : ℕ} (f : Free s.config.vars (state_at s) p) where
    pub open_var : var p < length (next_level s.trail).vars.values
    unfolding new_decision_level
    open_var = omega (arith, var_range p s.config.vars f.range, k.sized.values)

    pub open_room : length (next_level s.trail).vars.trail < length (next_level s.trail).vars.values
    unfolding new_decision_level
    open_room = omega (arith, trail_room k.formed.vars p f.range f.unset, k.sized.values)

    pub open_has : Has (moved s (enqueued (next_level s.trail) p no_reason)) (open_level (state_at s) p)
    unfolding open_level
    open_has = record { still = still_moved (enqueued (next_level s.trail) p no_reason) (open_formed k.formed p f); state = refl }

  -- ---- the pick

  module _ (act : List Float) where
    pub picks_none : none ≡ pick act none 0 s.trail.vars.values → none ≡ pick_branch_lit act (state_at s)
    unfolding pick_branch_lit
    picks_none e = rw (sym e, pick_branch_lit) refl

    module _ {v : ℕ} (e : some v ≡ pick act none 0 s.trail.vars.values) where
      pub picked_low : v < length s.trail.vars.values
      picked_low = (pick-unset act s.trail.vars.values v (sym e)).0

      pub picked_fits : v < 2147483648
      picked_fits = omega (arith, picked_low, k.sized.values, k.sized.vars)

      pub picks_some : some (2 * v + get_or s.trail.phases v 0) ≡ pick_branch_lit act (state_at s)
      unfolding pick_branch_lit
      picks_some = rw (sym e, pick_branch_lit) refl

      pub phase_low : get_or s.trail.phases v 0 < 2
      phase_low = k.formed.signs (get_or s.trail.phases v 0) (get_or_in s.trail.phases v 0 (omega (arith, picked_low, k.sized.values, k.formed.phases)))

    -- what comes of it
    pub branch_complete : none ≡ pick_branch_lit act (state_at s) → Decides (assume act [] (state_at s)) s s Complete
    unfolding assume
    branch_complete e =
        record {
          is = rw (sym e, assume) refl;
          settled = (k, refl);
          same = record { config = refl; scratch = refl; watches = refl; clauses = refl };
        }

    module _ {p : ℕ} (e : some p ≡ pick_branch_lit act (state_at s)) where
      pub branch_free : Free s.config.vars (state_at s) p
      branch_free = branch_some k.formed act p (sym e)

      pub branch_shallow : decision_level s.trail.vars ≤ 2 * s.config.vars + length s.trail.vars.trail → decision_level s.trail.vars < 3 * s.config.vars
      branch_shallow b = omega (arith, trail_room k.formed.vars p branch_free.range branch_free.unset)

      pub branch_decides : {s' : State} → Has s' (open_level (state_at s) p) → Beside s s' → (s'.watches ≡ s.watches) × (s'.clauses ≡ s.clauses)
          → Decides (assume act [] (state_at s)) s s' Decided
      unfolding assume
      branch_decides h b q =
          record {
            is = rw (sym e, assume) (ap definition.decided h.state);
            settled = (h.still, b.finals);
            same = record { config = b.config; scratch = b.scratch; watches = q.0; clauses = q.1 };
          }

-- ---- an assumption

-- one that is not true: it is false, or decided on
unfoldable pub taken_up : model.State → ℕ → definition.Decision
taken_up s p = elim (is_false s.vars.values p) [ true ↦ definition.failed s (analyze_final s.store s.vars (neg p)) | false ↦ definition.decided (open_level s p) ]

module _ (act : List Float) (p : ℕ) (ps : List ℕ) (s : model.State) where
  assume_true : value_lit s.vars.values p ≡ 0 → assume act (p ∷ ps) s ≡ assume act ps (with_vars s (new_decision_level s.vars))
  unfolding assume
  assume_true e = rw (eq-eqb (value_lit s.vars.values p) l_true e, assume)

  assume_other : value_lit s.vars.values p ≢ 0 → assume act (p ∷ ps) s ≡ taken_up s p
  unfolding assume taken_up
  assume_other ne = rw (ne_eqb (value_lit s.vars.values p) l_true ne, assume)

module _ {s : State} (k : Still s) {p : ℕ} (b : p < 2 * s.config.vars) where
  pub falls_on : value_lit s.trail.vars.values p ≡ 1 → neg p ∈ s.trail.vars.trail
  falls_on e = on_is_false k.formed.vars p b (eq-eqb (value_lit s.trail.vars.values p) l_false e)

  pub falls : {s' : State} → value_lit s.trail.vars.values p ≡ 1 → Explained s s' (neg p) → Decides (taken_up (state_at s) p) s s' Failed
  unfolding taken_up
  falls e q =
      let c : List ℕ = analyze_final (state_at s).store s.trail.vars (neg p) in
      rw q
      (record {
        is = rw (eq-eqb (value_lit s.trail.vars.values p) l_false e, taken_up) refl;
        settled = (
          record {
            sized = sized_with s k.sized s.trail k.sized.values (with_items s.finals c) (flagged-length s.finals.flag_cells c) (length-sets s.finals.item_cells 0 c);
            marks = k.idle.marks;
            pushed = k.idle.pushed;
            nodes = k.idle.nodes;
            formed = k.formed;
          },
          refl,
        );
        same = record { config = refl; scratch = refl; watches = refl; clauses = refl };
      })

  pub opens : {s' : State} → value_lit s.trail.vars.values p ≢ 1 → Has s' (open_level (state_at s) p) → Beside s s' → (s'.watches ≡ s.watches) × (s'.clauses ≡ s.clauses)
      → Decides (taken_up (state_at s) p) s s' Decided
  unfolding taken_up
  opens ne h a q =
      record {
        is = rw (ne_eqb (value_lit s.trail.vars.values p) l_false ne, taken_up) (ap definition.decided h.state);
        settled = (h.still, a.finals);
        same = record { config = a.config; scratch = a.scratch; watches = q.0; clauses = q.1 };
      }

-- ---- the levels of the assumptions

-- from s the first k assumptions have their levels in s'
pub record Assuming (act : List Float) (ps : List ℕ) (s : State) (k : ℕ) (s' : State) : Type 0 where
  pub still : Still s'
  pub levels : Levels (length ps) s'.trail.vars
  pub count : k ≡ decision_level s'.trail.vars
  pub result : assume act (drop k ps) (state_at s') ≡ decide act ps (state_at s)
  pub finals : s'.finals ≡ s.finals
  pub same : Same s s'

pub assuming_starts : {act : List Float} {ps : List ℕ} {s : State} → Still s → Levels (length ps) s.trail.vars
    → {k : ℕ} → k ≡ decision_level s.trail.vars → Assuming act ps s k s
unfolding decide
assuming_starts {act} {ps} {s} h l e =
    record {
      still = h;
      levels = l;
      count = e;
      result = ap (λ (j : ℕ). assume act (drop j ps) (state_at s)) e;
      finals = refl;
      same = record { config = refl; scratch = refl; watches = refl; clauses = refl };
    }

module _ {act : List Float} {ps : List ℕ} {s : State} {k : ℕ} {s' : State} (i : Assuming act ps s k s') where
  settled_then : (r : Decision) (s'' : State) → Settled r s' s'' → Settled r s s''
  settled_then Decided s'' x = (x.0, x.1 ∙ i.finals)
  settled_then Complete s'' x = (x.0, x.1 ∙ i.finals)
  settled_then Failed s'' x = (x.0, x.1 ∙ ap (λ (f : Members). with_items f s''.finals.items) i.finals)

  same_then : {s'' : State} → Same s' s'' → Same s s''
  same_then q =
      record {
        config = q.config ∙ i.same.config;
        scratch = q.scratch ∙ i.same.scratch;
        watches = q.watches ∙ i.same.watches;
        clauses = q.clauses ∙ i.same.clauses;
      }

  decides_then : {m : definition.Decision} {r : Decision} {s'' : State} → m ≡ decide act ps (state_at s) → Decides m s' s'' r → Decides (decide act ps (state_at s)) s s'' r
  decides_then {r = r} {s'' = s''} e q = record { is = q.is ∙ e; settled = settled_then r s'' q.settled; same = same_then q.same }

  -- the one next in turn
  module _ (b : k < length ps) where
    abbrev p : ℕ
    p = get_or ps k 0

    pub assuming_range : Every (λ q. q < 2 * s.config.vars) ps → get_or ps k 0 < 2 * s'.config.vars
    assuming_range range = rw i.same.config (range (get_or ps k 0) (get_or_in ps k 0 b))

    here_is : assume act (p ∷ drop (suc k) ps) (state_at s') ≡ decide act ps (state_at s)
    here_is = ap (λ (l : List ℕ). assume act l (state_at s')) (sym (drop-cons ps k 0 b)) ∙ i.result

    pub assuming_var : Every (λ q. q < 2 * s.config.vars) ps → var (get_or ps k 0) < length s'.trail.vars.values
    assuming_var range = omega (arith, assuming_range range, i.still.sized.values)

    -- it is true
    pub assuming_turns : {x : ℕ} → x ≡ value_lit s'.trail.vars.values (get_or ps k 0) → x ≡ 0 → Assuming act ps s (k + 1) (moved s' (next_level s'.trail))
    assuming_turns e z =
        let m = level_more s'.trail.vars in
        let h = level_has i.still in
        record {
          still = h.still;
          levels = levels_empty (length ps) s'.trail.vars (omega (arith, i.count)) i.levels;
          count = omega (arith, i.count);
          result = rw add-one (sym (assume_true act p (drop (suc k) ps) (state_at s') (sym e ∙ z)) ∙ here_is);
          finals = i.finals;
          same = record { config = i.same.config; scratch = i.same.scratch; watches = i.same.watches; clauses = i.same.clauses };
        }

    -- it is not
    pub assuming_stops : {x : ℕ} → x ≡ value_lit s'.trail.vars.values (get_or ps k 0) → x ≢ 0 → {r : Decision} {s'' : State}
        → Decides (taken_up (state_at s') (get_or ps k 0)) s' s'' r
        → Decides (decide act ps (state_at s)) s s'' r
    assuming_stops e ne q = decides_then (sym (assume_other act p (drop (suc k) ps) (state_at s') (λ z. ne (e ∙ z))) ∙ here_is) q

  -- all have their levels
  module _ (short : length ps ≤ 2 * s.config.vars) (b : length ps ≤ k) where
    pub assuming_bound : decision_level s'.trail.vars ≤ 2 * s'.config.vars + length s'.trail.vars.trail
    assuming_bound = omega (arith, levels_trail i.still.formed.vars (length ps) i.levels, ap (λ (g : Config). g.vars) i.same.config)
