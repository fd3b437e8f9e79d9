-- A clause is sorted, simplified and taken.
use Rattle.std.specs.Prelude.{ℕ, ◌*◌, ◌≤◌, ◌<◌, ◌≡◌, refl, Bool, true, false, List, [], length, get_or, Option, None as none, Some as some}
use Rattle.std.proofs.Common.{arith, sym, ap, ◌∙◌}
use Rattle.model.specs.Lit.{undef_lit}
use Rattle.model.specs.Script as Script
use Rattle.model.specs.State as model
use Rattle.model.specs.State.{decision_level}
use Rattle.model.specs.Intake as intake
use Rattle.model.specs.Intake.{sort, simplify, add_kept, add_clause}
use Rattle.lawbase.specs.Basics.{Every}
use Rattle.lawbase.specs.WellFormed.{WellFormed}
use Rattle.assign.proofs.Lists.{get_or_in}
use Rattle.assign.proofs.Reading.{trail_room}
use Rattle.watching.proofs.Sort.{sort_every}
use Rattle.watching.specs.Intake.{Residue}
use Rattle.watching.proofs.Intake.{reduced}
use Rattle.scratch.specs.Row.{Row}
use Rattle.scratch.specs.View.{with_buffer}
use Rattle.state.specs.declared.State.{State}
use Rattle.state.specs.Still.{config_of, state_at, Sized, Idle, Still, Has}
use Rattle.intake.specs.declared.Answer.{Answer}
use Rattle.intake.specs.Sorting.{Sorts}
use Rattle.intake.specs.Simplifying.{Simplifiable, Simplified}
use Rattle.intake.specs.Formed.{residue_of, left_unset, add_clause_formed}
use Rattle.intake.specs.Taking.{Takeable, Took, answer_of}

-- ---- the cases of `add_clause`

abbrev chosen : Bool → Option (List ℕ) → Script.Config → model.State → intake.Taken
chosen b o cfg s =
    elim b [
      | false ↦ record { state = s; answer = 0 }
      | true ↦ elim o [ none ↦ record { state = s; answer = 1 } | some kept ↦ add_kept cfg s kept ]
    ]

module _ (cfg : Script.Config) (s : model.State) (c : List ℕ) where
  add_is : add_clause cfg s c ≡ chosen s.ok (simplify s.vars.values undef_lit [] (sort c)) cfg s
  unfolding add_clause
  add_is = refl

  add_closed : s.ok ≡ false → add_clause cfg s c ≡ record { state = s; answer = 0 }
  add_closed e = add_is ∙ ap (λ (b : Bool). chosen b (simplify s.vars.values undef_lit [] (sort c)) cfg s) e

  add_open : s.ok ≡ true → (o : Option (List ℕ)) → simplify s.vars.values undef_lit [] (sort c) ≡ o → add_clause cfg s c ≡ chosen true o cfg s
  add_open e o q =
      add_is
      ∙ ap (λ (b : Bool). chosen b (simplify s.vars.values undef_lit [] (sort c)) cfg s) e
      ∙ ap (λ (r : Option (List ℕ)). chosen true r cfg s) q

-- ---- the state but for its buffer

-- with b as the buffer
abbrev pub with_row : State → Row → State
with_row s b =
    record { config = s.config; trail = s.trail; scratch = with_buffer s.scratch b; watches = s.watches; clauses = s.clauses; finals = s.finals; qhead = s.qhead; ok = s.ok }

row_sized : (s : State) (b : Row) → Sized s → length b.cells ≡ length s.scratch.buffer.cells → Sized (with_row s b)
row_sized s b k e =
    record {
      some = k.some;
      vars = k.vars;
      room = k.room;
      lit_room = k.lit_room;
      values = k.values;
      marks = k.marks;
      buffer = e ∙ k.buffer;
      stack = k.stack;
      notes = k.notes;
      lists = k.lists;
      blockers = k.blockers;
      chains = k.chains;
      clauses = k.clauses;
      literals = k.literals;
      flags = k.flags;
      members = k.members;
    }

row_idle : (s : State) (b : Row) → Idle s → Idle (with_row s b)
row_idle s b k = record { marks = k.marks; final = k.final; pushed = k.pushed; nodes = k.nodes }

-- what `add_clause` promises
pub record Adds (s s' : State) (part : List ℕ) (r : Answer) : Type 0 where
  pub has : Has s' (add_clause (config_of s.config) (state_at s) part).state
  pub answer : answer_of r ≡ (add_clause (config_of s.config) (state_at s) part).answer
  pub config : s'.config ≡ s.config

module _ (s : State) (st : Still s) (base : decision_level s.trail.vars ≡ 0) (part : List ℕ) (range : Every (λ x. x < 2 * s.config.vars) part) where
  small : 2 * s.config.vars ≤ undef_lit
  small = omega (arith, st.sized.vars)

  finish : (s' : State) (r : Answer) (t : intake.Taken) → add_clause (config_of s.config) (state_at s) part ≡ t → s'.config ≡ s.config → Sized s' → Idle s'
      → state_at s' ≡ t.state → answer_of r ≡ t.answer → Adds s s' part r
  finish s' r t e c sized idle es ea =
      let q : state_at s' ≡ (add_clause (config_of s.config) (state_at s) part).state = es ∙ ap (λ (x : intake.Taken). x.state) (sym e) in
      let f : WellFormed (config_of s'.config) (state_at s') = rw (q, c) (add_clause_formed st.formed part range base small) in
      record { has = record { still = record { sized = sized; idle = idle; formed = f }; state = q }; answer = ea ∙ ap (λ (x : intake.Taken). x.answer) (sym e); config = c }

  pub adds_closed : s.ok ≡ false → Adds s s part Answer.NoModel
  adds_closed e = finish s Answer.NoModel (record { state = state_at s; answer = 0 }) (add_closed (config_of s.config) (state_at s) part e) refl st.sized st.idle refl refl

  -- the part is sorted into the buffer
  module _ {b₁ : Row} (q : Sorts s.scratch.buffer b₁ part) where
    pub sorted_simplifiable : Simplifiable s.trail b₁
    sorted_simplifiable = rw (q.items, st.sized.values) (sort_every (λ x. x < 2 * s.config.vars) part range)

    -- and simplified there
    module _ (ok : s.ok ≡ true) {b₂ : Row} {r : Bool} (k : Simplified s.trail b₁ b₂ r) where
      sized : Sized (with_row s b₂)
      sized = row_sized s b₂ st.sized (k.cells ∙ q.cells)

      pub adds_dropped : r ≡ false → Adds s (with_row s b₂) part Answer.Taken
      adds_dropped e =
          let d : simplify s.trail.vars.values undef_lit [] (sort part) ≡ none = rw (q.items, e) at k.outcome in
          finish (with_row s b₂) Answer.Taken (record { state = state_at s; answer = 1 }) (add_open (config_of s.config) (state_at s) part ok none d) refl sized (row_idle s b₂ st.idle) refl refl

      -- some literals are kept
      module _ (e : r ≡ true) where
        is_left : simplify s.trail.vars.values undef_lit [] (sort part) ≡ some b₂.items
        is_left = rw (q.items, e) at k.outcome

        residue : Residue s.trail.vars.values part b₂.items
        residue = residue_of (reduced s.config.vars s.trail.vars.values part small range) is_left

        inside : (i : ℕ) → i < length b₂.items → get_or b₂.items i 0 < 2 * s.config.vars
        inside i l = let m = get_or_in b₂.items i 0 l in range (get_or b₂.items i 0) (residue.among (get_or b₂.items i 0) m)

        pub left_takeable : Takeable (with_row s b₂)
        left_takeable =
            record {
              sized = sized;
              idle = row_idle s b₂ st.idle;
              low = inside;
              unit = λ z.
                  let p = get_or b₂.items 0 0 in
                  let m = get_or_in b₂.items 0 0 (omega (arith, z)) in
                  trail_room st.formed.vars p (inside 0 (omega (arith, z))) (left_unset st.formed part range residue p m);
            }

        pub adds_left : {s' : State} {a : Answer} → Took (with_row s b₂) s' a → Adds s s' part a
        adds_left {s'} {a} t =
            finish s' a (add_kept (config_of s.config) (state_at s) b₂.items) (add_open (config_of s.config) (state_at s) part ok (some b₂.items) is_left) t.config t.sized t.idle t.state t.answer
