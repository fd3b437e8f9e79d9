-- The start is a still state.
use Rattle.std.specs.Prelude.{ℕ, zero, suc, ◌+◌, ◌*◌, ◌≡◌, refl, true, List, [], length, replicate}
use Rattle.std.proofs.Common.{arith}
use Rattle.std.proofs.lemmas.List.{length-replicate}
use Rattle.region.specs.Table.{sum_of}
use Rattle.watch.specs.Count.{occ, over}
use Rattle.watch.specs.View.{Watches, Chains}
use Rattle.watch.specs.Meaning.{as_emptied}
use Rattle.model.specs.State.{initial_state}
use Rattle.lawbase.specs.WellFormed.{WellFormed}
use Rattle.assign.proofs.Initial.{initial_formed}
use Rattle.trail.specs.View.{Assignment}
use Rattle.scratch.specs.Row.{Row}
use Rattle.scratch.specs.declared.Scratch.{Scratch}
use Rattle.store.specs.View.{Clauses}
use Rattle.litset.specs.View.{Members}
use Rattle.state.specs.declared.Config.{Config}
use Rattle.state.specs.declared.State.{State}
use Rattle.state.specs.Still.{Has, config_of, state_at}
use Rattle.state.specs.Start.{Room}

-- blocks part by part
pub scratch_is : {x : Scratch} {marks : List ℕ} {buffer stack notes : Row} → x.marks ≡ marks → x.buffer ≡ buffer → x.stack ≡ stack → x.notes ≡ notes
    → x ≡ record { marks = marks; buffer = buffer; stack = stack; notes = notes }
scratch_is e f g h = rw (← e, ← f, ← g, ← h) refl

pub state_is : {g : Config} {t t' : Assignment} {c c' : Scratch} {w w' : Watches} {k k' : Clauses} {f f' : Members} → t ≡ t' → c ≡ c' → w ≡ w' → k ≡ k' → f ≡ f'
    → ◌≡◌ {A = State} (record { config = g; trail = t; scratch = c; watches = w; clauses = k; finals = f; qhead = 0; ok = true })
    (record { config = g; trail = t'; scratch = c'; watches = w'; clauses = k'; finals = f'; qhead = 0; ok = true })
state_is a b c d e = rw (a, b, c, d, e) refl

-- lists without a node
none : (f : List ℕ → ℕ) → f [] ≡ 0 → (n : ℕ) → sum_of f (replicate n []) ≡ 0
none f e zero = refl
none f e (suc n) = omega (arith, e, none f e n)

empty_chains : (m n : ℕ) → Chains m (replicate n [])
empty_chains m n = record { apart = λ y. omega (arith, none (occ y) refl n); under = none (over m) refl n }

-- a state of n variables whose blocks hold nothing
pub record Blank (g : Config) (s : State) : Type 0 where
  pub config : s.config ≡ g
  pub vars : s.trail.vars ≡ (initial_state g.vars).vars
  pub phases : s.trail.phases ≡ (initial_state g.vars).phases
  pub marks : s.scratch.marks ≡ replicate g.vars 0
  pub buffer : length s.scratch.buffer.cells ≡ 2 * g.vars
  pub stack : length s.scratch.stack.cells ≡ g.vars
  pub notes : length s.scratch.notes.cells ≡ g.vars
  pub lists : s.watches.lists ≡ replicate (2 * g.vars) []
  pub blockers : length s.watches.blockers ≡ 2 * g.room
  pub clauses : s.clauses.clauses ≡ []
  pub pushed : s.clauses.pushed ≡ []
  pub room : s.clauses.room ≡ g.room
  pub lit_room : s.clauses.lit_room ≡ g.lit_room
  pub final : s.finals.items ≡ []
  pub flags : length s.finals.flag_cells ≡ 2 * g.vars
  pub members : length s.finals.item_cells ≡ g.vars + 1
  pub qhead : s.qhead ≡ 0
  pub ok : s.ok ≡ true

module _ (g : Config) (s : State) (b : Blank g s) (n : ℕ) (r : Room g n) where
  blank_state : state_at s ≡ initial_state g.vars
  unfolding initial_state
  blank_state = rw (b.ok, b.clauses, as_emptied (2 * g.vars) s.watches b.lists, b.vars, b.phases, b.qhead)

  pub blank_has : Has s (initial_state g.vars)
  blank_has =
      let f : WellFormed (config_of s.config) (state_at s) = rw (blank_state, b.config) (initial_formed (config_of g)) in
      record {
        still =
            record {
              sized =
                  record {
                    some = rw b.config r.some;
                    vars = rw b.config r.vars;
                    room = rw b.config r.room;
                    lit_room = rw b.config r.lit_room;
                    values = f.vars.values;
                    marks = rw (b.marks, b.config) (length-replicate g.vars 0);
                    buffer = rw b.config b.buffer;
                    stack = rw b.config b.stack;
                    notes = rw b.config b.notes;
                    lists = rw (b.lists, b.config) (length-replicate (2 * g.vars) []);
                    blockers = rw b.config b.blockers;
                    chains = rw b.lists (empty_chains (2 * s.config.room) (2 * g.vars));
                    clauses = rw b.config b.room;
                    literals = rw b.config b.lit_room;
                    flags = rw b.config b.flags;
                    members = rw b.config b.members;
                  };
              idle =
                  record {
                    marks = rw b.config b.marks;
                    final = b.final;
                    pushed = b.pushed;
                    nodes = rw (b.lists, b.clauses) (empty_chains 0 (2 * g.vars)).under;
                  };
              formed = f;
            };
        state = blank_state;
      }
