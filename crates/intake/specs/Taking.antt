-- What is kept of a clause is taken: no literal, one, or a clause to store.
use Rattle.std.specs.Prelude.{ℕ, ◌+◌, ◌*◌, ◌≤◌, ◌<◌, ◌≡◌, refl, Bool, true, false, ◌&&◌, List, [], ◌∷◌, length, get_or, replicate, ltb, leb}
use Rattle.std.proofs.Common.{arith, sym, ap, ◌∙◌, length-set}
use Rattle.model.specs.Lit.{no_reason}
use Rattle.model.specs.Script as Script
use Rattle.model.specs.State as model
use Rattle.model.specs.Store.{stored_literals, has_room, attach_clause}
use Rattle.model.specs.Trail.{unchecked_enqueue}
use Rattle.model.specs.Intake as intake
use Rattle.model.specs.Intake.{add_kept}
use Rattle.watching.proofs.Store.{room}
use Rattle.store.specs.Laws.{room_is}
use Rattle.trail.specs.View.{Assignment, enqueued}
use Rattle.state.specs.declared.State.{State}
use Rattle.state.specs.Still.{config_of, state_at, Sized, Idle}
use Rattle.intake.specs.declared.Answer.{Answer}
use Rattle.intake.specs.Storing.{Storable, Added}

-- the answer's cell
abbrev pub answer_of : Answer → ℕ
answer_of Answer.NoModel = 0
answer_of Answer.Taken = 1
answer_of Answer.NoStorage = 2

-- the buffer's literals are of variables, and where there is one, the trail has room for it
pub record Takeable (s : State) : Type 0 where
  pub sized : Sized s
  pub idle : Idle s
  pub low : (k : ℕ) → k < length s.scratch.buffer.items → get_or s.scratch.buffer.items k 0 < 2 * s.config.vars
  pub unit : length s.scratch.buffer.items ≡ 1 → length s.trail.vars.trail < s.config.vars

abbrev pub kept_in : State → intake.Taken
kept_in s = add_kept (config_of s.config) (state_at s) s.scratch.buffer.items

-- the blocks hold what the definition makes of the buffer's literals, and nothing is half done
pub record Took (s s' : State) (r : Answer) : Type 0 where
  pub config : s'.config ≡ s.config
  pub sized : Sized s'
  pub idle : Idle s'
  pub state : state_at s' ≡ (kept_in s).state
  pub answer : answer_of r ≡ (kept_in s).answer

abbrev room_for : Bool → model.State → List ℕ → intake.Taken
room_for b s l =
    elim b [
      | true ↦ record { state = model.with_store s (attach_clause s.store l); answer = 1 }
      | false ↦ record { state = s; answer = 2 }
    ]

kept_none : (cfg : Script.Config) (s : model.State) (l : List ℕ) → length l ≡ 0 → add_kept cfg s l ≡ record { state = model.with_ok s false; answer = 0 }
unfolding add_kept
kept_none cfg s [] e = refl
kept_none cfg s (x ∷ l) e = absurd (omega arith)

kept_one : (cfg : Script.Config) (s : model.State) (l : List ℕ) → length l ≡ 1
    → add_kept cfg s l ≡ record { state = model.with_vars s (unchecked_enqueue s.vars (get_or l 0 0) no_reason); answer = 1 }
unfolding add_kept
kept_one cfg s [] e = absurd (omega arith)
kept_one cfg s (x ∷ []) e = refl
kept_one cfg s (x ∷ y ∷ l) e = absurd (omega arith)

kept_long : (cfg : Script.Config) (s : model.State) (l : List ℕ) (b : Bool) → 2 ≤ length l → has_room cfg s.store l ≡ b → add_kept cfg s l ≡ room_for b s l
unfolding add_kept
kept_long cfg s [] b g e = absurd (omega arith)
kept_long cfg s (x ∷ []) b g e = absurd (omega arith)
kept_long cfg s (x ∷ y ∷ l) b g e = rw (e, add_kept)

-- with a as the trail
abbrev pub with_trail : State → Assignment → State
with_trail s a =
    record { config = s.config; trail = a; scratch = s.scratch; watches = s.watches; clauses = s.clauses; finals = s.finals; qhead = s.qhead; ok = s.ok }

-- with `ok` as it says
abbrev pub with_ok : State → Bool → State
with_ok s b =
    record { config = s.config; trail = s.trail; scratch = s.scratch; watches = s.watches; clauses = s.clauses; finals = s.finals; qhead = s.qhead; ok = b }

module _ (s : State) (t : Takeable s) where
  same_idle : (s' : State) → s'.config ≡ s.config → s'.scratch ≡ s.scratch → s'.finals ≡ s.finals → s'.clauses ≡ s.clauses → s'.watches ≡ s.watches → Idle s'
  same_idle s' c x f k w = record { marks = rw (c, x) t.idle.marks; final = rw f t.idle.final; pushed = rw k t.idle.pushed; nodes = rw (k, w) t.idle.nodes }

  -- no literal
  pub took_none : length s.scratch.buffer.items ≡ 0 → Took s (with_ok s false) Answer.NoModel
  took_none e =
      let k = kept_none (config_of s.config) (state_at s) s.scratch.buffer.items e in
      record {
        config = refl;
        sized =
            record {
              some = t.sized.some;
              vars = t.sized.vars;
              room = t.sized.room;
              lit_room = t.sized.lit_room;
              values = t.sized.values;
              marks = t.sized.marks;
              buffer = t.sized.buffer;
              stack = t.sized.stack;
              notes = t.sized.notes;
              lists = t.sized.lists;
              blockers = t.sized.blockers;
              chains = t.sized.chains;
              clauses = t.sized.clauses;
              literals = t.sized.literals;
              flags = t.sized.flags;
              members = t.sized.members;
            };
        idle = same_idle (with_ok s false) refl refl refl refl refl;
        state = rw k refl;
        answer = rw k refl;
      }

  -- one
  values_length : (p : ℕ) → length (enqueued s.trail p no_reason).vars.values ≡ length s.trail.vars.values
  unfolding unchecked_enqueue
  values_length p = rw length-set refl

  pub took_unit : (p : ℕ) → length s.scratch.buffer.items ≡ 1 → p ≡ get_or s.scratch.buffer.items 0 0 → Took s (with_trail s (enqueued s.trail p no_reason)) Answer.Taken
  took_unit p e q =
      let k = kept_one (config_of s.config) (state_at s) s.scratch.buffer.items e in
      record {
        config = refl;
        sized =
            record {
              some = t.sized.some;
              vars = t.sized.vars;
              room = t.sized.room;
              lit_room = t.sized.lit_room;
              values = values_length p ∙ t.sized.values;
              marks = t.sized.marks;
              buffer = t.sized.buffer;
              stack = t.sized.stack;
              notes = t.sized.notes;
              lists = t.sized.lists;
              blockers = t.sized.blockers;
              chains = t.sized.chains;
              clauses = t.sized.clauses;
              literals = t.sized.literals;
              flags = t.sized.flags;
              members = t.sized.members;
            };
        idle = same_idle (with_trail s (enqueued s.trail p no_reason)) refl refl refl refl refl;
        state = rw (k, q) refl;
        answer = rw k refl;
      }

  -- more
  module _ (two : 2 ≤ length s.scratch.buffer.items) (n : ℕ) (en : n ≡ length s.scratch.buffer.items) (b : Bool)
      (eb : b ≡ (ltb (length s.clauses.clauses) s.clauses.room && leb (stored_literals s.clauses.clauses + n) s.clauses.lit_room)) where
    roomy : has_room (config_of s.config) (state_at s).store s.scratch.buffer.items ≡ b
    roomy = room_is (config_of s.config) (state_at s).store s.clauses s.scratch.buffer.items refl (sym t.sized.clauses) (sym t.sized.literals) ∙ rw en at (sym eb)

    kept_is : kept_in s ≡ room_for b (state_at s) s.scratch.buffer.items
    kept_is = kept_long (config_of s.config) (state_at s) s.scratch.buffer.items b two roomy

    pub took_full : b ≡ false → Took s s Answer.NoStorage
    took_full e =
        let k = rw e at kept_is in
        record { config = refl; sized = t.sized; idle = t.idle; state = rw k refl; answer = rw k refl }

    pub took_storable : b ≡ true → Storable s
    took_storable e =
        let r = room (config_of s.config) (state_at s).store s.scratch.buffer.items (roomy ∙ e) in
        record {
          sized = t.sized;
          fresh = record { under = t.idle.nodes };
          none = t.idle.pushed;
          room = r.clauses;
          literals = r.literals;
          two = two;
          first = t.low 0 (omega arith);
          second = t.low 1 (omega arith);
        }

    pub took_stored : {s' : State} → b ≡ true → Added s s' → Took s s' Answer.Taken
    took_stored {s'} e a =
        let k = rw e at kept_is in
        record {
          config = ap (λ (x : State). x.config) a.is;
          sized = a.sized;
          idle =
              record {
                marks = ap (λ (x : State). x.scratch.marks) a.is ∙ t.idle.marks ∙ ap (λ (x : State). replicate x.config.vars 0) (sym a.is);
                final = ap (λ (x : State). x.finals.items) a.is ∙ t.idle.final;
                pushed = ap (λ (x : State). x.clauses.pushed) a.is;
                nodes = a.fresh.under;
              };
          state = rw k a.state;
          answer = rw k refl;
        }
