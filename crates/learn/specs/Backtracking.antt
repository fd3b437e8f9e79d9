-- Going back, and the learnt clause's first literal set.
use Rattle.std.specs.Prelude.{ℕ, ◌+◌, ◌*◌, ◌≤◌, ◌<◌, ◌≡◌, refl, ◌≢◌, Bool, true, false, ◌&&◌, List, [], ◌∷◌, length, get_or, drop, ltb, leb}
use Rattle.std.proofs.Common.{arith, sym, ap, ◌∙◌, subst, true≢false}
use borrow.Author.Tests.{ltb-true, leb-true}
use Rattle.model.specs.Lit.{var, no_reason}
use Rattle.model.specs.State as ms
use Rattle.model.specs.State.{Store}
use Rattle.model.specs.Store.{stored_literals, has_room, attach_clause}
use Rattle.model.specs.Trail.{unchecked_enqueue, cancel_until}
use Rattle.lawbase.specs.Basics.{var_range}
use Rattle.lawbase.specs.WellFormed.{WellFormed, Proper}
use Rattle.assign.proofs.Lists.{get_or_in}
use Rattle.assign.proofs.Reading.{trail_room}
use Rattle.assign.proofs.Back.{cancel_assignment}
use Rattle.assign.specs.Learn.{Asserting, with_unit, with_learnt}
use Rattle.assign.proofs.Learn.{uip_range, uip-unset, unit_formed, learnt_formed, room_index}
use Rattle.watching.proofs.Attach.{attach_stored}
use Rattle.options.specs.Numbers.{phase_number}
use Rattle.trail.specs.View.{Assignment, enqueued}
use Rattle.scratch.specs.declared.Scratch.{Scratch}
use Rattle.state.specs.declared.State.{State}
use Rattle.state.specs.Still.{Sized, Idle, Still, Has, Beside, state_at, config_of}
use Rattle.intake.specs.Storing.{Storable, Added}
use Rattle.learn.specs.Reducing.{head_first}

-- the learnt clause's literals
abbrev pub learnt_in : State → List ℕ
learnt_in s = s.scratch.buffer.items

abbrev pub uip_in : State → ℕ
uip_in s = get_or s.scratch.buffer.items 0 0

-- the buffer's literal, a unit, can be set on level 0
pub record Unit (s : State) : Type 0 where
  pub still : Still s
  pub some : 1 ≤ length s.scratch.buffer.items
  pub asserting : Asserting (state_at s).vars 0 (uip_in s) []

-- the state on another level
abbrev back : State → ℕ → ms.State
back s level = cancel_until (phase_number s.config.phase) (state_at s) level

abbrev pub unit_of : State → ms.State
unit_of s = with_unit (phase_number s.config.phase) (state_at s) (uip_in s)

-- the buffer's literals may be stored, and then the first one set, after the way back to `level`
pub record Learnable (s : State) (level : ℕ) : Type 0 where
  pub still : Still s
  pub two : 2 ≤ length s.scratch.buffer.items
  pub asserting : Asserting (state_at s).vars level (uip_in s) (drop 1 s.scratch.buffer.items)
  pub proper : Proper s.config.vars s.scratch.buffer.items
  pub room : has_room (config_of s.config) (state_at s).store s.scratch.buffer.items ≡ true

abbrev pub learnt_at : State → ℕ → ms.State
learnt_at s level = with_learnt (phase_number s.config.phase) (state_at s) level (uip_in s) (drop 1 s.scratch.buffer.items)

-- ---- another assignment

abbrev pub with_trail : State → Assignment → State
with_trail s t =
    record { config = s.config; trail = t; scratch = s.scratch; watches = s.watches; clauses = s.clauses; finals = s.finals; qhead = s.qhead; ok = s.ok }

pub still_trail : (s : State) (t : Assignment) → Sized s → Idle s → WellFormed (config_of s.config) (state_at (with_trail s t)) → Still (with_trail s t)
still_trail s t z i f =
    record {
      sized =
          record {
            some = z.some;
            vars = z.vars;
            room = z.room;
            lit_room = z.lit_room;
            values = f.vars.values;
            marks = z.marks;
            buffer = z.buffer;
            stack = z.stack;
            notes = z.notes;
            lists = z.lists;
            blockers = z.blockers;
            chains = z.chains;
            clauses = z.clauses;
            literals = z.literals;
            flags = z.flags;
            members = z.members;
          };
      idle = record { marks = i.marks; final = i.final; pushed = i.pushed; nodes = i.nodes };
      formed = f;
    }

-- ---- after the way back

module _ (s : State) (k : Still s) (level : ℕ) (uip : ℕ) (rest : List ℕ) (a : Asserting (state_at s).vars level uip rest)
    (s₁ : State) (e : Has s₁ (back s level)) (b : Beside s s₁) where
  -- the literal can be set
  pub back_room : length s₁.trail.vars.trail < length s₁.trail.vars.values
  back_room =
      rw e.still.sized.values
      (rw b.config
      (subst (λ (y : ms.State). length y.vars.trail < s.config.vars) (sym e.state)
      (trail_room (cancel_assignment (phase_number s.config.phase) (state_at s) level k.formed.vars) uip (uip_range k.formed.vars a)
      (uip-unset (phase_number s.config.phase) (state_at s) level k.formed.vars uip a))))

  pub back_var : var uip < length s₁.trail.vars.values
  back_var = rw (e.still.sized.values, b.config) (var_range uip s.config.vars (uip_range k.formed.vars a))

module _ (s : State) (p : Unit s) (s₁ : State) (e : Has s₁ (back s 0)) (b : Beside s s₁) where
  unit_state : state_at (with_trail s₁ (enqueued s₁.trail (uip_in s) no_reason)) ≡ unit_of s
  unit_state = ap (λ (y : ms.State). ms.with_vars y (unchecked_enqueue y.vars (uip_in s) no_reason)) e.state

  pub unit_has : Has (with_trail s₁ (enqueued s₁.trail (uip_in s) no_reason)) (unit_of s)
  unit_has =
      record {
        still =
            still_trail s₁ (enqueued s₁.trail (uip_in s) no_reason) e.still.sized e.still.idle
            (rw (unit_state, b.config) (unit_formed p.still.formed (uip_in s) p.asserting));
        state = unit_state;
      }

and_left : (a b : Bool) → (a && b) ≡ true → a ≡ true
and_left true b e = refl
and_left false b e = e

and_right : (a b : Bool) → (a && b) ≡ true → b ≡ true
and_right true b e = e
and_right false b e = absurd (true≢false (sym e))

module _ (s : State) (level : ℕ) (q : Learnable s level) where
  abbrev c : List ℕ
  c = s.scratch.buffer.items

  clause_is : c ≡ uip_in s ∷ drop 1 c
  clause_is = head_first c (omega (arith, q.two))

  room_clauses : length s.clauses.clauses < s.config.room
  unfolding has_room
  room_clauses = ltb-true _ _ (and_left _ (leb (stored_literals s.clauses.clauses + length c) s.config.lit_room) q.room)

  room_literals : stored_literals s.clauses.clauses + length c ≤ s.config.lit_room
  unfolding has_room
  room_literals = leb-true _ _ (and_right (ltb (length s.clauses.clauses) s.config.room) _ q.room)

  literal_range : (i : ℕ) → i < length c → get_or c i 0 < 2 * s.config.vars
  literal_range i k = q.proper.range _ (get_or_in c i 0 k)

  module _ (s₁ : State) (e : Has s₁ (back s level)) (b : Beside s s₁) (ek : s₁.clauses ≡ s.clauses) where
    same_buffer : s₁.scratch.buffer.items ≡ c
    same_buffer = ap (λ (x : Scratch). x.buffer.items) b.scratch

    -- what storing asks
    pub storing_asks : Storable s₁
    storing_asks =
        record {
          sized = e.still.sized;
          fresh = record { under = e.still.idle.nodes };
          none = e.still.idle.pushed;
          room = rw (ek, b.config) room_clauses;
          literals = rw (ek, same_buffer, b.config) room_literals;
          two = rw same_buffer q.two;
          first = rw (same_buffer, b.config) (literal_range 0 (omega (arith, q.two)));
          second = rw (same_buffer, b.config) (literal_range 1 (omega (arith, q.two)));
        }

    module _ (s₂ : State) (o : Added s₁ s₂) where
      stored_state : state_at s₂ ≡ ms.with_store (back s level) (attach_clause (back s level).store (uip_in s ∷ drop 1 c))
      stored_state =
          o.state
          ∙ ap (λ (y : List ℕ). ms.with_store (state_at s₁) (attach_clause (state_at s₁).store y)) (same_buffer ∙ clause_is)
          ∙ ap (λ (y : ms.State). ms.with_store y (attach_clause y.store (uip_in s ∷ drop 1 c))) e.state

      pub stored_beside : Beside s s₂
      stored_beside =
          record {
            config = ap (λ (y : State). y.config) o.is ∙ b.config;
            scratch = ap (λ (y : State). y.scratch) o.is ∙ b.scratch;
            finals = ap (λ (y : State). y.finals) o.is ∙ b.finals;
          }

      stored_trail : s₂.trail ≡ s₁.trail
      stored_trail = ap (λ (y : State). y.trail) o.is

      -- what setting the literal asks
      pub learnt_room : length s₂.trail.vars.trail < length s₂.trail.vars.values
      learnt_room = rw stored_trail (back_room s q.still level (uip_in s) (drop 1 c) q.asserting s₁ e b)

      pub learnt_var : var (uip_in s) < length s₂.trail.vars.values
      learnt_var = rw stored_trail (back_var s q.still level (uip_in s) (drop 1 c) q.asserting s₁ e b)

      stored_idle : Idle s₂
      stored_idle =
          record {
            marks = rw (ap (λ (y : State). y.scratch.marks) o.is, ap (λ (y : State). y.config) o.is) e.still.idle.marks;
            final = ap (λ (y : State). y.finals.items) o.is ∙ e.still.idle.final;
            pushed = ap (λ (y : State). y.clauses.pushed) o.is;
            nodes = o.fresh.under;
          }

      module _ (from : ℕ) (ef : from ≡ length s.clauses.clauses) where
        learnt_state : state_at (with_trail s₂ (enqueued s₂.trail (uip_in s) from)) ≡ learnt_at s level
        learnt_state =
            ap (λ (y : ms.State). ms.with_vars y (unchecked_enqueue y.vars (uip_in s) from)) stored_state
            ∙ ap (λ (y : ℕ). ms.with_vars (ms.with_store (back s level) (attach_clause (back s level).store (uip_in s ∷ drop 1 c)))
            (unchecked_enqueue (back s level).vars (uip_in s) y)) ef

        pub learnt_has : Has (with_trail s₂ (enqueued s₂.trail (uip_in s) from)) (learnt_at s level)
        learnt_has =
            let d : length (state_at s).store.clauses ≢ no_reason = room_index (config_of s.config) (state_at s).store c (omega (arith, q.still.sized.room)) q.room in
            let st = attach_stored (config_of s.config) (state_at s).store (uip_in s ∷ drop 1 c) q.still.formed.store (rw clause_is at q.room) (rw clause_is at q.proper) in
            record {
              still =
                  still_trail s₂ (enqueued s₂.trail (uip_in s) from) o.sized stored_idle
                  (rw (learnt_state, stored_beside.config) (learnt_formed q.still.formed (uip_in s) level (drop 1 c) q.asserting d st));
              state = learnt_state;
            }
