-- What each step of a tour makes of the state.
use Rattle.std.specs.Prelude.{ℕ, ◌+◌, ◌-◌, ◌*◌, Bool, true, false, not, ◌&&◌, [], ◌∷◌, length, get_or, leb, ltb, eqb}
use Rattle.model.specs.Lit.{var}
use Rattle.model.specs.State.{decision_level}
use Rattle.model.specs.Trail.{level_end}
use Rattle.model.specs.Store.{stored_literals}
use Rattle.trail.specs.View.{enqueued, next_level, until}
use Rattle.store.specs.View.{put_pushed}
use Rattle.watch.specs.View.{Watches, list_of, blocked, moved}
use Rattle.trail.specs.View.{Assignment}
use Rattle.store.specs.View.{Clauses}
use Rattle.litset.specs.View.{Members, inserted, emptied}
use Rattle.state.specs.declared.State.{State}
use Rattle.state.specs.Fresh.{stored_in}

-- the two outcomes of a test
abbrev pub pick : {A : Type 0} → Bool → A → A → A
pick true x y = x
pick false x y = y

-- one block of the state replaced
abbrev pub with_trail : State → Assignment → State
with_trail s t = record s { trail = t }

abbrev pub with_watches : State → Watches → State
with_watches s w = record s { watches = w }

abbrev pub with_clauses : State → Clauses → State
with_clauses s k = record s { clauses = k }

abbrev pub with_finals : State → Members → State
with_finals s f = record s { finals = f }

-- ---- the steps

module _ (s : State) where
  abbrev pub opened : State
  opened = pick (ltb (decision_level s.trail.vars) (3 * s.config.vars)) (with_trail s (next_level s.trail)) s

  abbrev pub placed : ℕ → ℕ → State
  placed p from =
      pick (ltb (length s.trail.vars.trail) s.config.vars && ltb (var p) s.config.vars) (with_trail s (enqueued s.trail p from)) s

  -- where on the trail level k + 1 starts
  abbrev pub start_of : ℕ → ℕ
  start_of k = level_end s.trail.vars k

  -- the level is left, and its start is on the trail and not above the last level's
  abbrev pub leaves : ℕ → Bool
  leaves level =
      ltb level (decision_level s.trail.vars) && leb (start_of level) (length s.trail.vars.trail) && leb (start_of level) (start_of (decision_level s.trail.vars - 1))

  abbrev pub gone_back : ℕ → ℕ → State
  gone_back level phase = pick (leaves level) (record s { trail = until phase s.trail level; qhead = start_of level }) s

  -- l is a literal, and its list has a node
  abbrev pub watched : ℕ → Bool
  watched l = ltb l (2 * s.config.vars) && ltb 0 (length (list_of s.watches l))

  abbrev pub reblocked : ℕ → ℕ → State
  reblocked l b = pick (watched l) (with_watches s (blocked (get_or (list_of s.watches l) 0 0) b s.watches)) s

  abbrev pub sent : ℕ → ℕ → ℕ → State
  sent l m b = pick (watched l && ltb m (2 * s.config.vars) && not (eqb l m)) (with_watches s (moved l 0 m b s.watches)) s

  -- a clause of three literals, stored and attached
  abbrev pub three : ℕ → ℕ → ℕ → State
  three p q r = stored_in (with_clauses s (put_pushed s.clauses (p ∷ q ∷ r ∷ [])))

  -- a clause of three literals can be stored
  abbrev pub has_room : Bool
  has_room = ltb (length s.clauses.clauses) s.clauses.room && leb (stored_literals s.clauses.clauses + 3) s.clauses.lit_room

  abbrev pub added : ℕ → ℕ → ℕ → State
  added p q r = pick (has_room && ltb p (2 * s.config.vars) && ltb q (2 * s.config.vars)) (three p q r) s

  abbrev pub finished : ℕ → State
  finished l = pick (ltb l (2 * s.config.vars) && leb (length s.finals.items) s.config.vars) (with_finals s (inserted s.finals l)) s

  abbrev pub unfinished : State
  unfinished = with_finals s (emptied (2 * s.config.vars) s.finals)
