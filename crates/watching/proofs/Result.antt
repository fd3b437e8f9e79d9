-- What a call of `propagate` gives, in one law each for its two ends.
use Rattle.std.specs.Prelude.{refl, ◌≢◌, List, [], ◌∷◌, ℕ, ◌+◌, ◌≤◌, length, get_or}
use mathlib.Core.List.Memᴰ.{head as here}
use Rattle.std.proofs.Common.{arith}
use Rattle.model.specs.Lit.{var, no_reason}
use Rattle.model.specs.Script.{Config}
use Rattle.model.specs.State.{State, clause_at}
use Rattle.model.specs.Propagate.{Propagated, propagate}
use Rattle.lawbase.specs.WellFormed.{Distinct, Proper, WellFormed}
use Rattle.assign.proofs.Lists.{get_or_in}
use Rattle.assign.specs.Searching.{Searching}
use Rattle.watching.specs.Visit.{Falsified}
use Rattle.watching.specs.Propagate.{Finished, quiet, clash}
use Rattle.watching.proofs.Propagate.{propagate_formed}
use Rattle.watching.specs.Watching.{Watching, Conflict}
use Rattle.watching.proofs.Watching.{settled, propagate_watching}
use Rattle.watching.specs.Forced.{Advance}
use Rattle.watching.proofs.Forced.{propagate_advance, advance_searching}
use Rattle.watching.specs.Result.{TopTwo, Rested, Clashed}

pub conflict_two : {cfg : Config} {c : ℕ} {s : State} → Conflict cfg c s → TopTwo s.vars (clause_at s.store c)
conflict_two {cfg} {c} {s} h =
    record {
      first_in = get_or_in (clause_at s.store c) 0 0 (omega (arith, proper.two));
      second_in = get_or_in (clause_at s.store c) 1 0 (omega (arith, proper.two));
      apart = apart_of (clause_at s.store c) proper.two proper.distinct;
      first = h.first;
      second = h.second;
    }
  where
    proper : Proper cfg.variables (clause_at s.store c)
    proper = h.falsified.formed.store.proper (clause_at s.store c) (get_or_in s.store.clauses c [] h.falsified.stored)

    apart_of : (l : List ℕ) → 2 ≤ length l → Distinct l → var (get_or l 1 0) ≢ var (get_or l 0 0)
    apart_of [] t d = absurd (omega arith)
    apart_of (a ∷ []) t d = absurd (omega arith)
    apart_of (a ∷ b ∷ l) t d = d.0 b (here refl)

module _ (cfg : Config) (small : cfg.max_clauses ≤ no_reason) where
  -- a turn for each variable is enough
  pub propagated : (s : State) → Watching cfg s → Finished (Rested cfg s) (Clashed cfg s) (propagate cfg.variables s)
  propagated s h =
      go (propagate cfg.variables s) (propagate_watching cfg small cfg.variables s h (omega arith))
      (propagate_advance cfg small cfg.variables s h.formed (omega arith))
    where
      go : (r : Propagated) → Finished (Watching cfg) (Conflict cfg) r → Advance cfg.variables s r.state → Finished (Rested cfg s) (Clashed cfg s) r
      go r (quiet x y e) a = quiet x (record { watching = y; advance = a; settled = settled cfg x y e }) e
      go r (clash c x y) a = clash c x (record { conflict = y; advance = a })

  pub propagate_keeps : (k : ℕ) (s : State) → WellFormed cfg s → cfg.variables ≤ s.qhead + k → WellFormed cfg (propagate k s).state
  propagate_keeps k s h le = go (propagate k s) (propagate_formed cfg small k s h le)
    where
      go : (r : Propagated) → Finished (WellFormed cfg) (Falsified cfg) r → WellFormed cfg r.state
      go r (quiet x y e) = y
      go r (clash c x y) = y.formed

  -- the state of a solve stays one
  pub propagate_searching : (ps : List ℕ) (s : State) → Searching cfg ps s → Searching cfg ps (propagate cfg.variables s).state
  propagate_searching ps s r =
      advance_searching cfg ps s (propagate cfg.variables s).state (propagate_advance cfg small cfg.variables s r.formed (omega arith))
      (propagate_keeps cfg.variables s r.formed (omega arith)) r
