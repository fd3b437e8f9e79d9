-- A clause that is no reason may be reordered. And what is known of a watch that is looked at.
use Rattle.std.specs.Prelude.{◌≡◌, refl, ◌≢◌, ◌⊎◌, List, [], ◌∷◌, ◌++◌, ℕ, ◌*◌, ◌<◌, length, get_or, set}
use Rattle.std.proofs.Common.{ap, sym, ◌∙◌, subst, inl, inr, arith, length-set, get_or-set_same}
use mathlib.Core.List.Memᴰ.{append_right as in_right}
use mathlib.Core.List.Memᴰ.{head as here}
use Rattle.std.proofs.lemmas.List.{set-get_or}
use Rattle.model.specs.Lit.{neg, no_reason}
use Rattle.model.specs.Script.{Config}
use Rattle.model.specs.State.{Watch, VarState, State, reason_lit, clause_at}
use Rattle.lawbase.specs.Basics.{◌∈◌, split, same?}
use Rattle.lawbase.specs.WellFormed.{Assignment, Proper, Watched, WellFormed}
use Rattle.assign.proofs.Lists.{get_or_in}
use Rattle.assign.proofs.Reading.{trail_range}
use Rattle.assign.proofs.Reasons.{reason_first}
use Rattle.assign.proofs.Clauses.{clause-set}
use Rattle.watching.proofs.Store.{times_in, bit_other}
use Rattle.watching.proofs.Look.{seconded}
use Rattle.watching.specs.Reorder.{listed, Looking}

-- clause r becomes d: it is as it was, or its first literal is not on the trail, so that it is no reason
pub reorder_assignment : {n : ℕ} {cs : List (List ℕ)} {vs : VarState} → Assignment n cs vs → (r : ℕ) (d : List ℕ)
    → (get_or cs r [] ≡ d) ⊎ (get_or (get_or cs r []) 0 0 ∈ vs.trail → ⊥) → Assignment n (set cs r d) vs
reorder_assignment {n} {cs} {vs} h r d (inl e) = subst (λ x. Assignment n x vs) (sym (set-get_or cs r []) ∙ ap (set cs r) e) h
reorder_assignment {n} {cs} {vs} h r d (inr f) = clause-set h r d (λ q i e z _. absurd (never q i e z)) (λ q i e z _. absurd (never q i e z))
  where
    never : (q : ℕ) → q ∈ vs.trail → reason_lit vs q ≡ r → r ≢ no_reason → ⊥
    never q i e z =
        f (subst (λ x. x ∈ vs.trail) (sym (reason_first h q i (λ y. z (sym e ∙ y))) ∙ ap (λ k. get_or (get_or cs k []) 0 0) e) i)

-- a watched literal stands first or second
pub watched_place : (n p : ℕ) (cs : List (List ℕ)) (ws : List (List Watch)) (w : Watch) → Watched n cs ws → p < 2 * n → w ∈ (get_or ws p [])
    → (get_or (get_or cs w.clause []) 0 0 ≡ neg p) ⊎ (get_or (get_or cs w.clause []) 1 0 ≡ neg p)
watched_place n p cs ws w h hp i =
    split (same? p (neg (get_or (get_or cs w.clause []) 0 0)))
    (λ e. inl (omega arith))
    (λ d. split (same? p (neg (get_or (get_or cs w.clause []) 1 0)))
    (λ e. inr (omega arith))
    (λ g. absurd (omega (
      arith,
      times_in i,
      h.twice w.clause p (h.known p hp w i).stored hp,
      bit_other p (neg (get_or (get_or cs w.clause []) 0 0)) d,
      bit_other p (neg (get_or (get_or cs w.clause []) 1 0)) g,
    ))))

pub looking : (cfg : Config) (p : ℕ) (kept : List Watch) (w : Watch) (rest : List Watch) (s : State) → WellFormed cfg (listed p (kept ++ (w ∷ rest)) s)
    → p ∈ s.vars.trail → Looking cfg p w s
looking cfg p kept w rest s h i =
    record {
      range = hp;
      lists = hl;
      inside = (h.store.watched.known p hp w member).stored;
      proper = proper;
      blocker = (h.store.watched.known p hp w member).blocker;
      shape = seconded (neg p) (clause_at s.store w.clause) proper.two
          (watched_place cfg.variables p s.store.clauses (set s.store.watches p (kept ++ (w ∷ rest))) w h.store.watched hp member);
    }
  where
    hp : p < 2 * cfg.variables
    hp = trail_range h.vars p i

    hl : p < length s.store.watches
    hl = omega (arith, hp, h.store.watched.lists, length-set s.store.watches p (kept ++ (w ∷ rest)))

    member : w ∈ (get_or (set s.store.watches p (kept ++ (w ∷ rest))) p [])
    member = subst (λ x. w ∈ x) (sym (get_or-set_same s.store.watches p (kept ++ (w ∷ rest)) [] hl)) (in_right kept (here refl))

    proper : Proper cfg.variables (clause_at s.store w.clause)
    proper = h.store.proper (clause_at s.store w.clause)
        (get_or_in s.store.clauses w.clause [] (h.store.watched.known p hp w member).stored)
