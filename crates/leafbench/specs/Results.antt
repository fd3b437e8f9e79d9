-- What the loops give.
use Rattle.std.specs.Prelude.{ℕ, zero, suc, ◌+◌, ◌*◌, Bool, ◌&&◌, List, [], ◌∷◌, length, get_or, set, take, replicate, ltb, eqb}
use Rattle.model.specs.Lit.{var, sign, l_undef, value_lit, is_true}
use Rattle.state.specs.declared.State.{State}
use Rattle.tour.specs.Steps.{pick, placed}

-- the state with the literals ps put on the trail, one after the other
unfoldable pub filled : State → List ℕ → State
filled s [] = s
filled s (p ∷ ps) = filled (placed s p 0) ps

-- how many literals are on the trail of n variables where there were k, and the literals ps are put on it: one past the variables is not, nor any where it is full
unfoldable pub put_on : ℕ → ℕ → List ℕ → ℕ
put_on n k [] = k
put_on n k (p ∷ ps) = put_on n (pick (ltb k n && ltb (var p) n) (k + 1) k) ps

-- the values of n variables, with the literals ps made true
unfoldable pub signs : ℕ → List ℕ → List ℕ → List ℕ
signs n vs [] = vs
signs n vs (p ∷ ps) = signs n (pick (ltb (var p) n) (set vs (var p) (sign p)) vs) ps

-- whether the literal b is of a variable and true
abbrev pub blocks : State → ℕ → Bool
blocks s b = ltb (var b) s.config.vars && is_true s.trail.vars.values b

-- how many of the nodes have a true blocker
unfoldable pub hits : State → List ℕ → ℕ
hits s [] = 0
hits s (y ∷ ys) = pick (blocks s (get_or s.watches.blockers y 0)) 1 0 + hits s ys

-- how many of the literals 2, 4 .. 2 * m are true
unfoldable pub trues : List ℕ → ℕ → ℕ
trues vs zero = 0
trues vs (suc j) = trues vs j + pick (eqb (value_lit vs (2 * j + 2)) 0) 1 0

-- ---- the answers, of a slice of m cells and an order of n literals; a short one is refused

module _ {A : Type 0} (m n : ℕ) where
  abbrev pub unless_short : A → A → A
  unless_short refused x = pick (ltb m 2114) refused (pick (ltb n 64) refused x)

-- k levels, each from an empty trail
abbrev pub leaf_trail : ℕ → List ℕ → ℕ → ℕ
leaf_trail m order k = unless_short m (length order) 0 (k * put_on 64 0 (take 64 order))

-- k walks of the 32 watches with the blockers 2, 4 .. 64
abbrev pub leaf_watch : ℕ → List ℕ → ℕ → ℕ
leaf_watch m order k = unless_short m (length order) 0 (k * trues (signs 64 (replicate 64 l_undef) (take 64 order)) 32)

-- the slice afterwards
abbrev pub leaf_work : List ℕ → ℕ → List ℕ
leaf_work w n = unless_short (length w) n w (replicate (length w) 0)
