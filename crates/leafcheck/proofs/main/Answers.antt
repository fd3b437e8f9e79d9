use Rattle.std.proofs.Common.{arith, ap, ◌∙◌, ◌≡◌, ℕ, length}
use Rattle.std.proofs.lemmas.List.{length-replicate}
use Rattle.model.specs.State.{Activity, initial_activity}
use Rattle.leafcheck.proofs.main.Goals as goal

begun : (a : Activity) (n : ℕ) → a ≡ initial_activity n → length a.activities ≡ n
unfolding initial_activity
begun a n e = ap (λ (b : Activity). length b.activities) e ∙ length-replicate n _

pub bumps-requires : goal.bumps-requires
bumps-requires c = omega (arith, begun c.new-act.result _ c.new-act.ensures)

pub bumps-requires-2 : goal.bumps-requires-2
bumps-requires-2 c = omega (arith, begun c.new-act.result _ c.new-act.ensures, c.bumps.ensures)

pub picks-requires : goal.picks-requires
picks-requires c = omega (arith, begun c.new-act.result _ c.new-act.ensures, c.bumps.ensures, c.bumps-2.ensures)
