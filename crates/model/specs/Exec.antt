-- Runs the definitions: everything that a run computes with unfolds where `out` does.
use Rattle.model.specs.Luby
use Rattle.model.specs.State
use Rattle.model.specs.Store
use Rattle.model.specs.Trail
use Rattle.model.specs.Activity
use Rattle.model.specs.Intake
use Rattle.model.specs.Propagate
use Rattle.model.specs.Minimise
use Rattle.model.specs.Analyze
use Rattle.model.specs.Final
use Rattle.model.specs.Decide
use Rattle.model.specs.Search
use Rattle.model.specs.Script
use Rattle.model.specs.Run
use Rattle.std.specs.Prelude.{ℕ, List, [], ◌∷◌}
use Rattle.std.specs.Float.Ieee as Ieee
use Rattle.model.specs.Script.{refused, accepted}

-- what a script comes to
pub data Outcome : Type 0 where
  refuses : ℕ → ℕ → Outcome
  gives : List ℕ → Outcome

-- a script with the lengths of work, activities and out
unfoldable pub out_of : List ℕ → ℕ → ℕ → ℕ → Outcome
unfolding Luby.descend Luby.climb Luby.luby State.initial_state State.initial_activity State.initial Store.stored_literals Store.has_room Store.push_watch Store.attach_clause Trail.unchecked_enqueue Trail.new_decision_level Trail.unset Trail.save Trail.saved_part Trail.vars_until Trail.cancel_until Activity.var_bump_activity Activity.var_decay_activity Intake.insert Intake.sort Intake.simplify Intake.add_kept Intake.add_clause Propagate.false_second Propagate.new_watch Propagate.look Propagate.visit Propagate.propagate Minimise.abstract_levels Minimise.push_reason Minimise.lit_redundant Minimise.drop_redundant Minimise.minimize_conflict Analyze.join Analyze.resolve Analyze.highest Analyze.highest_first Analyze.backtrack_level Analyze.first_uip Analyze.analyze Final.mem Final.insert Final.mark Final.blame Final.analyze_final Decide.pick Decide.pick_branch_lit Decide.open_level Decide.assume Decide.decide Search.add_learnt_and_backtrack Search.on_conflict Search.on_no_conflict Search.turn Search.most_conflicts Search.most_levels Search.most_turns Search.search Search.solve_internal Search.cells Search.answer_of Search.still_ok Search.solve Script.header Script.known Script.lead Script.most_count Script.limits Script.trailing Script.cost Script.record_as Script.kind_of Script.records Script.records_of Script.header_rows Script.work_needed Script.slice_rows Script.literal_rows Script.limit_rows Script.record_rows Script.out_needed Script.out_rows Script.judge Script.read Run.step Run.answers Run.run Run.after Ieee.add Ieee.mul Ieee.div Ieee.lt Ieee.of_bits
out_of [] work activities out = gives []
out_of (cell ∷ cells) work activities out =
    elim (Script.read (cell ∷ cells) work activities out) [ refused number place ↦ refuses number place | accepted cfg rs ↦ gives (Run.run cfg rs) ]

-- the out cells of a script where each slice is long enough
unfoldable pub out : List ℕ → List ℕ
unfolding out_of
out s = elim (out_of s 4294967295 4294967295 4294967295) [ refuses number place ↦ [] | gives cells ↦ cells ]
