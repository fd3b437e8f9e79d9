use Rattle.std.proofs.Common.{ap, sym, ◌∙◌}
use Rattle.model.specs.State.{initial_activity}
use Rattle.reader.specs.Rest.{rest_of}
use Rattle.records.specs.Recording.{room_in, vars_are, rest_length, recording_first, recording_fits, recording_step, recording_end}
use Rattle.records.proofs.records.Goals as goal

pub new-requires : goal.new-requires
new-requires c = room_in c.requires _ c.config.ensures

pub loop-r-init : goal.loop-r-init
loop-r-init c =
    record {
      can_next = tt;
      is_finite = tt;
      recording =
          recording_first c.args.script c.args.out.now c.requires _ c.config.ensures _ c.new.ensures (c.new-2.ensures ∙ ap initial_activity (c.requires.counted ∙ sym (vars_are c.requires _ c.config.ensures))) _
          (ap rest_of c.into_iter-r-iterator.ensures.into_iter_gives ∙ c.new-r-items.ensures);
    }

pub record-written-requires-clause-fits : goal.record-written-requires-clause-fits
record-written-requires-clause-fits c =
    recording_fits _ c.requires.limited _ _ _ _ _ _ _ (rw c.in-Some.ensures.steps at c.loop-r.invariant.recording) _ (rest_length _ _)

pub loop-r-preserved : goal.loop-r-preserved
loop-r-preserved c =
    record {
      can_next = tt;
      is_finite = tt;
      recording = recording_step _ c.requires.limited _ _ _ _ _ _ _ (rw c.in-Some.ensures.steps at c.loop-r.invariant.recording) _ _ _ c.record-written.ensures;
    }

pub returns : goal.returns
returns c = recording_end _ _ _ _ _ _ (rw c.in-None.ensures.steps.0 at c.loop-r.invariant.recording) c.args.script.of_header
