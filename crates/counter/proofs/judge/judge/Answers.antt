use mathlib.Core.List.{◌++◌}
use Rattle.script.specs.Judging.{raised, refused_first, second_decides, accepted_hold}
use Rattle.counter.specs.Rows.{call_rows, name_rows, room_rows}
use Rattle.counter.proofs.JudgeLaws.{rows_parts, few_of}
use Rattle.counter.proofs.judge.judge.Goals as goal

pub returns-in_err-judge_call : goal.returns-in_err-judge_call
returns-in_err-judge_call c =
    let a = c.args in
    let ls = a.literals.now in
    rw (rows_parts a.v ls a.k a.first a.room)
    (raised c.from_residual.ensures.1 (refused_first (call_rows a.v ls) (name_rows a.v ls a.k a.first ++ room_rows ls a.k a.first a.room) c.in_err-judge_call.ensures))

pub judge_names-requires : goal.judge_names-requires
judge_names-requires c =
    let a = c.args in
    few_of a.v a.literals.now (accepted_hold (call_rows a.v a.literals.now) c.in_ok-judge_call.ensures)

pub returns-in_err-judge_names : goal.returns-in_err-judge_names
returns-in_err-judge_names c =
    let a = c.args in
    let ls = a.literals.now in
    let one = refused_first (name_rows a.v ls a.k a.first) (room_rows ls a.k a.first a.room) c.in_err-judge_names.ensures in
    rw (rows_parts a.v ls a.k a.first a.room)
    (raised c.from_residual-in_err-judge_names.ensures.1 (second_decides (call_rows a.v ls) (name_rows a.v ls a.k a.first ++ room_rows ls a.k a.first a.room) c.in_ok-judge_call.ensures one))

pub judge_room-requires : goal.judge_room-requires
judge_room-requires c =
    let a = c.args in
    few_of a.v a.literals.now (accepted_hold (call_rows a.v a.literals.now) c.in_ok-judge_call.ensures)

pub returns : goal.returns
returns c =
    let a = c.args in
    let ls = a.literals.now in
    let rest = second_decides (name_rows a.v ls a.k a.first) (room_rows ls a.k a.first a.room) c.in_ok-judge_names.ensures c.judge_room.ensures in
    rw (rows_parts a.v ls a.k a.first a.room) (second_decides (call_rows a.v ls) (name_rows a.v ls a.k a.first ++ room_rows ls a.k a.first a.room) c.in_ok-judge_call.ensures rest)
