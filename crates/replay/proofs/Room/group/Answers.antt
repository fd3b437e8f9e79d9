use Rattle.std.proofs.Common.{◌≡◌, ◌<◌, rules, refl, ◌∷◌, length, sym, ap, ◌∙◌, arith}
use Rattle.text.specs.Split.{lines}
use Rattle.text.specs.SplitLaws.{lines_cut, text_left, text_shorter, text_of, no_lines, starts_with_as}
use Rattle.replay.specs.Lines.{Lengths, one, line_holds, group_key}
use Rattle.replay.specs.LineLaws.{counting_title, counting_line, counting_end}
use Rattle.replay.proofs.Room.group.Goals as goal

pub returns-then-starts_with-clause-grouped : goal.returns-then-starts_with-clause-grouped
returns-then-starts_with-clause-grouped g c =
    let l = c.loop-line in
    let h : 0 < length l.left.now = search rules in
    let w = lines_cut l.left.now c.cut.result.0.now c.cut.result.1 h c.cut.ensures.first c.cut.ensures.rest in
    counting_title _ _ _ l.t l.invariant.counting c.cut.result.0.now (text_of c.cut.result.1) w
    (sym (starts_with_as group_key c.cut.result.0.now) ∙ sym c.starts_with.ensures.value ∙ c.if-starts_with.true)

pub loop-line-smaller : goal.loop-line-smaller
loop-line-smaller g c =
    let h : 0 < length c.loop-line.left.now = search rules in
    let e = ap (λ b. b.now) c.unwrap_or-left.ensures ∙ text_left c.cut.result.1 _ refl in
    omega (arith, ap length e, text_shorter c.loop-line.left.now c.cut.result.0.now c.cut.result.1 h c.cut.ensures.rest)

pub loop-line-preserved : goal.loop-line-preserved
loop-line-preserved g c =
    let l = c.loop-line in
    let h : 0 < length l.left.now = search rules in
    let e = ap (λ b. b.now) c.unwrap_or-left.ensures ∙ text_left c.cut.result.1 _ refl in
    let w = lines_cut l.left.now c.cut.result.0.now c.cut.result.1 h c.cut.ensures.first c.cut.ensures.rest in
    record {
      room = c.script.ensures.room ∙ l.invariant.room;
      counting = counting_line _ _ _ l.t l.invariant.counting c.cut.result.0.now c.unwrap_or-left.result.now (w ∙ ap (λ x. c.cut.result.0.now ∷ lines x) (sym e))
          (sym (starts_with_as group_key c.cut.result.0.now) ∙ sym c.starts_with.ensures.value ∙ c.if-starts_with.false) (omega arith)
          (omega (arith, ap length e, text_shorter l.left.now c.cut.result.0.now c.cut.result.1 h c.cut.ensures.rest))
          c.script.result c.sum-t.result (c.script.ensures.tally ∙ ap (λ (r : Lengths). one (line_holds r c.cut.result.0.now)) l.invariant.room) c.sum-t.ensures;
    }

pub returns-clause-grouped : goal.returns-clause-grouped
returns-clause-grouped g c =
    let l = c.loop-line in
    let h : length l.left.now ≡ 0 = search rules in
    counting_end _ _ _ l.t l.invariant.counting (no_lines l.left.now h)
