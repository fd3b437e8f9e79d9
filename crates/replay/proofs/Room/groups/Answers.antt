use Rattle.std.proofs.Common.{◌≡◌, ◌<◌, rules, refl, length, sym, ap, ◌∙◌, arith, ◌∷◌}
use Rattle.text.specs.Split.{lines}
use Rattle.text.specs.SplitLaws.{lines_cut, text_left, text_shorter, no_lines}
use Rattle.replay.specs.LineLaws.{totalling_group, totalling_end}
use Rattle.replay.proofs.Room.groups.Goals as goal

pub loop-left-smaller : goal.loop-left-smaller
loop-left-smaller g c =
    let h : 0 < length c.loop-left.left.now = search rules in
    let e = ap (λ b. b.now) c.unwrap_or.ensures ∙ text_left c.cut.result.1 _ refl in
    omega (arith, ap length e, c.group.ensures.grouped.shorter, text_shorter c.loop-left.left.now c.cut.result.0.now c.cut.result.1 h c.cut.ensures.rest)

pub loop-left-preserved : goal.loop-left-preserved
loop-left-preserved g c =
    let l = c.loop-left in
    let h : 0 < length l.left.now = search rules in
    let e = ap (λ b. b.now) c.unwrap_or.ensures ∙ text_left c.cut.result.1 _ refl in
    let w = lines_cut l.left.now c.cut.result.0.now c.cut.result.1 h c.cut.ensures.first c.cut.ensures.rest in
    record {
      room = c.group.ensures.room ∙ l.invariant.room;
      totalling = totalling_group _ _ _ l.all l.invariant.totalling c.cut.result.0.now c.unwrap_or.result.now c.group.result.1.now c.group.result.0 c.sum-all.result
          (w ∙ ap (λ x. c.cut.result.0.now ∷ lines x) (sym e)) (rw l.invariant.room at c.group.ensures.grouped) (omega arith) c.sum-all.ensures;
    }

pub returns-clause-tally : goal.returns-clause-tally
returns-clause-tally g c =
    let h : length c.loop-left.left.now ≡ 0 = search rules in
    totalling_end _ _ _ c.loop-left.all c.loop-left.invariant.totalling (no_lines c.loop-left.left.now h)
