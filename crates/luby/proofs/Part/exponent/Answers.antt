use mathlib.Core.Path.{sym, ◌∙◌}
use native.Mathlib.Omega.{arith}
use Rattle.luby.specs.Laws.{shorter, descend_end}
use Rattle.luby.proofs.Part.exponent.Goals as goal

pub overflow_sub-seq : goal.overflow_sub-seq
overflow_sub-seq c =
    let l = c.loop-size in
    let s = shorter l.y l.seq l.size l.invariant.0 (λ e. omega (arith, e)) in
    s.more

pub nonzero_rem-y : goal.nonzero_rem-y
nonzero_rem-y c =
    let l = c.loop-size in
    let s = shorter l.y l.seq l.size l.invariant.0 (λ e. omega (arith, e)) in
    s.pos

pub loop-size-smaller : goal.loop-size-smaller
loop-size-smaller c =
    let l = c.loop-size in
    let s = shorter l.y l.seq l.size l.invariant.0 (λ e. omega (arith, e)) in
    omega (arith, s.more)

pub loop-size-preserved : goal.loop-size-preserved
loop-size-preserved c =
    let l = c.loop-size in
    let s = shorter l.y l.seq l.size l.invariant.0 (λ e. omega (arith, e)) in
    (s.rest, sym s.same ∙ l.invariant.1)

pub returns : goal.returns
returns c =
    let l = c.loop-size in
    sym (descend_end l.seq l.size l.y (omega arith)) ∙ l.invariant.1
