use Rattle.std.proofs.Common.{ℕ, ◌+◌, ◌≡◌, arith, ap, sym, ◌∙◌, subst}
use Rattle.model.specs.Script.{cost, kind_of, out_needed}
use Rattle.script.specs.Kinds.{cells_of}
use Rattle.script.specs.Walk.{record_at, next_at, records_from, cells-record}
use Rattle.script.specs.Sound.{Readable, readable_here, readable_next}
use Rattle.script.specs.Needs.{needed_step, needed_end, within_more, within_cells}
use Rattle.script.proofs.Script.out_need.Goals as goal

pub loop-at-init : goal.loop-at-init
loop-at-init c = record { readable = c.args.self.readable; within = omega arith; sum = omega arith }

pub read-record-requires : goal.read-record-requires
read-record-requires c = (readable_here c.args.self.header.variables c.args.self.cells.now c.loop-at.at (omega arith) c.loop-at.invariant.readable).whole

pub overflow_sub-bound : goal.overflow_sub-bound
overflow_sub-bound c = c.loop-at.invariant.within

pub returns-then-bound-need : goal.returns-then-bound-need
returns-then-bound-need c =
    let a = c.args.self in
    let v = a.header.variables in
    let more : c.cost-more.result ≡ cost (kind_of (record_at a.cells.now c.loop-at.at)) v =
    c.cost-more.ensures ∙ ap (λ (k : ℕ). cost k v) (c.kind.ensures ∙ ap kind_of c.read-record.ensures) in
    sym (within_more _ _ (omega (arith, needed_step v a.cells.now c.loop-at.at (omega arith), more, c.loop-at.invariant.sum)))

pub loop-at-preserved : goal.loop-at-preserved
loop-at-preserved c =
    let s = c.args.self.cells.now in
    let v = c.args.self.header.variables in
    let at = c.loop-at.at in
    let more : c.cost-more.result ≡ cost (kind_of (record_at s at)) v =
    c.cost-more.ensures ∙ ap (λ (k : ℕ). cost k v) (c.kind.ensures ∙ ap kind_of c.read-record.ensures) in
    let here = readable_here v s at (omega arith) c.loop-at.invariant.readable in
    let next : at + c.cells-at.result ≡ next_at s at = omega (arith, c.cells-at.ensures, ap cells_of c.read-record.ensures, cells-record s at here.whole) in
    let same = ap (λ i. out_needed v (records_from s i)) next in
    record {
      readable = subst (Readable v s) (sym next) (readable_next v s at (omega arith) c.loop-at.invariant.readable);
      within = omega arith;
      sum = omega (arith, needed_step v s at (omega arith), more, same, c.loop-at.invariant.sum);
    }

pub returns : goal.returns
returns c = within_cells _ _ c.loop-at.need (omega (arith, needed_end c.args.self.header.variables c.args.self.cells.now c.loop-at.at (omega arith), c.loop-at.invariant.sum)) (omega (arith, needed_end c.args.self.header.variables c.args.self.cells.now c.loop-at.at (omega arith), c.loop-at.invariant.sum))
