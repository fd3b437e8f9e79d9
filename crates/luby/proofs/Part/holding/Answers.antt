use Prim.Native.Nat.{suc, ◌+◌}
use mathlib.Core.Path.{◌≡◌, sym, ◌∙◌}
use native.Mathlib.Omega.{arith}
use native.Mathlib.Numerals.{add-one}
use Rattle.luby.specs.Laws.{climb_more, climb_end, twice}
use Rattle.luby.proofs.Part.holding.Goals as goal

pub loop-size-preserved : goal.loop-size-preserved
loop-size-preserved c =
    let x = c.args.x in
    let l = c.loop-size in
    let e : l.seq + 1 ≡ suc l.seq = add-one l.seq in
    (rw e (sym (climb_more l.size l.seq x (omega arith) (omega arith)) ∙ l.invariant.0), rw e (twice l.seq l.size l.invariant.1), omega arith, omega arith)

pub returns : goal.returns
returns c =
    let l = c.loop-size in
    let x = c.args.x in
    record {
      beginning = record { whole = l.invariant.1; holds = omega arith };
      finds = sym (climb_end x l.size l.seq x (omega arith)) ∙ l.invariant.0;
    }
