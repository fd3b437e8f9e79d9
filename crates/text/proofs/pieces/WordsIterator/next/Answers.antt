use Rattle.std.proofs.Common.{ap, arith, length}
use Rattle.text.specs.FormatLaws.{one_less}
use Rattle.text.proofs.pieces.WordsIterator.next.Goals as goal

pub returns-clause-steps : goal.returns-clause-steps
returns-clause-steps c = one_less c.cut.result.1 c.in_ok-self.was c.cut.ensures.first c.cut.ensures.rest

pub returns-clause-goes : goal.returns-clause-goes
returns-clause-goes c =
    let e = one_less c.cut.result.1 c.in_ok-self.was c.cut.ensures.first c.cut.ensures.rest in
    record { on = λ _. (tt, tt, omega (arith, ap length e)); keeps = tt; rests = λ _. tt }
