use Rattle.std.proofs.Common.{◌≡◌, ◌+◌, ◌<◌, ℕ, List, ◌∷◌, length, ap, sym, subst, arith}
use Rattle.model.specs.Script.{Record}
use Rattle.script.specs.Kinds.{cells_of}
use Rattle.script.specs.Walk.{record_at, next_at, records_from, records_step, records_end, cells-record}
use Rattle.script.specs.Sound.{RecordIn, Readable, readable_here, readable_next}
use Rattle.reader.proofs.RecordsIterator.next.Goals as goal

module _ (v : ℕ) (s : List ℕ) (at : ℕ) (inside : at < length s) (readable : Readable v s at) where
  here : RecordIn v s at
  here = readable_here v s at inside readable

  module _ (r : Record) (e : r ≡ record_at s at) (n : ℕ) (k : n ≡ cells_of r) where
    next : at + n ≡ next_at s at
    next = omega (arith, k, ap cells_of e, cells-record s at here.whole)

    goes_on : Readable v s (at + n)
    goes_on = subst (Readable v s) (sym next) (readable_next v s at inside readable)

    gives : records_from s at ≡ r ∷ records_from s (at + n)
    gives = rw (records_step s at inside, next, e)

pub returns-then-self-clause-steps : goal.returns-then-self-clause-steps
returns-then-self-clause-steps c =
    let r = c.args.self.now in
    let e = records_end r.script.cells.now r.at c.if-self.true in (e, e)

pub read-record-requires : goal.read-record-requires
read-record-requires c =
    let r = c.args.self.now in
    (here r.script.header.variables r.script.cells.now r.at c.if-self.false r.readable).whole

pub invariant_of-self : goal.invariant_of-self
invariant_of-self c =
    let r = c.args.self.now in
    record {
      readable = goes_on r.script.header.variables r.script.cells.now r.at c.if-self.false r.readable _ c.read-record.ensures _ c.cells.ensures;
    }

pub returns-clause-steps : goal.returns-clause-steps
returns-clause-steps c =
    let r = c.args.self.now in
    gives r.script.header.variables r.script.cells.now r.at c.if-self.false r.readable _ c.read-record.ensures _ c.cells.ensures

pub returns-clause-goes : goal.returns-clause-goes
returns-clause-goes c =
    let r = c.args.self.now in
    let e = gives r.script.header.variables r.script.cells.now r.at c.if-self.false r.readable _ c.read-record.ensures _ c.cells.ensures in
    record { on = λ _. (tt, tt, omega (arith, ap length e)); keeps = tt; rests = λ _. tt }
