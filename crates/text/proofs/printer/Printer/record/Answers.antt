use Rattle.std.proofs.Common.{ap, sym, ◌≡◌, arith}
use Rattle.script.specs.Kinds.{cell_of}
use Rattle.text.specs.PrintLaws.{record_solve, record_clause}
use Rattle.text.specs.Prints.{prints_as}
use Rattle.text.proofs.printer.Printer.record.Goals as goal

pub returns-in-Clause : goal.returns-in-Clause
returns-in-Clause c =
    let k : cell_of c.args.kind ≡ 1 = ap cell_of c.in-Clause.is in
    prints_as _ (sym (record_clause (cell_of c.args.kind) c.args.line c.args.out.now (omega arith))) c.clause.ensures

pub returns-in-Solve : goal.returns-in-Solve
returns-in-Solve c = prints_as _ (sym (record_solve (cell_of c.args.kind) c.args.line c.args.out.now (ap cell_of c.in-Solve.is))) c.solve.ensures
