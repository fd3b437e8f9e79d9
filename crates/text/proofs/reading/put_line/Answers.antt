use Rattle.std.proofs.Common.{arith}
use Rattle.text.specs.PutLaws.{puts_as, line_1, line_2, line_3, line_4, line_5}
use Rattle.text.proofs.reading.put_line.Goals as goal

pub returns-in-1 : goal.returns-in-1
returns-in-1 c = puts_as _ (line_1 c.args.n c.args.vars.count c.args.line.now c.in-1.is) c.put_vars.ensures

pub returns-in-2 : goal.returns-in-2
returns-in-2 c = puts_as _ (line_2 c.args.n c.args.vars.count c.args.line.now c.in-2.is) c.put_field.ensures

pub returns-in-3 : goal.returns-in-3
returns-in-3 c = puts_as _ (line_3 c.args.n c.args.vars.count c.args.line.now c.in-3.is) c.put_field-in-3.ensures

pub returns-in-4 : goal.returns-in-4
returns-in-4 c = puts_as _ (line_4 c.args.n c.args.vars.count c.args.line.now c.in-4.is) c.put_field-in-4.ensures

pub returns-in_default : goal.returns-in_default
returns-in_default c = puts_as _ (line_5 c.args.n c.args.vars.count c.args.line.now (omega arith) (omega arith) (omega arith) (omega arith)) c.put_record_line.ensures
