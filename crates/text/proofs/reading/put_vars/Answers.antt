use Rattle.std.proofs.Common.{◌≡◌, rules, Err, arith}
use Rattle.text.specs.PutLaws.{puts_wrong, puts_as, value_wrong, value_one, sizes_wrong, sizes_over, sizes}
use Rattle.text.proofs.reading.put_vars.Goals as goal

pub returns-in_err-vars : goal.returns-in_err-vars
returns-in_err-vars c =
    let r : c.from_residual.result ≡ Err c.in_err-vars.field-0.0 = search rules in
    rw r (puts_wrong (sizes_wrong (value_wrong c.args.key.now c.args.line.now c.in_err-vars.field-0.0 c.in_err-vars.ensures)))

pub returns-then-vars-gt-MAX_VARS : goal.returns-then-vars-gt-MAX_VARS
returns-then-vars-gt-MAX_VARS c = puts_wrong (sizes_over c.in_ok-vars.vars (value_one c.args.key.now c.args.line.now c.in_ok-vars.vars c.in_ok-vars.ensures) (omega arith))

pub returns : goal.returns
returns c = puts_as _ (sizes c.in_ok-vars.vars (value_one c.args.key.now c.args.line.now c.in_ok-vars.vars c.in_ok-vars.ensures) (omega arith)) c.put_cells.ensures
