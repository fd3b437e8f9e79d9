use Rattle.std.proofs.Common.{◌≡◌, rules, Err}
use Rattle.text.specs.PutLaws.{puts_wrong, puts_as, value_wrong, value_one}
use Rattle.text.proofs.reading.put_field.Goals as goal

pub returns-in_err-value : goal.returns-in_err-value
returns-in_err-value c =
    let r : c.from_residual.result ≡ Err c.in_err-value.field-0.0 = search rules in
    rw r (puts_wrong (value_wrong c.args.key.now c.args.line.now c.in_err-value.field-0.0 c.in_err-value.ensures))

pub returns : goal.returns
returns c = puts_as _ (value_one c.args.key.now c.args.line.now c.in_ok-value.value c.in_ok-value.ensures) c.put_cells.ensures
