use Rattle.std.proofs.Common.{◌≡◌, rules, ap, sym, ◌∙◌, None, Some, Err}
use Rattle.refusal.specs.declared.Rule.TheVariants.{BadKey}
use Rattle.text.specs.PutLaws.{field_of, value_key, value_is}
use Rattle.text.specs.SplitLaws.{stripped_none, stripped_some}
use Rattle.text.proofs.reading.read_field.Goals as goal

pub returns-in_err-word : goal.returns-in_err-word
returns-in_err-word c =
    let n : c.strip_prefix.result ≡ None = search rules in
    let r : c.from_residual.result ≡ Err BadKey = search rules in
    r ∙ ap field_of (sym (value_key c.args.key.now c.args.line.now (stripped_none c.args.key.now c.args.line.now c.strip_prefix.result c.strip_prefix.ensures.cases n)))

pub returns : goal.returns
returns c =
    let n : c.strip_prefix.result ≡ Some c.in_ok-word.word = search rules in
    let s = stripped_some c.args.key.now c.args.line.now c.strip_prefix.result _ c.strip_prefix.ensures.cases n in
    c.ok_or-2.ensures.value ∙ value_is c.args.key.now c.args.line.now c.in_ok-word.word.now c.decimal.result s.0 s.1 c.decimal.ensures
