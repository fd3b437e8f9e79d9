use Rattle.std.proofs.Common.{◌≡◌, rules, sym, ap, ◌∙◌, arith, length, ◌≤◌, None, Some, Err}
use Rattle.refusal.specs.declared.Rule.TheVariants.{BadNumber}
use Rattle.text.specs.Format.{literals}
use Rattle.text.specs.FormatLaws.{counted, most_words, words_few, count_bad, count_more, count_end}
use Rattle.text.specs.Pieces.{words_left}
use Rattle.text.proofs.reading.count_literals.Goals as goal

pub overflow_add-count : goal.overflow_add-count
overflow_add-count c =
    let b : most_words c.args.words.left ≤ 9223372036854775808 = search rules in
    omega (arith, b, words_few c.args.words.left, ap length c.in-Some.ensures.steps, c.loop-word.invariant.few)

pub returns-in_err-ok_or : goal.returns-in_err-ok_or
returns-in_err-ok_or c =
    let r : c.from_residual.result ≡ Err BadNumber = search rules in
    let l : c.literal.result ≡ None = search rules in
    r ∙ sym (count_bad c.args.vars.count c.in-Some.ensures.steps c.loop-word.count (sym c.literal.ensures ∙ l)) ∙ c.loop-word.invariant.same

pub loop-word-init : goal.loop-word-init
loop-word-init c =
    let i = c.into_iter-word-iterator.ensures.into_iter_gives in
    record {
      can_next = tt;
      is_finite = tt;
      same = ap (λ w. counted 0 (literals c.args.vars.count (words_left w))) i;
      few = omega (arith, ap (λ w. length (words_left w)) i);
    }

pub loop-word-preserved : goal.loop-word-preserved
loop-word-preserved c =
    let l : c.literal.result ≡ Some c.in_ok-ok_or.field-0 = search rules in
    record {
      can_next = tt;
      is_finite = tt;
      same = sym (count_more c.args.vars.count c.in-Some.ensures.steps c.loop-word.count _ (sym c.literal.ensures ∙ l)) ∙ c.loop-word.invariant.same;
      few = omega (arith, ap length c.in-Some.ensures.steps, c.loop-word.invariant.few);
    }

pub returns : goal.returns
returns c = count_end c.args.vars.count c.loop-word.count c.in-None.ensures.steps.0 ∙ c.loop-word.invariant.same
