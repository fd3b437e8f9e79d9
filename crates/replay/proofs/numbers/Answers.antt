use Rattle.std.proofs.Common.{◌≡◌, length, take, refl, sym, ap, ◌∙◌, arith, length-set, length-take-le}
use Rattle.std.proofs.lemmas.List.{take-set}
use Rattle.replay.specs.LineLaws.{numbers_start, numbers_bad, numbers_over, numbers_more, numbers_end}
use Rattle.replay.proofs.numbers.Goals as goal

pub loop-k-init : goal.loop-k-init
loop-k-init c = numbers_start c.args.line.now _ (length c.args.cells.now) c.cut.result.1 c.cut.ensures.first c.cut.ensures.rest

pub returns-in_default : goal.returns-in_default
returns-in_default c =
    let l = c.loop-k in
    (simp length-set (omega arith), take-set l.cells l.k _ ∙ numbers_end (length c.args.cells.now) (take l.k l.cells) c.in_default.is ∙ l.invariant)

pub returns-in_default-decimal : goal.returns-in_default-decimal
returns-in_default-decimal c =
    let l = c.loop-k in
    let e = c.cut-in-loop-k in (
      omega arith,
      numbers_bad e.result.1 c.in-Some.is e.ensures.first e.ensures.rest (length c.args.cells.now) (take l.k l.cells) (sym c.decimal.ensures ∙ c.in_default-decimal.is) ∙ l.invariant,
    )

pub loop-k-preserved : goal.loop-k-preserved
loop-k-preserved c =
    let l = c.loop-k in
    let e = c.cut-in-loop-k in
    let n : length (take l.k l.cells) ≡ l.k = length-take-le l.k l.cells (omega arith) in
    numbers_more e.result.1 c.in-Some.is e.ensures.first e.ensures.rest (length c.args.cells.now) (take l.k l.cells) _ (sym c.decimal.ensures ∙ c.in-Some-decimal.is) (omega arith) l.k l.cells (omega arith) refl
    ∙ l.invariant

pub returns-in-Some-left : goal.returns-in-Some-left
returns-in-Some-left c =
    let l = c.loop-k in
    let n : length (take l.k l.cells) ≡ l.k = length-take-le l.k l.cells (omega arith) in
    (omega arith, numbers_over (length c.args.cells.now) (take l.k l.cells) c.in-Some-left.is (omega arith) ∙ l.invariant)

pub returns-in-None : goal.returns-in-None
returns-in-None c =
    let l = c.loop-k in
    let k : l.k ≡ length l.cells = omega arith in
    (omega arith, ap (λ n. take n l.cells) (sym k) ∙ numbers_end (length c.args.cells.now) (take l.k l.cells) c.in-None.is ∙ l.invariant)
