use Rattle.intake.specs.Adding.{adds_closed, sorted_simplifiable, adds_dropped, left_takeable, adds_left}
use Rattle.intake.proofs.add_clause.Goals as goal

pub returns-then-not-s-clause-has : goal.returns-then-not-s-clause-has
returns-then-not-s-clause-has c =
    (adds_closed c.args.s.now c.requires.still c.requires.level c.args.part.now c.requires.literals c.if-not-s.true).has

pub returns-then-not-s-clause-answer : goal.returns-then-not-s-clause-answer
returns-then-not-s-clause-answer c =
    (adds_closed c.args.s.now c.requires.still c.requires.level c.args.part.now c.requires.literals c.if-not-s.true).answer

pub simplify-requires : goal.simplify-requires
simplify-requires c =
    sorted_simplifiable c.args.s.now c.requires.still c.requires.level c.args.part.now c.requires.literals c.sort_in.ensures

pub returns-then-not-simplify-clause-has : goal.returns-then-not-simplify-clause-has
returns-then-not-simplify-clause-has c =
    (adds_dropped c.args.s.now c.requires.still c.requires.level c.args.part.now c.requires.literals c.sort_in.ensures c.if-not-s.false c.simplify.ensures
    c.if-not-simplify.true).has

pub returns-then-not-simplify-clause-answer : goal.returns-then-not-simplify-clause-answer
returns-then-not-simplify-clause-answer c =
    (adds_dropped c.args.s.now c.requires.still c.requires.level c.args.part.now c.requires.literals c.sort_in.ensures c.if-not-s.false c.simplify.ensures
    c.if-not-simplify.true).answer

pub take_kept-requires : goal.take_kept-requires
take_kept-requires c =
    left_takeable c.args.s.now c.requires.still c.requires.level c.args.part.now c.requires.literals c.sort_in.ensures c.if-not-s.false c.simplify.ensures
    c.if-not-simplify.false

pub returns-clause-has : goal.returns-clause-has
returns-clause-has c =
    (adds_left c.args.s.now c.requires.still c.requires.level c.args.part.now c.requires.literals c.sort_in.ensures c.if-not-s.false c.simplify.ensures
    c.if-not-simplify.false c.take_kept.ensures).has

pub returns-clause-answer : goal.returns-clause-answer
returns-clause-answer c =
    (adds_left c.args.s.now c.requires.still c.requires.level c.args.part.now c.requires.literals c.sort_in.ensures c.if-not-s.false c.simplify.ensures
    c.if-not-simplify.false c.take_kept.ensures).answer
