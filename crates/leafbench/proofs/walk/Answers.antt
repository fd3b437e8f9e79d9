use Rattle.std.proofs.Common.{arith, refl, sym, ap, ◌∙◌, ◌≡◌, ◌<◌, Bool, true, false, suc, length, get_or, drop, ltb-true, ltb-false, drop_of_length-le}
use mir.Val.{bool_byte}
use Rattle.watch.specs.View.{list_of}
use Rattle.tour.specs.Steps.{pick}
use Rattle.leafbench.specs.Results.{blocks, hits}
use Rattle.leafbench.specs.Loops.{hit, hits-bound, hits_none, walked_on}
use Rattle.leafbench.proofs.walk.Goals as goal

bit : (b : Bool) → bool_byte b ≡ pick b 1 0
bit true = refl
bit false = refl

pub overflow_add-k : goal.overflow_add-k
overflow_add-k c =
    let s = c.state-s.result.now in
    let xs = list_of s.watches c.args.l.0 in
    let v = c.loop-s in
    let more : v.c.passed < length xs = ltb-true _ _ (sym c.more.ensures ∙ c.loop-s-test.true) in
    let one : c.from-k.result ≡ hit s (get_or xs v.c.passed 0) = rw (c.from-k.ensures, c.blocks-in-loop-s.ensures, ← c.state-s.ensures.is, c.node-x.ensures.0) (bit (blocks s (get_or s.watches.blockers (get_or xs v.c.passed 0) 0))) in
    omega (arith, one, walked_on s xs v.c.passed more, v.invariant.1, hits-bound s xs, rw (← c.state-s.ensures.is) at c.requires.1)

pub loop-s-preserved : goal.loop-s-preserved
loop-s-preserved c =
    let s = c.state-s.result.now in
    let xs = list_of s.watches c.args.l.0 in
    let v = c.loop-s in
    let more : v.c.passed < length xs = ltb-true _ _ (sym c.more.ensures ∙ c.loop-s-test.true) in
    let one : c.from-k.result ≡ hit s (get_or xs v.c.passed 0) = rw (c.from-k.ensures, c.blocks-in-loop-s.ensures, ← c.state-s.ensures.is, c.node-x.ensures.0) (bit (blocks s (get_or s.watches.blockers (get_or xs v.c.passed 0) 0))) in
    let next : c.stay-c.result.passed ≡ suc v.c.passed = omega (arith, c.stay-c.ensures.1) in
    let rest : hits s (drop c.stay-c.result.passed xs) ≡ hits s (drop (suc v.c.passed) xs) = ap (λ m. hits s (drop m xs)) next in
    (c.stay-c.ensures.0, omega (arith, one, rest, walked_on s xs v.c.passed more, v.invariant.1))

pub returns : goal.returns
returns c =
    let s = c.state-s.result.now in
    let xs = list_of s.watches c.args.l.0 in
    let v = c.loop-s in
    let done = ltb-false v.c.passed (length xs) (sym c.more.ensures ∙ c.loop-s-test.false) in
    rw (← c.state-s.ensures.is) (omega (arith, hits_none s (drop v.c.passed xs) (ap length (drop_of_length-le xs done)), v.invariant.1))
