use Rattle.std.proofs.Common.{arith, rules, ◌≡◌, ◌≢◌, inl, inr}
use Rattle.lawbase.specs.Basics.{split}
use Rattle.search.specs.declared.Status.TheVariants.{Undef}
use Rattle.search.specs.Looping.{solving_starts, solving_index, solving_word, solving_spent, solving_less, solving_goes, solving_ends}
use Rattle.search.proofs.solve_internal.Goals as goal

pub loop-conflicts-init : goal.loop-conflicts-init
loop-conflicts-init c = solving_starts c.args.q.budget c.requires.limited c.requires.running c.requires.level

pub luby-requires : goal.luby-requires
luby-requires c = solving_index c.requires.running c.requires.limited c.loop-conflicts.invariant

pub overflow_mul-nof : goal.overflow_mul-nof
overflow_mul-nof c = record { fits = solving_word c.requires.running c.requires.limited c.loop-conflicts.invariant c.luby.ensures }

pub search-r-requires-clause-few : goal.search-r-requires-clause-few
search-r-requires-clause-few c = solving_spent c.requires.running c.requires.limited c.loop-conflicts.invariant

pub returns-then-ne : goal.returns-then-ne
returns-then-ne c =
    solving_ends c.requires.running c.requires.limited c.loop-conflicts.invariant c.luby.ensures c.search-r.ensures
    (split c.then-ne.either (λ h. let z : c.search-r.result.status ≢ Undef = search (rules, c.ne.ensures, h) in inl z) (λ h. inr h.1))

pub overflow_add-restarts : goal.overflow_add-restarts
overflow_add-restarts c = omega (arith, solving_index c.requires.running c.requires.limited c.loop-conflicts.invariant)

pub loop-conflicts-smaller : goal.loop-conflicts-smaller
loop-conflicts-smaller c =
    let z : c.search-r.result.status ≡ Undef = search (rules, c.if-ne.ensures) in
    solving_less c.requires.running c.requires.limited c.loop-conflicts.invariant c.luby.ensures c.search-r.ensures z (omega (arith, c.if-q-r.false))

pub loop-conflicts-preserved : goal.loop-conflicts-preserved
loop-conflicts-preserved c =
    let z : c.search-r.result.status ≡ Undef = search (rules, c.if-ne.ensures) in
    solving_goes c.requires.running c.requires.limited c.loop-conflicts.invariant c.luby.ensures c.search-r.ensures z (omega (arith, c.if-q-r.false))
