use Rattle.std.proofs.Common.{◌≡◌, refl, rules, ap, sym, ◌∙◌, arith, Err, ◌+◌, ◌++◌, length, length-append}
use Rattle.text.specs.Format.{literals}
use Rattle.text.specs.FormatLaws.{counted_wrong, counted_good, good_all, listed}
use Rattle.text.specs.PutLaws.{recorded, literals_room, puts_cells, puts_wrong, puts_long, record_wrong, record_cells_of}
use Rattle.text.specs.Pieces.{words_left}
use Rattle.script.specs.Kinds.{cell_of}
use Rattle.script.specs.declared.Kind.{Kind}
use Rattle.script.specs.declared.Kind.TheVariants.{Clause, Solve}
use Rattle.script.specs.contracts.Kind.{the_type}
use denote.Enum.Declared.{tag_of}
use Rattle.text.proofs.reading.put_record.Goals as goal
use Rattle.text.proofs.reading.put_record.Goals.{then-rest-count-via-then-rest-count, then-rest-count-via-else-rest-count+then-rest-count-2}

-- what is stored for a kind is its number
tagged : (kind : Kind) → tag_of the_type kind + 1 ≡ cell_of kind
tagged Clause = refl
tagged Solve = refl

pub returns-in_err-count : goal.returns-in_err-count
returns-in_err-count c =
    let r : c.from_residual.result ≡ Err c.in_err-count.field-0.0 = search rules in
    rw r (puts_wrong (record_wrong (cell_of c.args.kind) c.args.more.now (counted_wrong 0 _ c.in_err-count.field-0.0 (sym c.in_err-count.ensures))))

pub returns-then-rest-count : goal.returns-then-rest-count
returns-then-rest-count c =
    let ls = listed (literals c.args.vars.count (words_left c.args.words)) in
    let g = counted_good 0 (literals c.args.vars.count (words_left c.args.words)) c.in_ok-count.count (sym c.in_ok-count.ensures) in
    let n : length (ls ++ c.args.more.now) ≡ c.in_ok-count.count + length c.args.more.now = omega (arith, length-append ls c.args.more.now, g.1) in
    puts_long _ (record_cells_of (cell_of c.args.kind) c.args.more.now g.0)
    (elim c.then-rest-count.branch [ then-rest-count-via-then-rest-count w ↦ omega arith | then-rest-count-via-else-rest-count+then-rest-count-2 w ↦ omega arith ])

pub put_literals-requires : goal.put_literals-requires
put_literals-requires c =
    let ws = words_left c.args.words in
    let g = counted_good 0 (literals c.args.vars.count ws) c.in_ok-count.count (sym c.in_ok-count.ensures) in
    ap length (good_all c.args.vars.count ws (listed (literals c.args.vars.count ws)) g.0) ∙ omega (arith, g.1) ∙ sym (literals_room _ c.in_ok-count.count c.args.rest.now (omega arith))

pub returns : goal.returns
returns c =
    let ws = words_left c.args.words in
    let ls = listed (literals c.args.vars.count ws) in
    let g = counted_good 0 (literals c.args.vars.count ws) c.in_ok-count.count (sym c.in_ok-count.ensures) in
    let m : c.in_ok-count.count ≡ length ls = omega (arith, g.1) in
    puts_cells _ (record_cells_of (cell_of c.args.kind) c.args.more.now g.0) (omega (arith, length-append ls c.args.more.now)) (omega arith)
    (rw (tagged c.args.kind)
    (recorded (cell_of c.args.kind) c.in_ok-count.count c.args.rest.now ls c.args.more.now _ _ m (c.put_literals.ensures ∙ good_all c.args.vars.count ws ls g.0) c.copy_from_slice.ensures.after (omega arith)))
