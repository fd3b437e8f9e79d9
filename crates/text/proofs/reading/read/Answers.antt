use Rattle.std.proofs.Common.{◌≡◌, rules, refl, Ok, Err, arith, sym, ap, min, length}
use Rattle.std.specs.Prelude.{MatchResult}
use Rattle.text.specs.Limits.{max_cells}
use Rattle.text.specs.Pieces.{lines_left}
use Rattle.text.specs.ReadLaws.{begin, too_long, reached_as, line_refused_as, line_taken, ended_short, ended}
use Rattle.text.proofs.reading.read.Goals as goal

pub returns-then-text-gt-MAX_BYTES : goal.returns-then-text-gt-MAX_BYTES
returns-then-text-gt-MAX_BYTES c = too_long (min max_cells (length c.args.script.now)) c.args.text.now c.args.script.now (omega arith)

pub loop-line-init : goal.loop-line-init
loop-line-init c =
    record {
      can_next = tt;
      is_finite = tt;
      reached =
          reached_as (begin c.min-room.result c.args.text.now c.args.script.now (omega arith) (omega (arith, c.min-room.ensures)) (omega (arith, c.min-room.ensures)))
          (sym (ap lines_left c.into_iter-line-iterator.ensures.into_iter_gives));
    }

pub returns-in_err-used : goal.returns-in_err-used
returns-in_err-used c =
    let room : min max_cells (length c.args.script.now) ≡ c.min-room.result = omega (arith, c.min-room.ensures) in
    let m : MatchResult c.put_line.result (λ k. c.map_err.result ≡ Ok k) (λ k. c.map_err.result ≡ Err record { rule = k; place = c.loop-line.n }) = search rules in
    let e : c.map_err.result ≡ Err c.in_err-used.field-0.0 = search rules in
    let r : c.from_residual.result ≡ Err c.in_err-used.field-0.0 = search rules in
    rw (room, r) (line_refused_as (reached_as c.loop-line.invariant.reached c.in-Some.ensures.steps) refl c.put_line.ensures refl c.map_err.result c.in_err-used.field-0.0 m e)

pub bounds-script-0 : goal.bounds-script-0
bounds-script-0 c =
    let o : c.put_line.result ≡ Ok c.in_ok-used.field-0 = search rules in
    let t = line_taken (reached_as c.loop-line.invariant.reached c.in-Some.ensures.steps) refl c.put_line.ensures refl c.in_ok-used.field-0 o in
    omega (arith, t.low, t.inside, t.most, c.loop-line.invariant.reached.pos)

pub loop-line-preserved : goal.loop-line-preserved
loop-line-preserved c =
    let o : c.put_line.result ≡ Ok c.in_ok-used.field-0 = search rules in
    record {
      can_next = tt;
      is_finite = tt;
      reached = line_taken (reached_as c.loop-line.invariant.reached c.in-Some.ensures.steps) refl c.put_line.ensures refl c.in_ok-used.field-0 o;
    }

pub returns-then-n-lt5 : goal.returns-then-n-lt5
returns-then-n-lt5 c =
    let room : min max_cells (length c.args.script.now) ≡ c.min-room.result = omega (arith, c.min-room.ensures) in
    rw room (ended_short (reached_as c.loop-line.invariant.reached c.in-None.ensures.steps.0) c.if-n-lt5.true)

pub returns : goal.returns
returns c =
    let room : min max_cells (length c.args.script.now) ≡ c.min-room.result = omega (arith, c.min-room.ensures) in
    rw room (ended (reached_as c.loop-line.invariant.reached c.in-None.ensures.steps.0) c.if-n-lt5.false)
