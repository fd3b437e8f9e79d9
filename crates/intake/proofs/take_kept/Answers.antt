use Rattle.std.proofs.Common.{◌∙◌, sym, arith}
use Rattle.intake.specs.Taking.{took_none, took_unit, took_full, took_storable, took_stored}
use Rattle.intake.proofs.take_kept.Goals as goal

pub returns-then-n-eq0 : goal.returns-then-n-eq0
returns-then-n-eq0 c = took_none c.args.s.now c.requires (sym c.len-n.ensures ∙ c.if-n-eq0.true)

pub returns-then-n-eq1 : goal.returns-then-n-eq1
returns-then-n-eq1 c = rw c.enqueue.ensures (took_unit c.args.s.now c.requires c.at.result.0 (sym c.len-n.ensures ∙ c.if-n-eq1.true) c.at.ensures)

pub store_buffer-requires : goal.store_buffer-requires
store_buffer-requires c =
    took_storable c.args.s.now c.requires (omega (arith, c.if-n-eq0.false, c.if-n-eq1.false)) _ c.len-n.ensures _ c.has_room.ensures c.if-not-has_room.false

pub returns-then-not-has_room : goal.returns-then-not-has_room
returns-then-not-has_room c =
    took_full c.args.s.now c.requires (omega (arith, c.if-n-eq0.false, c.if-n-eq1.false)) _ c.len-n.ensures _ c.has_room.ensures c.if-not-has_room.true

pub returns : goal.returns
returns c =
    took_stored c.args.s.now c.requires (omega (arith, c.if-n-eq0.false, c.if-n-eq1.false)) _ c.len-n.ensures _ c.has_room.ensures c.if-not-has_room.false
    c.store_buffer.ensures
