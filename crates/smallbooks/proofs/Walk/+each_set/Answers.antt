use Rattle.std.proofs.Common.{arith, lit<}
use Rattle.smallbooks.proofs.Tell.{room_solve, chose_here, chose_out, clause_inside, shorter, clause_fits, choosing_with, one_more_taken, choosing_without, chose_both}
use Rattle.smallbooks.proofs.Walk.+each_set.Goals as goal

pub solve-requires : goal.solve-requires
solve-requires t c = room_solve c.requires c.if-left-eq0.true

pub returns-then-left-eq0-clause-chose : goal.returns-then-left-eq0-clause-chose
returns-then-left-eq0-clause-chose t c = chose_here c.requires c.if-left-eq0.true c.solve.ensures.told

pub returns-in_default-clause-chose : goal.returns-in_default-clause-chose
returns-in_default-clause-chose t c = chose_out c.requires c.if-left-eq0.false c.in_default.len_below

pub split_at-requires : goal.split_at-requires
split_at-requires t c = clause_inside c.in-len2-up.len_at_least c.requires.rules c.requires.same

pub put_clause-requires : goal.put_clause-requires
put_clause-requires t c = let s = c.split_at.ensures in
    (lit< tt, clause_fits c.requires c.if-left-eq0.false c.in-len2-up.len_at_least s.front s.back)

pub each_set-requires : goal.each_set-requires
each_set-requires t c = let s = c.split_at.ensures in let h = c.in-len2-up.len_at_least in
    (omega (arith, c.decreases, shorter c.args.listed.now h s.back), choosing_with c.requires c.if-left-eq0.false h s.front s.back c.put_clause.ensures)

pub overflow_sub-self : goal.overflow_sub-self
overflow_sub-self t c = let s = c.split_at.ensures in
    one_more_taken c.requires c.if-left-eq0.false c.in-len2-up.len_at_least s.front s.back c.put_clause.ensures c.each_set.ensures.chose c.len-used.ensures.value c.truncate.ensures.items

pub each_set-requires-2 : goal.each_set-requires-2
each_set-requires-2 t c = let s = c.split_at.ensures in let h = c.in-len2-up.len_at_least in
    (omega (arith, c.decreases, shorter c.args.listed.now h s.back), choosing_without c.requires c.if-left-eq0.false h s.front s.back c.put_clause.ensures c.each_set.ensures.chose c.len-used.ensures.value c.truncate.ensures.items)

pub returns-clause-chose : goal.returns-clause-chose
returns-clause-chose t c = let s = c.split_at.ensures in
    chose_both c.requires c.if-left-eq0.false c.in-len2-up.len_at_least s.front s.back c.put_clause.ensures c.each_set.ensures.chose c.len-used.ensures.value c.truncate.ensures.items c.each_set-2.ensures.chose
