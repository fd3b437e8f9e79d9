use Rattle.std.proofs.Common.{arith, rules, length, take, ◌≡◌}
use Rattle.loadsat.proofs.Outputs.{mapped, read_ok, answered_if}
use Rattle.loadsat.proofs.respond.Goals as goal

pub returns-clause-answers : goal.returns-clause-answers
returns-clause-answers g c =
    answered_if _ _ _ _ _ c.read_all.new.input c.in_ok-n.n _ _ _ c.map_err-2.ensures.variant (omega (arith, c.requires, c.read_all.auto))
    (read_ok _ (λ k xs. take k c.read_all.new.input ≡ take (length c.read_all.new.input) xs) c.read_all.result c.in_ok-n.n
    (mapped _ c.read_all.result c.map_err.result c.in_ok-n.n c.map_err.ensures.cases c.map_err.ensures.variant (search rules)) c.read_all.ensures.bytes)
    c.bench-m.ensures c.write_all.ensures.bytes
