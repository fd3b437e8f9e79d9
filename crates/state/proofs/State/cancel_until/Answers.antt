use Rattle.state.specs.Back.{back_undoable, back_has, cut_beside, cut_stored, cut_trail}
use Rattle.options.specs.Numbers.{phase_number}
use Rattle.state.proofs.State.cancel_until.Goals as goal

pub back_to-requires : goal.back_to-requires
back_to-requires c = back_undoable c.args.self.now c.requires c.args.level

pub returns : goal.returns
returns c =
    let s = c.args.self.now in
    let p = phase_number s.config.phase in
    let l = c.args.level in
    rw c.back_to.ensures (record { has = back_has s c.requires l; beside = cut_beside p s l; stored = cut_stored p s l; trail = cut_trail p s l })
