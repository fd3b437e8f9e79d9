use Rattle.std.proofs.Common.{◌≡◌, ◌<◌, rules, refl, ◌∷◌, ap, sym, ◌∙◌, arith, length, List, ℕ}
use Rattle.text.specs.Split.{lines}
use Rattle.text.specs.SplitLaws.{lines_cut, no_lines, text_left}
use Rattle.text.proofs.pieces.LinesIterator.next.Goals as goal

pub returns-then-is_empty-clause-steps : goal.returns-then-is_empty-clause-steps
returns-then-is_empty-clause-steps c =
    let h : length c.args.self.now.left.now ≡ 0 = search rules in
    let e = no_lines c.args.self.now.left.now h in (e, e)

pub returns-clause-steps : goal.returns-clause-steps
returns-clause-steps c =
    let h : 0 < length c.args.self.now.left.now = search rules in
    lines_cut c.args.self.now.left.now c.cut.result.0.now c.cut.result.1 h c.cut.ensures.first c.cut.ensures.rest
    ∙ sym (ap (λ (l : List ℕ). c.cut.result.0.now ∷ lines l) (ap (λ b. b.now) c.unwrap_or-self.ensures ∙ text_left c.cut.result.1 _ refl))

pub returns-clause-goes : goal.returns-clause-goes
returns-clause-goes c =
    let h : 0 < length c.args.self.now.left.now = search rules in
    let e = lines_cut c.args.self.now.left.now c.cut.result.0.now c.cut.result.1 h c.cut.ensures.first c.cut.ensures.rest in
    let t = ap (λ (l : List ℕ). length (lines l)) (ap (λ b. b.now) c.unwrap_or-self.ensures ∙ text_left c.cut.result.1 _ refl) in
    record { on = λ _. (tt, tt, omega (arith, ap length e, t)); keeps = tt; rests = λ _. tt }
