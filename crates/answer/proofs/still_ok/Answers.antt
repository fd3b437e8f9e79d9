use Rattle.std.proofs.Common.{rules, ◌≡◌, ◌≢◌, sym, ◌∙◌, inl, inr}
use Rattle.search.specs.declared.Status.TheVariants.{False}
use Rattle.answer.specs.Backing.{ok_kept, ok_closed}
use Rattle.answer.proofs.still_ok.Goals as goal
use Rattle.answer.proofs.still_ok.Goals.{else-eq-via-then-eq+else-len-eq0, else-eq-via-else-eq}

pub returns-then-len-eq0 : goal.returns-then-len-eq0
returns-then-len-eq0 c =
    let z : c.args.status ≡ False = search (rules, c.if-eq.ensures) in
    ok_closed c.args.status c.requires z (sym c.len.ensures ∙ c.if-len-eq0.true)

pub returns-else-eq : goal.returns-else-eq
returns-else-eq c =
    ok_kept c.args.status c.requires
    (elim c.else-eq.branch [
      | else-eq-via-then-eq+else-len-eq0 w ↦ inr (λ e. w.if-len-eq0.false (w.len.ensures ∙ e))
      | else-eq-via-else-eq w ↦ let z : c.args.status ≢ False = search (rules, c.eq.ensures, w.if-eq.false) in inl z
    ])
