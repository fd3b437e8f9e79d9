use Rattle.std.specs.Prelude.{[], replicate}
use Rattle.std.proofs.Common.{refl, ap, ap₂, ◌∙◌, arith, ◌≡◌, ◌*◌, ◌+◌, ◌≤◌, ℕ, List, length, take, drop, length-drop}
use Rattle.std.proofs.lemmas.List.{length-replicate, drop-drop}
use Rattle.std.proofs.Math.Seq.{length-take-le}
use Rattle.trail.specs.View as trail
use Rattle.trail.specs.View.{initial_assignment}
use Rattle.scratch.specs.Row.{Row, row}
use Rattle.watch.specs.View as watch
use Rattle.watch.specs.View.{emptied}
use Rattle.store.specs.View as store
use Rattle.store.specs.View.{Clauses, no_clauses}
use Rattle.litset.specs.View.{Members}
use Rattle.state.specs.Start.{used}
use Rattle.state.specs.Begin.{Blank, blank_has, scratch_is, state_is}
use Rattle.state.proofs.State.within.Goals as goal

abbrev with_cells : ℕ → List ℕ → Members
with_cells k xs = record { items = []; flag_cells = replicate k 0; item_cells = xs }

-- how long a part is
part : (a n : ℕ) (xs : List ℕ) → a + n ≤ length xs → length (take n (drop a xs)) ≡ n
part a n xs h = length-take-le n (drop a xs) (omega (arith, length-drop a xs))

pub returns-clause-state : goal.returns-clause-state
returns-clause-state c =
    let cells = c.split_at_mut-scratch.ensures.front_len in
    let n = c.args.config.vars in
    let b : Blank c.args.config _ =
    record {
      config = refl;
      vars = ap (λ a. a.vars) c.new.ensures;
      phases = ap (λ a. a.phases) c.new.ensures;
      marks = c.new-2.ensures.marks;
      buffer = ap (λ (r : Row). length r.cells) c.new-2.ensures.buffer ∙ part n (2 * n) _ (omega (arith, cells));
      stack = ap (λ (r : Row). length r.cells) c.new-2.ensures.stack ∙ part (3 * n) n _ (omega (arith, cells));
      notes = ap (λ (r : Row). length r.cells) c.new-2.ensures.notes ∙ part (4 * n) n _ (omega (arith, cells));
      lists = c.new-3.ensures.lists;
      blockers = c.new-3.ensures.blockers;
      clauses = ap (λ (k : Clauses). k.clauses) c.new-4.ensures;
      pushed = ap (λ (k : Clauses). k.pushed) c.new-4.ensures;
      room = ap (λ (k : Clauses). k.room) c.new-4.ensures ∙ omega (arith, c.split_at_mut-starts.ensures.front_len);
      lit_room = ap (λ (k : Clauses). k.lit_room) c.new-4.ensures ∙ c.split_at_mut-literals.ensures.front_len;
      final = ap (λ (f : Members). f.items) c.new-5.ensures;
      flags = ap (λ (f : Members). length f.flag_cells) c.new-5.ensures ∙ length-replicate _ 0 ∙ c.split_at_mut-flags.ensures.front_len;
      members = ap (λ (f : Members). length f.item_cells) c.new-5.ensures ∙ c.split_at_mut-items.ensures.front_len;
      qhead = refl;
      ok = refl;
    }
    in
    let m = c.args.config.room in
    let r₁ = c.split_at_mut-trail.ensures.back in
    let r₂ = c.split_at_mut-scratch.ensures.back ∙ ap (drop (5 * n)) r₁ in
    let r₃ = c.split_at_mut-watches.ensures.back ∙ ap (drop (8 * n + 4 * m)) r₂ in
    let r₄ = c.split_at_mut-starts.ensures.back ∙ ap (drop (m + 1)) r₃ in
    let r₅ = c.split_at_mut-literals.ensures.back ∙ ap (drop c.args.config.lit_room) r₄ in
    let r₆ = c.split_at_mut-flags.ensures.back ∙ ap (drop (2 * n)) r₅ in
    let p = c.split_at_mut-scratch.ensures.front ∙ ap (take (5 * n)) r₁ in
    let is =
    state_is (c.new.ensures ∙ ap (λ xs. initial_assignment n (trail.found n xs)) c.split_at_mut-trail.ensures.front)
    (scratch_is c.new-2.ensures.marks (c.new-2.ensures.buffer ∙ ap (λ xs. row 0 (take (2 * n) (drop n xs))) p)
    (c.new-2.ensures.stack ∙ ap (λ xs. row 0 (take n (drop (3 * n) xs))) p) (c.new-2.ensures.notes ∙ ap (λ xs. row 0 (take n (drop (4 * n) xs))) p))
    (c.new-3.ensures.value ∙ ap (λ xs. emptied (2 * n) (watch.found (2 * n) (2 * m) xs)) (c.split_at_mut-watches.ensures.front ∙ ap (take (8 * n + 4 * m)) r₂))
    (c.new-4.ensures ∙ ap₂ (λ xs ys. no_clauses (store.found xs ys)) (c.split_at_mut-starts.ensures.front ∙ ap (take (m + 1)) r₃) (c.split_at_mut-literals.ensures.front ∙ ap (take c.args.config.lit_room) r₄))
    (c.new-5.ensures ∙ ap₂ with_cells c.split_at_mut-flags.ensures.front_len (c.split_at_mut-items.ensures.front ∙ ap (take (n + 1)) r₆))
    in
    record { is = is; config = refl; has = blank_has c.args.config _ b _ c.requires }

pub returns-clause-behind : goal.returns-clause-behind
returns-clause-behind c =
    let n = c.args.config.vars in
    let m = c.args.config.room in
    let l = c.args.config.lit_room in
    let w = c.args.work.now in
    let r₁ = c.split_at_mut-trail.ensures.back in
    let r₂ = c.split_at_mut-scratch.ensures.back ∙ ap (drop (5 * n)) r₁ ∙ drop-drop (5 * n) (8 * n) w in
    let r₃ = c.split_at_mut-watches.ensures.back ∙ ap (drop (8 * n + 4 * m)) r₂ ∙ drop-drop (8 * n + 4 * m) (8 * n + 5 * n) w in
    let r₄ = c.split_at_mut-starts.ensures.back ∙ ap (drop (m + 1)) r₃ ∙ drop-drop (m + 1) (8 * n + 5 * n + (8 * n + 4 * m)) w in
    let r₅ = c.split_at_mut-literals.ensures.back ∙ ap (drop l) r₄ ∙ drop-drop l (8 * n + 5 * n + (8 * n + 4 * m) + (m + 1)) w in
    let r₆ = c.split_at_mut-flags.ensures.back ∙ ap (drop (2 * n)) r₅ ∙ drop-drop (2 * n) (8 * n + 5 * n + (8 * n + 4 * m) + (m + 1) + l) w in
    let r₇ = c.split_at_mut-items.ensures.back ∙ ap (drop (n + 1)) r₆ ∙ drop-drop (n + 1) (8 * n + 5 * n + (8 * n + 4 * m) + (m + 1) + l + 2 * n) w in
    let all : 8 * n + 5 * n + (8 * n + 4 * m) + (m + 1) + l + 2 * n + (n + 1) ≡ used c.args.config = omega arith in
    r₇ ∙ ap (λ k. drop k w) all
