-- Pushing the literals of a reason.
use Rattle.std.specs.Prelude.{ℕ, ◌+◌, ◌≤◌, ◌<◌, ◌≡◌, refl, Bool, true, false, List, length, get_or, drop}
use Rattle.std.proofs.Common.{ap, sym, ◌∙◌}
use Rattle.std.proofs.lemmas.List.{drop_all}
use Rattle.model.specs.Lit.{var}
use Rattle.model.specs.Minimise.{push_reason}
use Rattle.trail.specs.View.{Assignment, LitsOf}
use Rattle.scratch.specs.declared.Scratch.{Scratch}
use Rattle.minimise.specs.Tracing.{Tidy, Stacked, Puttable, tidy_room, stacked_put, Going, going_start, going_put, tracing, tracing_put, put_in, traceable, open_lit, open_parts, step_end, step_pass, step_stop, step_put, outcome}

-- the literals are of the variables, and can be marked, pushed and noted
pub record Pushable (a : Assignment) (s : Scratch) (part : List ℕ) : Type 0 where
  pub lits : LitsOf (length a.vars.values) part
  pub tidy : Tidy (length a.vars.values) s
  pub stacked : Stacked (length a.vars.values) s

-- s became s': what the definition makes of the literals, and none where one of them ends it
pub record Pushes (a : Assignment) (s s' : Scratch) (mask : ℕ) (part : List ℕ) (r : Bool) : Type 0 where
  pub going : Going (length a.vars.values) s s'
  pub buffer : s'.buffer ≡ s.buffer
  pub stacked : Stacked (length a.vars.values) s'
  pub result : push_reason a.vars mask part (tracing s) ≡ outcome r (tracing s')

-- the same, of the first i of them
pub record Pushing (a : Assignment) (s s' : Scratch) (mask : ℕ) (part : List ℕ) (i : ℕ) : Type 0 where
  pub going : Going (length a.vars.values) s s'
  pub buffer : s'.buffer ≡ s.buffer
  pub stacked : Stacked (length a.vars.values) s'
  pub rest : push_reason a.vars mask part (tracing s) ≡ push_reason a.vars mask (drop i part) (tracing s')

pub pushing_start : {a : Assignment} {s : Scratch} {mask : ℕ} {part : List ℕ} → Pushable a s part → Pushing a s s mask part 0
pushing_start {a} {s} p = record { going = going_start (length a.vars.values) s p.tidy; buffer = refl; stacked = p.stacked; rest = refl }

module _ {a : Assignment} {s s' : Scratch} {mask : ℕ} {part : List ℕ} {i : ℕ} (p : Pushable a s part) (g : Pushing a s s' mask part i) where
  pub pushing_end : length part ≤ i → Pushes a s s' mask part true
  pushing_end b =
      record {
        going = g.going;
        buffer = g.buffer;
        stacked = g.stacked;
        result = g.rest ∙ ap (λ (xs : List ℕ). push_reason a.vars mask xs (tracing s')) (drop_all i part b) ∙ step_end a.vars mask (tracing s');
      }

  module _ (h : i < length part) {l : ℕ} (e : l ≡ get_or part i 0) where
    pub pushing_var : var l < length a.vars.values
    pushing_var = rw e (p.lits i h)

    pub pushing_pass : open_lit a.vars s'.marks l ≡ false → Pushing a s s' mask part (i + 1)
    pushing_pass o =
        record { going = g.going; buffer = g.buffer; stacked = g.stacked; rest = g.rest ∙ step_pass a.vars mask part i h (tracing s') e o }

    module _ (o : open_lit a.vars s'.marks l ≡ true) where
      pub pushing_room : Puttable s' l
      pushing_room = tidy_room (length a.vars.values) s' l g.going.tidy g.stacked pushing_var (open_parts a.vars s'.marks l o).1

      pub pushing_stop : traceable a.vars mask l ≡ false → Pushes a s s' mask part false
      pushing_stop t =
          record { going = g.going; buffer = g.buffer; stacked = g.stacked; result = g.rest ∙ step_stop a.vars mask part i h (tracing s') e o t }

      pub pushing_put : traceable a.vars mask l ≡ true → Pushing a s (put_in s' l) mask part (i + 1)
      pushing_put t =
          let f = (open_parts a.vars s'.marks l o).1 in
          record {
            going = going_put (length a.vars.values) s' l g.going.tidy g.stacked pushing_var f s g.going;
            buffer = g.buffer;
            stacked = stacked_put (length a.vars.values) s' l g.going.tidy g.stacked pushing_var f;
            rest = g.rest ∙ step_put a.vars mask part i h (tracing s') e o t ∙ ap (push_reason a.vars mask (drop (i + 1) part)) (sym (tracing_put s' l));
          }
