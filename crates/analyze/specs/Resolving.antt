-- The resolvent as the scratch block holds it: its marks, and behind the buffer's first literal those below the conflict's level.
use Rattle.std.specs.Prelude.{ℕ, ◌≤◌, ◌≡◌, List, [], ◌∷◌, ◌++◌, length, set, drop}
use Rattle.std.proofs.Common.{arith, sym, ap, ◌∙◌, append_assoc, append-nil, length-append}
use Rattle.std.proofs.lemmas.List.Edits.{sets}
use Rattle.std.proofs.Math.Seq.{length-sets}
use Rattle.model.specs.Lit.{undef_lit}
use Rattle.model.specs.State.{Activity}
use Rattle.model.specs.Analyze.{Resolvent}
use Rattle.scratch.specs.Row.{Row}
use Rattle.scratch.specs.declared.Scratch.{Scratch}
use Rattle.analyze.specs.Places.{sets_append}

-- the resolvent so far; the buffer's first place is kept for the UIP
abbrev pub so_far : Scratch → Activity → ℕ → Resolvent
so_far x a path = record { seen = x.marks; path = path; learnt = drop 1 x.buffer.items; activity = a }

-- the literals l behind those of a list
abbrev pub longer : Row → List ℕ → Row
longer b l = record { items = b.items ++ l; cells = sets b.cells (length b.items) l }

-- other marks, and more literals in the buffer
abbrev pub behind : Scratch → List ℕ → List ℕ → Scratch
behind x m l = record { marks = m; buffer = longer x.buffer l; stack = x.stack; notes = x.notes }

pub record Behind (x x' : Scratch) : Type 0 where
  pub added : List ℕ
  pub is : x' ≡ behind x x'.marks added

-- the scratch block after x holds the resolvent k
pub record Makes (x x' : Scratch) (a' : Activity) (path' : ℕ) (k : Resolvent) : Type 0 where
  pub behind : Behind x x'
  pub holds : so_far x' a' path' ≡ k

-- the buffer of one clause only, k's; all else is as in x
abbrev pub laid : Scratch → Resolvent → Scratch
laid x k = record { marks = k.seen; buffer = record { items = k.learnt; cells = sets x.buffer.cells 0 k.learnt }; stack = x.stack; notes = x.notes }

pub record Laid (x x' : Scratch) (a' : Activity) (k : Resolvent) : Type 0 where
  pub scratch : x' ≡ laid x k
  pub activity : a' ≡ k.activity

-- before anything joins: only the place of the UIP
abbrev pub opened : Scratch → Scratch
opened x = record { marks = x.marks; buffer = record { items = undef_lit ∷ []; cells = set x.buffer.cells 0 undef_lit }; stack = x.stack; notes = x.notes }

longer_none : (b : Row) → longer b [] ≡ b
longer_none b = ap (λ (l : List ℕ). record { items = l; cells = b.cells }) (append-nil b.items)

longer_twice : (b : Row) (l k : List ℕ) → longer (longer b l) k ≡ longer b (l ++ k)
longer_twice b l k =
    rw (append_assoc b.items l k, length-append b.items l)
    (ap (λ (c : List ℕ). record { items = b.items ++ (l ++ k); cells = c }) (sets_append b.cells (length b.items) l k))

with_buffer : Scratch → List ℕ → Row → Scratch
with_buffer x m b = record { marks = m; buffer = b; stack = x.stack; notes = x.notes }

pub behind_none : (x : Scratch) (m : List ℕ) → Behind x (record { marks = m; buffer = x.buffer; stack = x.stack; notes = x.notes })
unfolding with_buffer
behind_none x m = record { added = []; is = ap (with_buffer x m) (sym (longer_none x.buffer)) }

pub behind_then : {x y z : Scratch} → Behind x y → Behind y z → Behind x z
unfolding with_buffer
behind_then {x} {y} {z} b d =
    record {
      added = b.added ++ d.added;
      is = d.is ∙ ap (λ (s : Scratch). behind s z.marks d.added) b.is ∙ ap (with_buffer x z.marks) (longer_twice x.buffer b.added d.added);
    }

module _ {x x' : Scratch} (b : Behind x x') where
  pub behind_items : length x.buffer.items ≤ length x'.buffer.items
  behind_items = omega (arith, ap (λ (s : Scratch). length s.buffer.items) b.is, length-append x.buffer.items b.added)

  pub behind_cells : length x'.buffer.cells ≡ length x.buffer.cells
  behind_cells = ap (λ (s : Scratch). length s.buffer.cells) b.is ∙ length-sets x.buffer.cells (length x.buffer.items) b.added
