-- Every cell of the blocks shows in what they hold.
use Rattle.std.specs.Prelude.{ℕ, ◌≡◌, List, [], ◌∷◌, ◌++◌}
use Rattle.std.specs.List.{concat}
use Rattle.std.proofs.Common.{sym, ap, ◌∙◌}
use Rattle.trail.specs.Inside.{shown}
use Rattle.trail.specs.Cells as trail_cells
use Rattle.trail.specs.declared.Trail.TheInside.{Inside}
use Rattle.scratch.specs.Row.{Row, row}
use Rattle.scratch.specs.Cells as scratch
use Rattle.watch.specs.View as watch
use Rattle.watch.specs.Cells as watch_cells
use Rattle.watch.specs.declared.Size.{Size}
use Rattle.store.specs.View as store
use Rattle.store.specs.Cells as store_cells
use Rattle.litset.specs.View.{members}
use Rattle.litset.specs.Laws as litset
use Rattle.state.specs.declared.State.{State}

-- the cells in which the blocks of a state lie
pub record Work (s : State) : Type 0 where
  pub trail : Inside
  pub trail_is : shown trail ≡ s.trail
  pub marks : List ℕ
  pub marks_is : marks ≡ s.scratch.marks
  pub buffer : List ℕ
  pub buffered : ℕ
  pub buffer_is : row buffered buffer ≡ s.scratch.buffer
  pub stack : List ℕ
  pub stacked : ℕ
  pub stack_is : row stacked stack ≡ s.scratch.stack
  pub notes : List ℕ
  pub noted : ℕ
  pub notes_is : row noted notes ≡ s.scratch.notes
  pub size : Size
  pub records : List (List ℕ)
  pub paired : watch.Paired records
  pub records_is : watch.shown size (watch.cells_of records) ≡ s.watches
  pub starts : List ℕ
  pub literals : List ℕ
  pub stored : ℕ
  pub used : ℕ
  pub pushed : ℕ
  pub clauses_is : store.shown starts literals stored used pushed ≡ s.clauses
  pub flags : List ℕ
  pub items : List ℕ
  pub count : ℕ
  pub finals_is : members flags (row count items) ≡ s.finals

-- slice by slice
unfoldable pub slices_of : List (List ℕ) → List ℕ → List ℕ → List ℕ → List ℕ → List (List ℕ) → List ℕ → List ℕ → List ℕ → List ℕ → List (List ℕ)
slices_of t m b k n r s l f i = t ++ (m ∷ b ∷ k ∷ n ∷ []) ++ r ++ (s ∷ l ∷ f ∷ i ∷ [])

abbrev pub slices : {s : State} → Work s → List (List ℕ)
slices x = slices_of (trail_cells.slices x.trail) x.marks x.buffer x.stack x.notes x.records x.starts x.literals x.flags x.items

-- The cells of two works that hold the same state are the same. So a promise of the state is a promise of each cell: those past the end of the trail and of nodes in no list
-- among them.
pub all_shown : (s : State) (x y : Work s) → slices x ≡ slices y
all_shown s x y =
    let t = trail_cells.all_shown x.trail y.trail (x.trail_is ∙ sym y.trail_is) in
    let m = x.marks_is ∙ sym y.marks_is in
    let b = scratch.all_shown _ _ x.buffer y.buffer (x.buffer_is ∙ sym y.buffer_is) in
    let k = scratch.all_shown _ _ x.stack y.stack (x.stack_is ∙ sym y.stack_is) in
    let n = scratch.all_shown _ _ x.notes y.notes (x.notes_is ∙ sym y.notes_is) in
    let r = watch_cells.all_shown x.size y.size x.records y.records x.paired y.paired (x.records_is ∙ sym y.records_is) in
    let c = store_cells.all_shown _ _ _ _ _ _ _ _ _ _ (x.clauses_is ∙ sym y.clauses_is) in
    let f = litset.all_shown _ _ _ _ (x.finals_is ∙ sym y.finals_is) in
    rw (t, m, b, k, n, r, c.0, c.1, f.0, ap (λ (l : Row). l.cells) f.1)

-- ---- a slice that may be longer

-- what the blocks hold, and the cells behind them
pub record Whole : Type 0 where
  pub state : State
  pub behind : List ℕ

-- the cells of a slice that holds this
pub record Slice (h : Whole) : Type 0 where
  pub work : Work h.state
  pub behind : List ℕ
  pub behind_is : behind ≡ h.behind

-- from the first cell to the last
abbrev pub cells : {h : Whole} → Slice h → List ℕ
cells x = concat (slices x.work) ++ x.behind

-- two slices that hold the same are the same
pub whole_shown : (h : Whole) (x y : Slice h) → cells x ≡ cells y
whole_shown h x y = rw (all_shown h.state x.work y.work, x.behind_is ∙ sym y.behind_is)
