-- `join` as the code makes it: one literal, and the turns.
use Rattle.std.specs.Prelude.{ℕ, suc, ◌+◌, ◌≤◌, ◌<◌, ◌≡◌, ◌≢◌, Bool, true, false, not, ◌&&◌, List, [], ◌∷◌, ◌++◌, length, get_or, set, drop, ltb, eqb}
use Rattle.std.proofs.Common.{arith, add-one, sym, ap, ◌∙◌, length-append, length-drop, drop_of_length-le, drop-cons, eq-eqb, ne_eqb}
use Rattle.std.proofs.Math.Path.{refl}
use Rattle.model.specs.Limits.{max_variables}
use Rattle.model.specs.Lit.{var, neg}
use Rattle.model.specs.State.{VarState, Activity, decision_level, level_lit}
use Rattle.model.specs.Minimise.{is_seen}
use Rattle.model.specs.Activity.{var_bump_activity}
use Rattle.model.specs.Analyze.{Resolvent, join}
use Rattle.lawbase.specs.Basics.{◌∈◌, Every, every_one, split, on?, neg-neg, neg_range, var-neg, var_range}
use Rattle.lawbase.specs.WellFormed.{Entries}
use Rattle.learning.proofs.Trail.{in_range, index_in}
use Rattle.learning.specs.Join.{Inv, counted, noted}
use Rattle.learning.proofs.Join.{join_law, join_cases}
use Rattle.learning.proofs.Room.{distinct-length, trail_short, path_short}
use Rattle.activity.specs.Activities.{bump_sized}
use Rattle.trail.specs.View.{Assignment, LitsOf}
use Rattle.scratch.specs.Row.{Row, pushed}
use Rattle.scratch.specs.declared.Scratch.{Scratch}
use Rattle.analyze.specs.Resolving.{so_far, Behind, Makes, behind_none, behind_then, behind_items, behind_cells}

-- ---- of the definition alone

-- q joins: it is not marked, and above level 0
abbrev pub is_new : VarState → List ℕ → ℕ → Bool
is_new vs seen q = not (is_seen seen q) && ltb 0 (level_lit vs q)

join_no : (vs : VarState) (q : ℕ) (qs : List ℕ) (r : Resolvent) → is_new vs r.seen q ≡ false → join vs (q ∷ qs) r ≡ join vs qs r
unfolding join
join_no vs q qs r e = rw (e, join)

pub join_first : (vs : VarState) (q : ℕ) (qs : List ℕ) (r : Resolvent) → join vs (q ∷ qs) r ≡ join vs qs (join vs (q ∷ []) r)
unfolding join
join_first vs q qs r = split (on? (is_new vs r.seen q))
    (λ e. split (on? (eqb (level_lit vs q) (decision_level vs))) (λ f. rw (e, f, join)) (λ f. rw (e, f, join)))
    (λ e. rw (e, join))

pub join_none : (vs : VarState) (r : Resolvent) → join vs [] r ≡ r
unfolding join
join_none vs r = refl

one_counted : (vs : VarState) (q : ℕ) (r : Resolvent) → is_new vs r.seen q ≡ true → level_lit vs q ≡ decision_level vs → join vs (q ∷ []) r ≡ counted vs q r
unfolding join
one_counted vs q r e k = rw (e, eq-eqb (level_lit vs q) (decision_level vs) k, join)

one_noted : (vs : VarState) (q : ℕ) (r : Resolvent) → is_new vs r.seen q ≡ true → level_lit vs q ≢ decision_level vs → join vs (q ∷ []) r ≡ noted vs q r
unfolding join
one_noted vs q r e k = rw (e, ne_eqb (level_lit vs q) (decision_level vs) k, join)

-- each variable keeps an activity
pub join_sized : (vs : VarState) (qs : List ℕ) (r : Resolvent) → length (join vs qs r).activity.activities ≡ length r.activity.activities
join_sized vs [] r = rw (join_none vs r) refl
join_sized vs (q ∷ qs) r =
    join_cases (λ k. length k.activity.activities ≡ length r.activity.activities) vs q qs r (λ _. join_sized vs qs r)
    (λ _ _ _. join_sized vs qs (counted vs q r) ∙ bump_sized r.activity (var q))
    (λ _ _ _. join_sized vs qs (noted vs q r) ∙ bump_sized r.activity (var q))

-- no more literals than variables
pub learnt_room : (n : ℕ) (cs : List (List ℕ)) (vs : VarState) (t : List ℕ) → Entries n cs vs t → (k : Resolvent) → Inv n vs t k → length k.learnt ≤ n
learnt_room n cs vs t w k v =
    distinct-length n k.learnt (λ q i. rw neg-neg at (neg_range (neg q) n (in_range n cs vs t w (neg q) (v.outs q i).falsified))) v.distinct

-- ---- of the blocks

-- there is a place in the buffer and an activity for each variable
pub record Sized (t : Assignment) (x : Scratch) (a : Activity) : Type 0 where
  pub most : length t.vars.values ≤ max_variables
  pub buffer : length t.vars.values < length x.buffer.cells
  pub activity : length a.activities ≡ length t.vars.values

-- The literals qs can join the resolvent: `left` is the part of the trail that is left, over the clauses `stored`, and they are false on it.
pub record Joinable (t : Assignment) (x : Scratch) (a : Activity) (path : ℕ) (qs : List ℕ) : Type 0 where
  pub sized : Sized t x a
  pub first : 1 ≤ length x.buffer.items
  pub stored : List (List ℕ)
  pub left : List ℕ
  pub entries : Entries (length t.vars.values) stored t.vars left
  pub inv : Inv (length t.vars.values) t.vars left (so_far x a path)
  pub falsified : Every (λ q. neg q ∈ left) qs

-- they have joined it
abbrev pub Joins : Assignment → Scratch → Scratch → Activity → Activity → ℕ → ℕ → List ℕ → Type 0
Joins t x x' a a' path path' qs = Makes x x' a' path' (join t.vars qs (so_far x a path))

module _ {t : Assignment} {x : Scratch} {a : Activity} {path : ℕ} {qs : List ℕ} (j : Joinable t x a path qs) where
  pub joinable_lits : LitsOf (length t.vars.values) qs
  joinable_lits i h =
      let q = get_or qs i 0 in
      rw (← var-neg q) (var_range (neg q) (length t.vars.values) (in_range (length t.vars.values) j.stored t.vars j.left j.entries (neg q) (j.falsified q (index_in qs i 0 h))))

  pub joinable_marks : length x.marks ≡ length t.vars.values
  joinable_marks = j.inv.sized

  joined_inv : Inv (length t.vars.values) t.vars j.left (join t.vars qs (so_far x a path))
  joined_inv = (join_law (length t.vars.values) j.stored t.vars j.left j.entries qs j.falsified (so_far x a path) j.inv).0

  learnt_length : length x.buffer.items ≡ 1 + length (so_far x a path).learnt
  learnt_length = rw length-drop (omega (arith, j.first))

pub sized_then : {t : Assignment} {x x' : Scratch} {a a' : Activity} → Sized t x a → Behind x x' → length a'.activities ≡ length a.activities → Sized t x' a'
sized_then s b e = record { most = s.most; buffer = rw (behind_cells b) s.buffer; activity = e ∙ s.activity }

-- ---- one literal

module _ {t : Assignment} {x : Scratch} {a : Activity} {path q : ℕ} (j : Joinable t x a path (q ∷ [])) where
  pub lit-var : var q < length t.vars.values
  lit-var = joinable_lits j 0 (omega arith)

  module _ (new : is_new t.vars x.marks q ≡ true) where
    -- it is counted
    module _ (top : level_lit t.vars q ≡ decision_level t.vars) where
      pub count_fits : path + 1 ≤ max_variables
      count_fits =
          let i = rw (one_counted t.vars q (so_far x a path) new top) at (joined_inv j) in
          omega (
            arith,
            path_short (length t.vars.values) t.vars j.left (counted t.vars q (so_far x a path)) i,
            trail_short (length t.vars.values) j.stored t.vars j.left j.entries,
            j.sized.most,
          )

      pub counts : {m : List ℕ} {a' : Activity} → m ≡ set x.marks (var q) 1 → a' ≡ var_bump_activity a (var q)
          → Joins t x (record { marks = m; buffer = x.buffer; stack = x.stack; notes = x.notes }) a a' path (path + 1) (q ∷ [])
      counts e f =
          rw (e, f, add-one path)
          (record { behind = behind_none x (set x.marks (var q) 1); holds = sym (one_counted t.vars q (so_far x a path) new top) })

    -- it is noted
    module _ (low : level_lit t.vars q ≢ decision_level t.vars) where
      pub note_fits : length x.buffer.items < length x.buffer.cells
      note_fits =
          let i = rw (one_noted t.vars q (so_far x a path) new low) at (joined_inv j) in
          omega (
            arith,
            learnt_length j,
            length-append (so_far x a path).learnt (q ∷ []),
            learnt_room (length t.vars.values) j.stored t.vars j.left j.entries (noted t.vars q (so_far x a path)) i,
            j.sized.buffer,
          )

      pub notes : {m : List ℕ} {b : Row} {a' : Activity} → m ≡ set x.marks (var q) 1 → b ≡ pushed x.buffer q → a' ≡ var_bump_activity a (var q)
          → Joins t x (record { marks = m; buffer = b; stack = x.stack; notes = x.notes }) a a' path path (q ∷ [])
      notes e g f =
          rw (e, g, f)
          (record {
            behind = record { added = q ∷ []; is = refl };
            holds =
                ap (λ (l : List ℕ). record { seen = set x.marks (var q) 1; path = path; learnt = l; activity = var_bump_activity a (var q) })
                (drop_first x.buffer.items j.first) ∙ sym (one_noted t.vars q (so_far x a path) new low);
          })
        where
          drop_first : (l : List ℕ) → 1 ≤ length l → drop 1 (l ++ (q ∷ [])) ≡ drop 1 l ++ (q ∷ [])
          drop_first [] h = absurd (omega arith)
          drop_first (y ∷ l) h = refl

-- ---- the turns

-- the literals of qs before place i have joined the resolvent that x₀, a₀ and path₀ held
pub record Joining (t : Assignment) (x₀ : Scratch) (a₀ : Activity) (path₀ : ℕ) (qs : List ℕ) (i : ℕ) (x : Scratch) (a : Activity) (path : ℕ) : Type 0 where
  pub behind : Behind x₀ x
  pub ready : Joinable t x a path qs
  pub rest : join t.vars (drop i qs) (so_far x a path) ≡ join t.vars qs (so_far x₀ a₀ path₀)

module _ {t : Assignment} {x₀ : Scratch} {a₀ : Activity} {path₀ : ℕ} {qs : List ℕ} {i : ℕ} {x : Scratch} {a : Activity} {path : ℕ}
    (j : Joining t x₀ a₀ path₀ qs i x a path) where
  module _ (l : i < length qs) where
    one_false : Every (λ q. neg q ∈ j.ready.left) (get_or qs i 0 ∷ [])
    one_false = every_one (λ q. neg q ∈ j.ready.left) (j.ready.falsified (get_or qs i 0) (index_in qs i 0 l))

    -- the next one can join
    pub joining_one : Joinable t x a path (get_or qs i 0 ∷ [])
    joining_one =
        record {
          sized = j.ready.sized;
          first = j.ready.first;
          stored = j.ready.stored;
          left = j.ready.left;
          entries = j.ready.entries;
          inv = j.ready.inv;
          falsified = one_false;
        }

    -- it does not join
    pub joining_skips : is_new t.vars x.marks (get_or qs i 0) ≡ false → Joining t x₀ a₀ path₀ qs (i + 1) x a path
    joining_skips e =
        record {
          behind = j.behind;
          ready = j.ready;
          rest = rw (add-one i) (sym (join_no t.vars (get_or qs i 0) (drop (suc i) qs) (so_far x a path) e) ∙ rw (← drop-cons qs i 0 l) j.rest);
        }

    -- it has joined
    module _ {x' : Scratch} {a' : Activity} {path' : ℕ} (m : Joins t x x' a a' path path' (get_or qs i 0 ∷ [])) where
      same_sized : length a'.activities ≡ length a.activities
      same_sized = ap (λ (k : Resolvent). length k.activity.activities) m.holds ∙ join_sized t.vars (get_or qs i 0 ∷ []) (so_far x a path)

      pub joining_turns : Joining t x₀ a₀ path₀ qs (i + 1) x' a' path'
      unfolding joining_one
      joining_turns =
          record {
            behind = behind_then j.behind m.behind;
            ready =
                record {
                  sized = sized_then j.ready.sized m.behind same_sized;
                  first = omega (arith, j.ready.first, behind_items m.behind);
                  stored = j.ready.stored;
                  left = j.ready.left;
                  entries = j.ready.entries;
                  inv = rw m.holds (joined_inv joining_one);
                  falsified = j.ready.falsified;
                };
            rest =
                rw (m.holds, add-one i)
                (sym (join_first t.vars (get_or qs i 0) (drop (suc i) qs) (so_far x a path)) ∙ rw (← drop-cons qs i 0 l) j.rest);
          }

  pub joining_ends : length qs ≤ i → Joins t x₀ x a₀ a path₀ path qs
  joining_ends g =
      record {
        behind = j.behind;
        holds =
            sym (join_none t.vars (so_far x a path))
            ∙ sym (ap (λ (l : List ℕ). join t.vars l (so_far x a path)) (drop_of_length-le qs g))
            ∙ j.rest;
      }
