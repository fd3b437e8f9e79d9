-- The final clause: what the walk finds, and that no mark is left.
use Rattle.std.specs.Prelude.{ℕ, ◌+◌, ◌*◌, ◌<◌, ◌≡◌, refl, ◌≢◌, List, [], ◌∷◌, reverse, length, get_or, drop, set, replicate}
use Rattle.std.proofs.Common.{arith, sym, ap, subst, ◌∙◌, length-set, get_or-set_same, get_or-set_other}
use Rattle.region.specs.Table.{all-zero}
use Rattle.model.specs.Lit.{var}
use Rattle.model.specs.State.{Store, VarState, decision_level}
use Rattle.model.specs.Final.{mem, insert, blame, analyze_final}
use Rattle.lawbase.specs.Basics.{◌∈◌, split, same?}
use Rattle.lawbase.specs.WellFormed as formed
use Rattle.assign.proofs.Reading.{trail_range, trail_var}
use Rattle.learning.proofs.Marks.{cells-set, cells_none}
use Rattle.learning.specs.Parts.{upper}
use Rattle.learning.proofs.Final.{final_law}
use Rattle.litset.specs.View.{Members, Insertable, inserted, with_items}
use Rattle.litset.specs.Laws.{no_flags}
use Rattle.litset.specs.Items.{inserted_with, with_items_again, with_items_none}
use Rattle.watch.specs.Meaning.{as_watches}
use Rattle.state.specs.declared.State.{State}
use Rattle.state.specs.Still.{Still, state_at}
use Rattle.decide.specs.Blaming.{stored, flagged-length, blame_same, Begins, blame-begins, Blamable, Blamed}

-- ---- the definition's two cases

module _ (st : Store) (vs : VarState) (p : ℕ) where
  final_shallow : decision_level vs ≡ 0 → analyze_final st vs p ≡ p ∷ []
  unfolding analyze_final
  final_shallow e = go vs.limits refl
    where
      go : (l : List ℕ) → vs.limits ≡ l → analyze_final st vs p ≡ p ∷ []
      go [] q = rw (q, analyze_final)
      go (k ∷ l) q = absurd (omega (arith, ap length q))

  final_deep : 0 < decision_level vs
      → analyze_final st vs p ≡ blame st vs (upper vs (get_or vs.limits 0 0)) (set (replicate (length vs.values) 0) (var p) 1) (p ∷ [])
  unfolding analyze_final
  final_deep = go vs.limits
    where
      go : (l : List ℕ) → 0 < length l
          → elim l [ [] ↦ p ∷ [] | start ∷ more ↦ blame st vs (reverse (drop start vs.trail)) (set (replicate (length vs.values) 0) (var p) 1) (p ∷ []) ]
          ≡ blame st vs (upper vs (get_or l 0 0)) (set (replicate (length vs.values) 0) (var p) 1) (p ∷ [])
      go [] q = absurd (omega arith)
      go (k ∷ l) q = refl

insert_first : (p : ℕ) → insert [] p ≡ p ∷ []
unfolding insert mem
insert_first p = refl

-- ---- what it leaves

-- s with other marks, and another final clause
abbrev pub traced : State → List ℕ → Members → State
traced s m f =
    record {
      config = s.config;
      trail = s.trail;
      scratch = record { marks = m; buffer = s.scratch.buffer; stack = s.scratch.stack; notes = s.scratch.notes };
      watches = s.watches;
      clauses = s.clauses;
      finals = f;
      qhead = s.qhead;
      ok = s.ok;
    }

-- s with the final clause of p
abbrev pub Explained : State → State → ℕ → Type 0
Explained s s' p = s' ≡ traced s s.scratch.marks (with_items s.finals (analyze_final (state_at s).store s.trail.vars p))

module _ {s : State} (k : Still s) {p : ℕ} (on : p ∈ s.trail.vars.trail) where
  abbrev vs : VarState
  vs = s.trail.vars

  abbrev n : ℕ
  n = length s.trail.vars.values

  assigned : formed.Assignment n s.clauses.clauses vs
  assigned = subst (λ (j : ℕ). formed.Assignment j s.clauses.clauses vs) (sym k.sized.values) k.formed.vars

  pub explain_mark : var p < length s.scratch.marks
  explain_mark = omega (arith, trail_var k.formed.vars p on, k.sized.marks)

  pub explain_asks : Insertable s.finals p
  explain_asks =
      record { low = omega (arith, trail_range k.formed.vars p on, k.sized.flags); room = λ _. omega (arith, ap length k.idle.final, k.sized.members) }

  set_is : inserted s.finals p ≡ with_items s.finals (p ∷ [])
  set_is =
      ap (λ (f : Members). inserted f p) (sym (with_items_none s.finals k.idle.final))
      ∙ inserted_with s.finals [] p
      ∙ ap (with_items s.finals) (insert_first p)

  -- no level is open
  pub explain_shallow : decision_level vs ≡ 0 → Explained s (traced s s.scratch.marks (inserted s.finals p)) p
  explain_shallow z = rw (final_shallow (state_at s).store vs p z, set_is) refl

  -- p is marked
  module _ (deep : 0 < decision_level vs) {start : ℕ} (first : start ≡ get_or vs.limits 0 0) where
    abbrev seen : List ℕ
    seen = set s.scratch.marks (var p) 1

    abbrev final : Members
    final = inserted s.finals p

    seen_is : seen ≡ set (replicate n 0) (var p) 1
    seen_is = rw (k.idle.marks, k.sized.values) refl

    walked_is : (st : Store) → blame st vs (upper vs start) seen (insert s.finals.items p) ≡ analyze_final st vs p
    walked_is st = rw (k.idle.final, insert_first p, seen_is, first) (sym (final_deep st vs p deep))

    pub explain_walk : Blamable s.trail s.clauses seen final start
    explain_walk =
        record {
          formed = assigned;
          proper = rw k.sized.values k.formed.store.proper;
          deep = deep;
          first = first;
          marks = length-set s.scratch.marks (var p) 1 ∙ k.sized.marks ∙ sym k.sized.values;
          cells = rw seen_is (cells-set (replicate n 0) (var p) 1 (omega arith) (cells_none n));
          flags = ap (λ (f : Members). length f.flag_cells) set_is
              ∙ flagged-length s.finals.flag_cells (p ∷ [])
              ∙ k.sized.flags
              ∙ ap (λ (j : ℕ). 2 * j) (sym k.sized.values);
          members = ap (λ (f : Members). length f.item_cells) set_is
              ∙ length-set s.finals.item_cells 0 p
              ∙ k.sized.members
              ∙ ap (λ (j : ℕ). j + 1) (sym k.sized.values);
          items = subst (λ (f : Members). f ≡ with_items f f.items) (sym set_is) (sym (with_items_again s.finals p []));
          room = rw (walked_is (stored s.clauses)) (final_law n (stored s.clauses) vs assigned p on).short;
        }

    -- the walk is done, and p is not marked any more
    module _ {m : List ℕ} {f : Members} (b : Blamed s.trail s.clauses seen m final f start) where
      m-length : length m ≡ s.config.vars
      m-length = b.sized ∙ length-set s.scratch.marks (var p) 1 ∙ k.sized.marks

      pub explain_unmark : var p < length m
      explain_unmark = omega (arith, m-length, trail_var k.formed.vars p on)

      only_p : (v : ℕ) → v ≢ var p → get_or m v 0 ≡ 0
      only_p v ne = split (same? (get_or m v 0) 0) (λ e. e) (λ y.
          let q : 0 < get_or seen v 0 = b.only v (omega arith) in
          let o : get_or seen v 0 ≡ get_or s.scratch.marks v 0 = get_or-set_other s.scratch.marks (var p) v 1 0 ne in
          let z : get_or s.scratch.marks v 0 ≡ 0 = rw k.idle.marks (no_flags s.config.vars v) in
          absurd (omega arith))

      cleared : set m (var p) 0 ≡ s.scratch.marks
      cleared =
          all-zero s.config.vars (set m (var p) 0) (length-set m (var p) 0 ∙ m-length)
          (λ v i. split (same? v (var p))
          (λ e. ap (λ (j : ℕ). get_or (set m (var p) 0) j 0) e ∙ get_or-set_same m (var p) 0 0 explain_unmark)
          (λ ne. get_or-set_other m (var p) v 0 0 ne ∙ only_p v ne))
          ∙ sym k.idle.marks

      -- p was put in before the walk
      same_items : {o : List ℕ} → Begins p o → with_items (with_items s.finals (p ∷ [])) o ≡ with_items s.finals o
      same_items {o} g = rw g.is (with_items_again s.finals p g.rest)

      final_is : f ≡ with_items s.finals (analyze_final (state_at s).store vs p)
      final_is =
          let o : List ℕ = blame (stored s.clauses) vs (upper vs start) seen (insert s.finals.items p) in
          let g : Begins p o =
          blame-begins (stored s.clauses) vs (upper vs start) seen p (insert s.finals.items p)
          (rw (k.idle.final, insert_first p) (record { rest = []; is = refl })) in
          b.finals
          ∙ ap (λ (y : Members). with_items y o) set_is
          ∙ same_items g
          ∙ ap (with_items s.finals) (blame_same s.clauses.clauses [] (as_watches s.watches) vs (upper vs start) seen (insert s.finals.items p) ∙ walked_is (state_at s).store)

      pub explain_ends : Explained s (traced s (set m (var p) 0) f) p
      explain_ends = rw (cleared, final_is) refl
