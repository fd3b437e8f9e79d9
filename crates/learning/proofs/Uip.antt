-- `first_uip` is rule 3 as published.
use Rattle.std.specs.Prelude.{◌≡◌, refl, Bool, true, List, [], reverse, ℕ, ◌<◌, replicate}
use Rattle.std.proofs.Common.{sym, ◌∙◌, true≢false, arith}
use Rattle.std.proofs.lemmas.List.{length-replicate}
use Rattle.model.specs.Lit.{var, neg}
use Rattle.model.specs.Script.{Config}
use Rattle.model.specs.State.{Store, VarState, Activity, Solver, decision_level, level_lit, clause_at}
use Rattle.model.specs.Minimise.{is_seen}
use Rattle.model.specs.Analyze.{Resolvent, join, resolve, first_uip}
use Rattle.lawbase.specs.Basics.{◌∈◌, Every, every_nil, split, less?, var-neg}
use Rattle.lawbase.specs.Sem.{Rup}
use Rattle.learning.proofs.Trail.{once_neg, in_reverse}
use Rattle.learning.proofs.Marks.{none_seen, cells_none}
use Rattle.learning.proofs.Count.{tops_none, tops-zero}
use Rattle.learning.specs.Join.{Out, Inv, Grew}
use Rattle.learning.proofs.Join.{join_law}
use Rattle.learning.specs.FirstUip.{Conflict, Resolves, Resolves.start, FirstUip, Knows, Known, Refutes}
use Rattle.learning.proofs.FirstUip.{resolves_sound}
use Rattle.learning.specs.Walk.{clause_of, Stop}
use Rattle.learning.proofs.Walk.{into_clause, from_clause, walk}
use Rattle.learning.specs.Uip.{nothing}

pub nothing_inv : (n : ℕ) (vs : VarState) (t : List ℕ) (a : Activity) → Inv n vs t (nothing n a)
nothing_inv n vs t a =
    record {
      sized = length-replicate n 0;
      cells = cells_none n;
      counts = sym (tops_none vs n t);
      lower = λ q i m. absurd (true≢false (sym m ∙ none_seen n (var q)));
      outs = every_nil (Out vs t (replicate n 0));
      distinct = tt;
      known = λ v m. absurd (true≢false (sym m ∙ none_seen n v));
    }

module _ (n : ℕ) (st : Store) (vs : VarState) (confl : ℕ) (c : Conflict n st vs confl) (a : Activity) where
  abbrev pub begun : Resolvent
  begun = join vs (clause_at st confl) (nothing n a)

  abbrev pub t : List ℕ
  t = reverse vs.trail

  on_trail : Every (λ q. neg q ∈ t) (clause_at st confl)
  on_trail q i = in_reverse vs.trail (c.falsified q i)

  -- what holds when the walk starts
  pub begun_law : Inv n vs t begun × Grew vs (clause_at st confl) (nothing n a) begun
  begun_law = join_law n st.clauses vs t c.assignment.entries (clause_at st confl) on_trail (nothing n a) (nothing_inv n vs t a)

  pub begun_path : 0 < begun.path
  begun_path = split (less? 0 begun.path) (λ h. h)
      (λ h.
      let x = c.top.0 in
      let i = c.top.1 in
      let l : level_lit vs x ≡ decision_level vs = c.top.2 in
      let m : is_seen begun.seen x ≡ true = begun_law.1.covers x i (omega (arith, c.deep)) in
      absurd (tops-zero vs begun.seen t (omega (arith, begun_law.0.counts)) (neg x) (on_trail x i) (rw var-neg m) (rw var-neg l)))

  begun_resolves : Resolves st vs confl (clause_of begun.seen t)
  begun_resolves =
      start (λ q i z. into_clause begun.seen t q (on_trail q i) (begun_law.1.covers q i z))
      (λ q i.
      let k = from_clause begun.seen t q i in
      split (begun_law.1.new (var q) k.1) (λ h. absurd (true≢false (sym h ∙ none_seen n (var q)))) (same_var q k.0))
    where
      same_var : (q : ℕ) → neg q ∈ t → (x : ℕ) × (x ∈ clause_at st confl) × (var x ≡ var q) × (0 < level_lit vs x)
          → (q ∈ clause_at st confl) × (0 < level_lit vs q)
      same_var q j h =
          let e = once_neg n st.clauses vs t c.assignment.entries q h.0 j (on_trail h.0 h.1) (sym h.2) in
          (rw e h.1, rw (← h.2) h.3)

  stops : Stop n st vs confl (resolve st vs t begun)
  stops = walk n st vs confl c.deep t c.assignment.entries [] refl begun begun_law.0 begun_resolves begun_path

-- the clause and the marks when `first_uip` ends
pub first_uip_law : (cfg : Config) (x : Solver) (confl : ℕ) → Conflict cfg.variables x.state.store x.state.vars confl
    → Stop cfg.variables x.state.store x.state.vars confl (first_uip cfg x confl)
unfolding first_uip
first_uip_law cfg x confl c = stops cfg.variables x.state.store x.state.vars confl c x.activity

-- a clause at the first UIP is falsified by no set that respects the stored clauses and holds level 0
pub uip_sound : (S : ℕ → Bool) (n : ℕ) (st : Store) (vs : VarState) (confl : ℕ) (L : List ℕ) → Conflict n st vs confl → Knows S st vs
    → FirstUip st vs confl L
    → Refutes S L → ⊥
uip_sound S n st vs confl L c k f h = resolves_sound S n st vs confl c k f.resolves (λ q i. h q (f.all q i))

pub uip_rup : (F : List (List ℕ)) (n : ℕ) (st : Store) (vs : VarState) (confl : ℕ) (L : List ℕ) → Conflict n st vs confl → Known F st vs
    → FirstUip st vs confl L
    → Rup F L
uip_rup F n st vs confl L c k f S s = uip_sound S n st vs confl L c (k S s) f
