-- The cells are records of kind 1 that a script may have, and read back as the clauses.
use Rattle.std.specs.Prelude.{ℕ, zero, suc, ◌+◌, ◌-◌, ◌*◌, ◌≤◌, ◌<◌, min, ◌≡◌, refl, take, drop}
use Rattle.std.proofs.Common.{arith, sym, ◌∙◌, length-append, drop_at, le-leb, lt-ltb}
use Rattle.std.proofs.Math.Path.{ap, subst}
use mathlib.Core.List.Memᴰ.{head as here}
use mathlib.Core.List.{List, [], ◌∷◌, ◌++◌, map, append-nil, append_assoc}
use Rattle.std.proofs.Math.ListN.{length}
use Rattle.std.proofs.Math.Seq.{take-append_seam, drop-append_seam}
use Rattle.model.specs.Limits as Limits
use Rattle.model.specs.Limits.{header_cells}
use Rattle.model.specs.Script.{Record, clause, clause_kind, known, lead, most_count, limits, trailing, cost, record_as, kind_of, records, records_of, literal_rows, limit_rows, record_rows, header, work_needed, out_needed, accepted, read}
use Rattle.lawbase.specs.Basics.{Every, every_nil, every_cons, shrink}
use Rattle.script.specs.Judging.{Hold, hold_append}
use Rattle.script.specs.Walk.{rows_from}
use Rattle.script.specs.Front.{HeaderIn}
use Rattle.script.specs.Accepted.{LiteralsFit, RecordFits, accepted_read}
use Rattle.counter.specs.Counter.{cells, at_most}
use Rattle.counter.specs.Ranges.{Fit}
use Rattle.counter.proofs.Ranges.{at_most_fits}
use Rattle.counter.specs.Reads.{ReadsBack}

-- behind a clause's cells stand those of the others
cells-cons : (c : List ℕ) (cs : List (List ℕ)) (rest : List ℕ) → cells (c ∷ cs) ++ rest ≡ 1 ∷ length c ∷ (c ++ (cells cs ++ rest))
unfolding cells
cells-cons c cs rest = ap (λ (xs : List ℕ). 1 ∷ length c ∷ xs) (append_assoc c (cells cs) rest)

-- ---- the records

records_one : (t : ℕ) (c rest : List ℕ) → records (suc t) (1 ∷ length c ∷ (c ++ rest)) ≡ clause c ∷ records t rest
unfolding records lead limits trailing record_as
records_one t c rest =
    let e : length c + 0 ≡ length c = omega arith in
    ap (λ (x : List ℕ). clause x ∷ records t (drop (length c + 0) (c ++ rest))) (take-append_seam c rest)
    ∙ ap (λ (n : ℕ). clause c ∷ records t (drop n (c ++ rest))) e
    ∙ ap (λ (x : List ℕ). clause c ∷ records t x) (drop-append_seam c rest)

-- wherever the cells stand in a script, they read as the clauses, and what is behind them as it does
pub records-cells : (t : ℕ) (cs : List (List ℕ)) (rest : List ℕ) → records (length cs + t) (cells cs ++ rest) ≡ map clause cs ++ records t rest
unfolding cells
records-cells t [] rest = ap (λ (n : ℕ). records n rest) (none t)
  where
    none : (t : ℕ) → 0 + t ≡ t
    none t = omega arith
records-cells t (c ∷ cs) rest =
    ap (λ (n : ℕ). records n (cells (c ∷ cs) ++ rest)) (more (length cs) t)
    ∙ ap (records (suc (length cs + t))) (cells-cons c cs rest)
    ∙ records_one (length cs + t) c (cells cs ++ rest)
    ∙ ap (λ (rs : List Record). clause c ∷ rs) (records-cells t cs rest)
  where
    more : (n t : ℕ) → suc n + t ≡ suc (n + t)
    more n t = omega arith

-- ---- the rows of the table

literals_hold : (v at : ℕ) (ls : List ℕ) → Every (λ l. l < 2 * v) ls → Hold (literal_rows v at ls)
unfolding literal_rows
literals_hold v at [] h = tt
literals_hold v at (l ∷ ls) h = (lt-ltb l (2 * v) (h l (here refl)), literals_hold v (at + 1) ls (shrink h))

rows_one : (v n t at : ℕ) (c rest : List ℕ) → LiteralsFit clause_kind v c → Hold (record_rows v n t (at + (2 + length c)) rest)
    → Hold (record_rows v n (suc t) at (1 ∷ length c ∷ (c ++ rest)))
unfolding record_rows known lead most_count limits trailing limit_rows
rows_one v n t at c rest f h =
    let e : length c + 0 ≡ length c = omega arith in
    let p : at + (2 + length c) ≡ at + 2 + 0 + (length c + 0) = omega arith in
    let d : drop (length c + 0) (c ++ rest) ≡ rest = ap (λ (m : ℕ). drop m (c ++ rest)) e ∙ drop-append_seam c rest in (
      refl,
      (
        le-leb 1 (length (length c ∷ (c ++ rest))) (omega arith),
        (
          le-leb (length c) (min Limits.longest_clause (2 * v)) f.count,
          (
            le-leb (length c + 0) (length (c ++ rest)) (omega (arith, length-append c rest)),
            hold_append (literal_rows v (at + 2 + 0) (take (length c) (c ++ rest)) ++ []) (record_rows v n t (at + 2 + 0 + (length c + 0)) (drop (length c + 0) (c ++ rest)))
                (hold_append (literal_rows v (at + 2 + 0) (take (length c) (c ++ rest))) []
                (subst (λ (x : List ℕ). Hold (literal_rows v (at + 2 + 0) x)) (sym (take-append_seam c rest)) (literals_hold v (at + 2 + 0) c f.literals)) tt)
                (subst (λ (x : List ℕ). Hold (record_rows v n t (at + 2 + 0 + (length c + 0)) x)) (sym d) (subst (λ (i : ℕ). Hold (record_rows v n t i rest)) p h)),
          ),
        ),
      ),
    )

-- wherever the cells stand in a script of v variables, no row of theirs refuses
pub rows-cells : (v n t at : ℕ) (cs : List (List ℕ)) (rest : List ℕ) → Every (LiteralsFit clause_kind v) cs → Hold (record_rows v n t (at + length (cells cs)) rest)
    → Hold (record_rows v n (length cs + t) at (cells cs ++ rest))
unfolding cells
rows-cells v n t at [] rest f h =
    subst (λ (m : ℕ). Hold (record_rows v n m at rest)) (none t) (subst (λ (i : ℕ). Hold (record_rows v n t i rest)) (same at) h)
  where
    none : (t : ℕ) → t ≡ 0 + t
    none t = omega arith

    same : (at : ℕ) → at + 0 ≡ at
    same at = omega arith
rows-cells v n t at (c ∷ cs) rest f h =
    let q : at + length (cells (c ∷ cs)) ≡ at + (2 + length c) + length (cells cs) = omega (arith, length-append c (cells cs)) in
    subst (λ (m : ℕ). Hold (record_rows v n m at (cells (c ∷ cs) ++ rest))) (more (length cs) t)
    (subst (λ (x : List ℕ). Hold (record_rows v n (suc (length cs + t)) at x)) (sym (cells-cons c cs rest))
    (rows_one v n (length cs + t) at c (cells cs ++ rest) (f c (here refl))
    (rows-cells v n t (at + (2 + length c)) cs rest (shrink f) (subst (λ (i : ℕ). Hold (record_rows v n t i rest)) q h))))
  where
    more : (n t : ℕ) → suc (n + t) ≡ suc n + t
    more n t = omega arith

-- ---- a script of these cells alone

cells_longer : (cs : List (List ℕ)) → length cs ≤ length (cells cs)
unfolding cells
cells_longer [] = omega arith
cells_longer (c ∷ cs) = omega (arith, cells_longer cs, length-append c (cells cs))

no_records : (t : ℕ) → records t [] ≡ []
unfolding records
no_records zero = refl
no_records (suc t) = refl

no_rows : (v n t at : ℕ) → Hold (record_rows v n t at [])
unfolding record_rows
no_rows v n zero at = tt
no_rows v n (suc t) at = tt

out_of-clauses : (v : ℕ) (cs : List (List ℕ)) → out_needed v (map clause cs) ≡ length cs
unfolding out_needed cost kind_of
out_of-clauses v [] = refl
out_of-clauses v (c ∷ cs) = omega (arith, out_of-clauses v cs)

clauses_fit : (v : ℕ) (cs : List (List ℕ)) → Every (LiteralsFit clause_kind v) cs → Every (RecordFits v) (map clause cs)
clauses_fit v [] f = every_nil (RecordFits v)
clauses_fit v (c ∷ cs) f = every_cons (RecordFits v) (f c (here refl)) (clauses_fit v cs (shrink f))

module _ (h : List ℕ) (e : length h ≡ header_cells) (cs : List (List ℕ)) where
  abbrev pub script : List ℕ
  script = h ++ cells cs

  turns : (length cs + (length script - length cs)) ≡ length script
  turns = omega (arith, length-append h (cells cs), cells_longer cs)

  behind : drop header_cells script ≡ cells cs ++ []
  behind = drop_at h (cells cs) header_cells e ∙ sym (append-nil (cells cs))

  pub records-written : records_of script ≡ map clause cs
  unfolding records_of
  records-written =
      ap (records (length script)) behind
      ∙ ap (λ (n : ℕ). records n (cells cs ++ [])) (sym turns)
      ∙ records-cells (length script - length cs) cs []
      ∙ ap (λ (rs : List Record). map clause cs ++ rs) (no_records (length script - length cs))
      ∙ append-nil (map clause cs)

  rows_written : Every (LiteralsFit clause_kind (header script).variables) cs → Hold (rows_from (header script).variables script header_cells)
  unfolding rows_from
  rows_written f =
      let v = (header script).variables in
      let n = length script in
      subst (λ (x : List ℕ). Hold (record_rows v n n header_cells x)) (sym behind)
      (subst (λ (m : ℕ). Hold (record_rows v n m header_cells (cells cs ++ []))) turns
      (rows-cells v n (n - length cs) header_cells cs [] f (no_rows v n (n - length cs) (header_cells + length (cells cs)))))

  -- behind any header that is in order, and with slices that are long enough, a script of these cells is accepted, and its records are these clauses
  pub written_accepted : HeaderIn script → Every (LiteralsFit clause_kind (header script).variables) cs → (work activities out : ℕ) → work_needed (header script) ≤ work → (header script).variables ≤ activities
      → length cs ≤ out → read script work activities out ≡ accepted (header script) (map clause cs)
  written_accepted i f work activities out w a o =
      let v = (header script).variables in
      accepted_read script work activities out
      record {
        header_fits = i;
        work_fits = w;
        activities_fit = a;
        readable = record { rows = rows_written f };
        records_fit = subst (Every (RecordFits v)) (sym records-written) (clauses_fit v cs f);
        out_fits = subst (λ (rs : List Record). out_needed v rs ≤ out) (sym records-written) (omega (arith, o, out_of-clauses v cs));
      }
      ∙ ap (accepted (header script)) records-written

pub reads_back : (v : ℕ) (ls : List ℕ) (k first : ℕ) → Fit v ls k first → ReadsBack v (at_most k first ls)
reads_back v ls k first f h e i p work activities out w a o =
    written_accepted h e (at_most k first ls) i (subst (λ (u : ℕ). Every (LiteralsFit clause_kind u) (at_most k first ls)) (sym p) (at_most_fits v ls k first f)) work activities out w
    (omega (arith, p, a)) o
