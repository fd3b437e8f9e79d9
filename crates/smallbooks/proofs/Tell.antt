-- The sets, as the code goes through them: the lines of each are written, and the score is kept.
use Rattle.std.specs.Prelude.{◌≡◌, ◌≢◌, ℕ, zero, suc, ◌+◌, ◌-◌, ◌≤◌, ◌<◌}
use Rattle.std.proofs.Math.Path.{refl, ap, sym}
use Rattle.std.proofs.Common.{ap₂, ◌∙◌, subst, arith, add-zero, zero-add}
use mathlib.Core.List.Memᴰ.{head as here}
use mathlib.Core.List.{List, [], ◌∷◌, ◌++◌, map, append_assoc, append-nil}
use Rattle.std.proofs.Math.ListN.{length, get_or, take, drop, length-append, length-drop, length-take}
use Rattle.std.proofs.Math.Seq.{take_at, drop_at, take_all}
use Rattle.arrayvec.specs.ArrayVec.{ArrayVec}
use Rattle.lawbase.specs.Basics.{Every, shrink}
use Rattle.text.specs.Bytes.{bytes}
use Rattle.text.specs.Kinds.{cell_of}
use Rattle.text.specs.Answers.{verdict, numbered}
use Rattle.text.specs.PrintBound.{verdict-length, numbered-length}
use Rattle.text.specs.Prints.{Prints, prints_none, prints_more, prints_as}
use Rattle.smallbooks.specs.declared.Found.{Found}
use Rattle.smallbooks.specs.declared.Score.{Score}
use Rattle.smallbooks.specs.declared.Walk.{Walk}
use Rattle.smallbooks.specs.Choose.{combinations, of_sizes}
use Rattle.smallbooks.proofs.Choose.{sizes_split, sizes_last}
use Rattle.smallbooks.specs.Books.{record_of, records_of, solve_record, fresh, printed, all_printed}
use Rattle.smallbooks.specs.Score.{one_more, scores}
use Rattle.smallbooks.proofs.Pick.{record_length}
use Rattle.smallbooks.proofs.ScoreLaws.{scores-append, scores-count}
use Rattle.smallbooks.specs.Tell.{longest, conflicts_of, Tells, runs, run_of, Choosing, Chose, Listing, Telling}

pub printed-length : (f : Found) → f.conflicts ≤ 4294967295 → length (printed f) ≤ longest
unfolding printed
printed-length f h =
    omega (arith, length-append (verdict (cell_of f.verdict)) (numbered (bytes "conflicts=") f.conflicts), verdict-length (cell_of f.verdict), numbered-length (bytes "conflicts=") f.conflicts h)

conflicts_append : (fs gs : List Found) → conflicts_of (fs ++ gs) ≡ conflicts_of fs ++ conflicts_of gs
conflicts_append [] gs = refl
conflicts_append (f ∷ fs) gs = ap (λ (l : List ℕ). f.conflicts ∷ l) (conflicts_append fs gs)

all_append : (fs gs : List Found) → all_printed (fs ++ gs) ≡ all_printed fs ++ all_printed gs
unfolding all_printed
all_append [] gs = refl
all_append (f ∷ fs) gs = ap (λ (l : List ℕ). printed f ++ l) (all_append fs gs) ∙ sym (append_assoc (printed f) (all_printed fs) (all_printed gs))

-- ---- told

pub tells_none : (w : Walk) → Tells w w []
unfolding all_printed scores
tells_none w = record { script = refl; taken = refl; lines = prints_none w.printer.now; score = refl; short = omega arith }

pub tells_one : {old new : Walk} {f : Found} → new.script.items ≡ old.script.items → new.taken ≡ old.taken → Prints old.printer.now new.printer.now (printed f)
    → length (printed f) ≤ longest → new.score ≡ one_more old.score f.conflicts → Tells old new (f ∷ [])
unfolding all_printed scores
tells_one {f = f} s n p h e = record {
  script = s;
  taken = n;
  lines = prints_as (printed f ++ []) (sym (append-nil (printed f))) p;
  score = e;
  short = omega (arith, ap length (append-nil (printed f)), h);
}

pub tells_join : {a b c : Walk} {fs gs : List Found} → Tells a b fs → Tells b c gs → Tells a c (fs ++ gs)
tells_join {a} {b} {c} {fs} {gs} p q = record {
  script = q.script ∙ p.script;
  taken = q.taken ∙ p.taken;
  lines = prints_as (all_printed (fs ++ gs)) (sym (all_append fs gs)) (prints_more p.lines q.lines);
  score =
      q.score ∙ ap (λ (s : Score). scores s (conflicts_of gs)) p.score ∙ sym (scores-append a.score (conflicts_of fs) (conflicts_of gs))
      ∙ ap (scores a.score) (sym (conflicts_append fs gs));
  short = omega (arith, p.short, q.short, ap length (all_append fs gs), length-append (all_printed fs) (all_printed gs), length-append fs gs);
}

pub tells_as : {old new : Walk} {fs : List Found} (gs : List Found) → Tells old new fs → fs ≡ gs → Tells old new gs
tells_as {old} {new} gs p e = subst (Tells old new) e p

map_long : (fs : List Found) → length (conflicts_of fs) ≡ length fs
map_long [] = refl
map_long (f ∷ fs) = ap suc (map_long fs)

pub tells_count : {old new : Walk} {fs : List Found} → Tells old new fs → new.score.count ≡ old.score.count + length fs
tells_count {old} {new} {fs} p =
    ap (λ (s : Score). s.count) p.score ∙ scores-count old.score (conflicts_of fs) ∙ ap (λ (k : ℕ). old.score.count + k) (map_long fs)

-- ---- the runs of sets whose first n clauses stand in p already

pub runs_long : (p : List ℕ) (n : ℕ) (ss : List (List (List ℕ))) → length (runs p n ss) ≡ length ss
unfolding runs
runs_long p n [] = refl
runs_long p n (s ∷ ss) = ap suc (runs_long p n ss)

pub runs_append : (p : List ℕ) (n : ℕ) (ss us : List (List (List ℕ))) → runs p n (ss ++ us) ≡ runs p n ss ++ runs p n us
unfolding runs
runs_append p n [] us = refl
runs_append p n (s ∷ ss) us = ap (λ (l : List Found). run_of p n s ∷ l) (runs_append p n ss us)

run_with : (p : List ℕ) (n : ℕ) (c : List ℕ) (s : List (List ℕ)) → run_of p n (c ∷ s) ≡ run_of (p ++ record_of c) (n + 1) s
unfolding run_of records_of
run_with p n c s =
    let e : n + suc (length s) ≡ n + 1 + length s = omega arith in
    ap (λ (k : ℕ). fresh k (p ++ ((record_of c ++ records_of s) ++ solve_record))) e
    ∙ ap (λ (l : List ℕ). fresh (n + 1 + length s) (p ++ l)) (append_assoc (record_of c) (records_of s) solve_record)
    ∙ ap (fresh (n + 1 + length s)) (sym (append_assoc p (record_of c) (records_of s ++ solve_record)))

runs_with : (p : List ℕ) (n : ℕ) (c : List ℕ) (ss : List (List (List ℕ))) → runs p n (map (λ s. c ∷ s) ss) ≡ runs (p ++ record_of c) (n + 1) ss
unfolding runs
runs_with p n c [] = refl
runs_with p n c (s ∷ ss) = ap₂ (λ (f : Found) (l : List Found). f ∷ l) (run_with p n c s) (runs_with p n c ss)

pub runs_none : (p : List ℕ) (n : ℕ) (cs : List (List ℕ)) → fresh n (p ++ solve_record) ∷ [] ≡ runs p n (combinations 0 cs)
unfolding runs run_of combinations records_of
runs_none p n cs = ap (λ (k : ℕ). fresh k (p ++ solve_record) ∷ []) (sym (add-zero n))

pub runs_end : (p : List ℕ) (n k : ℕ) (cs : List (List ℕ)) → 1 ≤ k → cs ≡ [] → runs p n (combinations k cs) ≡ []
unfolding runs combinations
runs_end p n zero cs h e = absurd (omega arith)
runs_end p n (suc k) cs h e = ap (λ (l : List (List ℕ)). runs p n (combinations (suc k) l)) e

-- with the clause c, or without it
pub runs_more : (p : List ℕ) (n k : ℕ) (c : List ℕ) (cs : List (List ℕ)) → 1 ≤ k
    → runs (p ++ record_of c) (n + 1) (combinations (k - 1) cs) ++ runs p n (combinations k cs) ≡ runs p n (combinations k (c ∷ cs))
unfolding combinations
runs_more p n zero c cs h = absurd (omega arith)
runs_more p n (suc k) c cs h =
    let e : suc k - 1 ≡ k = omega arith in
    ap (λ (j : ℕ). runs (p ++ record_of c) (n + 1) (combinations j cs) ++ runs p n (combinations (suc k) cs)) e
    ∙ ap (λ (l : List Found). l ++ runs p n (combinations (suc k) cs)) (sym (runs_with p n c (combinations k cs)))
    ∙ sym (runs_append p n (map (λ s. c ∷ s) (combinations k cs)) (combinations (suc k) cs))

-- ---- a set's solve: its record is written behind the clauses', and taken away again

pub solve_tells : {old new : Walk} {script : ArrayVec ℕ} {used : ℕ} {f : Found} → script.items ≡ old.script.items ++ solve_record
    → used ≡ length old.script.items → new.script.items ≡ take used script.items → new.taken ≡ old.taken → f ≡ fresh old.taken script.items
    → Prints old.printer.now new.printer.now (printed f) → length (printed f) ≤ longest → new.score ≡ one_more old.score f.conflicts
    → Tells old new (fresh old.taken (old.script.items ++ solve_record) ∷ [])
solve_tells {old} {new} {f = f} e u t n a p h z =
    tells_as (fresh old.taken (old.script.items ++ solve_record) ∷ [])
    (tells_one (t ∙ ap₂ (λ (i : ℕ) (l : List ℕ). take i l) u e ∙ take_at old.script.items solve_record (length old.script.items) refl) n p h z)
    (ap (λ (g : Found). g ∷ []) (a ∙ ap (fresh old.taken) e))

-- ---- the clauses listed: a row of records

-- what stands behind the first two cells
abbrev pub behind : List ℕ → List ℕ
behind listed = take (length listed - 2) (drop 2 listed)

-- the first rule is a clause, and the others are listed behind it
pub record Front (clause tail : List ℕ) (rules : List (List ℕ)) : Type 0 where
  pub others : List (List ℕ)
  pub same : rules ≡ clause ∷ others
  pub listed : tail ≡ records_of others

module _ (c : List ℕ) (cs : List (List ℕ)) {listed : List ℕ} (e : listed ≡ records_of (c ∷ cs)) where
  first_length : get_or listed 1 0 ≡ length c
  unfolding records_of record_of
  first_length = ap (λ (l : List ℕ). get_or l 1 0) e

  first_behind : behind listed ≡ c ++ records_of cs
  unfolding records_of record_of
  first_behind = take_all (length listed - 2) (drop 2 listed) (omega (arith, length-drop 2 listed)) ∙ ap (drop 2) e

  first_inside : get_or listed 1 0 ≤ length (behind listed)
  first_inside = omega (arith, first_length, ap length first_behind, length-append c (records_of cs))

  first_front : {clause tail : List ℕ} → clause ≡ take (get_or listed 1 0) (behind listed) → tail ≡ drop (get_or listed 1 0) (behind listed)
      → Front clause tail (c ∷ cs)
  first_front f t = record {
    others = cs;
    same =
        ap (λ (x : List ℕ). x ∷ cs)
        (sym (f ∙ ap₂ (λ (i : ℕ) (l : List ℕ). take i l) first_length first_behind ∙ take_at c (records_of cs) (length c) refl));
    listed = t ∙ ap₂ (λ (i : ℕ) (l : List ℕ). drop i l) first_length first_behind ∙ drop_at c (records_of cs) (length c) refl;
  }

module _ {listed : List ℕ} (h : 2 ≤ length listed) where
  pub clause_inside : (rules : List (List ℕ)) → listed ≡ records_of rules → get_or listed 1 0 ≤ length (behind listed)
  unfolding records_of
  clause_inside [] e = absurd (omega (arith, ap length e))
  clause_inside (c ∷ cs) e = first_inside c cs e

  module _ {clause tail : List ℕ} (f : clause ≡ take (get_or listed 1 0) (behind listed)) (t : tail ≡ drop (get_or listed 1 0) (behind listed)) where
    pub front : (rules : List (List ℕ)) → listed ≡ records_of rules → Front clause tail rules
    unfolding records_of
    front [] e = absurd (omega (arith, ap length e))
    front (c ∷ cs) e = first_front c cs e f t

pub shorter : (listed : List ℕ) {tail : List ℕ} → 2 ≤ length listed → tail ≡ drop (get_or listed 1 0) (behind listed) → length tail < length listed
shorter listed h t = omega (arith, ap length t, length-drop (get_or listed 1 0) (behind listed), length-take (length listed - 2) (drop 2 listed), length-drop 2 listed)

-- of fewer cells than a record's none is listed
pub none_listed : (listed : List ℕ) (rules : List (List ℕ)) → length listed < 2 → listed ≡ records_of rules → rules ≡ []
unfolding records_of record_of
none_listed listed [] h e = refl
none_listed listed (c ∷ cs) h e = absurd (omega (arith, ap length e))

-- ---- going through the sets of the clauses in the script and `left` more of those listed

sets_one : (k : ℕ) (rules : List (List ℕ)) → k ≡ 0 → length (combinations k rules) ≡ 1
unfolding combinations
sets_one k rules e = ap (λ (j : ℕ). length (combinations j rules)) e

sets_more : (k : ℕ) (c : List ℕ) (cs : List (List ℕ)) → 1 ≤ k → length (combinations (k - 1) cs) + length (combinations k cs) ≡ length (combinations k (c ∷ cs))
unfolding combinations
sets_more zero c cs h = absurd (omega arith)
sets_more (suc k) c cs h =
    let e : suc k - 1 ≡ k = omega arith in
    omega (
      arith,
      ap (λ (j : ℕ). length (combinations j cs)) e,
      length-append (map (λ s. c ∷ s) (combinations k cs)) (combinations (suc k) cs),
      with_long c (combinations k cs),
    )
  where
    with_long : (c : List ℕ) (ss : List (List (List ℕ))) → length (map (λ s. c ∷ s) ss) ≡ length ss
    with_long c [] = refl
    with_long c (s ∷ ss) = ap suc (with_long c ss)

module _ {w : Walk} {listed : List ℕ} {left : ℕ} (p : Choosing w listed left) where
  -- a set whose clauses are all chosen
  pub room_solve : left ≡ 0 → (length w.script.items + 3 ≤ 24) × (w.taken ≤ 3) × (w.score.count < 4294967295)
  room_solve z = (omega (arith, p.cells), omega (arith, p.clauses), omega (arith, p.sets, sets_one left p.rules z))

  pub chose_here : {w' : Walk} → left ≡ 0 → Tells w w' (fresh w.taken (w.script.items ++ solve_record) ∷ []) → Chose w w' listed left
  chose_here z q = record {
    tells = λ rules e.
        tells_as (runs w.script.items w.taken (combinations left rules)) q
        (runs_none w.script.items w.taken rules ∙ ap (λ (j : ℕ). runs w.script.items w.taken (combinations j rules)) (sym z));
  }

  -- no clause is left
  pub chose_out : left ≢ 0 → length listed < 2 → Chose w w listed left
  chose_out some h = record {
    tells = λ rules e.
        tells_as (runs w.script.items w.taken (combinations left rules)) (tells_none w)
        (sym (runs_end w.script.items w.taken left rules (omega (arith, some)) (none_listed listed rules h e)));
  }

  module _ (some : left ≢ 0) (h : 2 ≤ length listed) {clause tail : List ℕ} (f : clause ≡ take (get_or listed 1 0) (behind listed))
      (t : tail ≡ drop (get_or listed 1 0) (behind listed)) where
    abbrev here_front : Front clause tail p.rules
    here_front = front h f t p.rules p.same

    first_short : length clause ≤ 3
    first_short = subst (Every (λ c. length c ≤ 3)) here_front.same p.small clause (here refl)

    pub clause_fits : (length w.script.items + (2 + length clause) ≤ 24) × (length clause ≤ 4294967295)
    clause_fits = (omega (arith, first_short, p.cells), omega (arith, first_short))

    rest_small : Every (λ c. length c ≤ 3) here_front.others
    rest_small = shrink (subst (Every (λ c. length c ≤ 3)) here_front.same p.small)

    count_both : length (combinations (left - 1) here_front.others) + length (combinations left here_front.others) ≡ length (combinations left p.rules)
    count_both =
        sets_more left clause here_front.others (omega (arith, some)) ∙ ap (λ (l : List (List ℕ)). length (combinations left l)) (sym here_front.same)

    -- the clause is taken
    module _ {script : ArrayVec ℕ} (e : script.items ≡ w.script.items ++ record_of clause) where
      abbrev with_it : Walk
      with_it = record { script = script; taken = w.taken + 1; score = w.score; printer = w.printer }

      pub choosing_with : Choosing with_it tail (left - 1)
      choosing_with = record {
        rules = here_front.others;
        same = here_front.listed;
        small = rest_small;
        cells = omega (arith, p.cells, first_short, ap length e, length-append w.script.items (record_of clause), record_length clause);
        clauses = omega (arith, p.clauses);
        sets = omega (arith, p.sets, count_both);
      }

      -- and left out again
      module _ {told : Walk} (q : Chose with_it told tail (left - 1)) {script' : ArrayVec ℕ} {used : ℕ} (u : used ≡ length w.script.items)
          (i : script'.items ≡ take used told.script.items) where
        abbrev back : Walk
        back = record { script = script'; taken = told.taken - 1; score = told.score; printer = told.printer }

        tells_back : {fs : List Found} → Tells with_it told fs → Tells w back fs
        tells_back r = record {
          script = i ∙ ap₂ (λ (i : ℕ) (l : List ℕ). take i l) u (r.script ∙ e) ∙ take_at w.script.items (record_of clause) (length w.script.items) refl;
          taken = omega (arith, r.taken);
          lines = r.lines;
          score = r.score;
          short = r.short;
        }

        first_told : Tells w back (runs script.items (w.taken + 1) (combinations (left - 1) here_front.others))
        first_told = tells_back (q.tells here_front.others here_front.listed)

        pub one_more_taken : 1 ≤ told.taken
        one_more_taken = omega (arith, (q.tells here_front.others here_front.listed).taken)

        pub choosing_without : Choosing back tail left
        choosing_without = record {
          rules = here_front.others;
          same = here_front.listed;
          small = rest_small;
          cells = omega (arith, p.cells, ap length first_told.script);
          clauses = omega (arith, p.clauses, first_told.taken);
          sets = omega (arith, p.sets, count_both, tells_count first_told, runs_long script.items (w.taken + 1) (combinations (left - 1) here_front.others));
        }

        pub chose_both : {new : Walk} → Chose back new tail left → Chose w new listed left
        chose_both z = record {
          tells = λ rules l.
              let g = front h f t rules l in
              let one_less = combinations (left - 1) g.others in
              let as_many = combinations left g.others in
              let one = tells_back (q.tells g.others g.listed) in
              tells_as (runs w.script.items w.taken (combinations left rules)) (tells_join one (z.tells g.others g.listed))
              (ap₂ (λ (s : List ℕ) (fs : List Found). runs s (w.taken + 1) one_less ++ fs) e (ap₂ (λ (s : List ℕ) (n : ℕ). runs s n as_many) one.script one.taken)
              ∙ runs_more w.script.items w.taken left clause g.others (omega (arith, some))
              ∙ ap (λ (r : List (List ℕ)). runs w.script.items w.taken (combinations left r)) (sym g.same));
        }

-- ---- size by size

pub telling_start : (w : Walk) (table : List ℕ) → Telling 0 w w table
unfolding of_sizes runs
telling_start w table = record { tells = λ rules e. tells_none w }

module _ {k : ℕ} {old new : Walk} {table : List ℕ} (l : Listing old table) (p : Telling k old new table) (h : k ≤ 3) where
  sizes_next : (rules : List (List ℕ)) → of_sizes 0 (k + 1) rules ≡ of_sizes 0 k rules ++ combinations k rules
  sizes_next rules = sizes_last 0 k rules ∙ ap (λ (j : ℕ). of_sizes 0 k rules ++ combinations j rules) (zero-add k)

  within : (rules : List (List ℕ)) → length (of_sizes 0 k rules) + length (combinations k rules) ≤ length (of_sizes 0 4 rules)
  within rules =
      let e : k + 1 + (3 - k) ≡ 4 = omega arith in
      omega (
        arith,
        ap length (sizes_next rules),
        length-append (of_sizes 0 k rules) (combinations k rules),
        ap length (sizes_split 0 (k + 1) (3 - k) rules),
        length-append (of_sizes 0 (k + 1) rules) (of_sizes (0 + (k + 1)) (3 - k) rules),
        ap (λ (j : ℕ). length (of_sizes 0 j rules)) e,
      )

  pub telling_choosing : Choosing new table k
  telling_choosing =
      let q = p.tells l.rules l.same in
      record {
        rules = l.rules;
        same = l.same;
        small = l.small;
        cells = omega (arith, l.cells, ap length q.script);
        clauses = omega (arith, l.none, q.taken);
        sets = omega (arith, l.sets, tells_count q, runs_long old.script.items old.taken (of_sizes 0 k l.rules), within l.rules);
      }

  pub telling_more : {next : Walk} → Chose new next table k → Telling (k + 1) old next table
  telling_more q = record {
    tells = λ rules e.
        let one = p.tells rules e in
        tells_as (runs old.script.items old.taken (of_sizes 0 (k + 1) rules)) (tells_join one (q.tells rules e))
        (ap (λ (fs : List Found). runs old.script.items old.taken (of_sizes 0 k rules) ++ fs) (ap₂ (λ (s : List ℕ) (n : ℕ). runs s n (combinations k rules)) one.script one.taken)
        ∙ sym (runs_append old.script.items old.taken (of_sizes 0 k rules) (combinations k rules))
        ∙ ap (runs old.script.items old.taken) (sym (sizes_next rules)));
  }
