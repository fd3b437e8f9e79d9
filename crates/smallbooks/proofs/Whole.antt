-- From the sets' lines to a book's text, and to the whole of `output`.
use Rattle.std.specs.Prelude.{◌≡◌, refl, List, [], ◌∷◌, ◌++◌, map, ℕ, zero, suc, ◌≤◌, length, drop}
use Rattle.std.proofs.Math.Path.{ap}
use Rattle.std.proofs.Common.{ap₂, ◌∙◌, arith, zero-add, length-append}
use Rattle.std.proofs.lemmas.List.Edits.{sets-eq}
use Rattle.text.specs.Bytes.{bytes}
use Rattle.text.specs.Number.{shown}
use Rattle.text.specs.Answers.{numbered}
use Rattle.text.specs.PrintBound.{number_length, numbered-length}
use Rattle.text.specs.WriteLaws.{Written}
use Rattle.text.specs.Prints.{Prints as PrintsMore, prints_more, prints_as, prints_from, printed_all}
use Rattle.smallbooks.specs.declared.Found.{Found}
use Rattle.smallbooks.specs.declared.Score.{Score}
use Rattle.text.specs.declared.printer.Printer.{Printer}
use Rattle.smallbooks.specs.declared.Walk.{Walk}
use Rattle.smallbooks.specs.Choose.{combinations, of_sizes}
use Rattle.smallbooks.specs.Books.{upward, literals, apart, filter, clauses, sets, header, records_of, solve_record, script, fresh, solved, all_printed, printed_most, printed_book, book, output}
use Rattle.smallbooks.proofs.SetsLaws.{clauses_short}
use Rattle.smallbooks.specs.Score.{scores, none_yet}
use Rattle.smallbooks.proofs.ScoreLaws.{scores_most, scores_first}
use Rattle.smallbooks.specs.Tell.{conflicts_of, run_of, runs, Tells, Listing, Telling}
use Rattle.smallbooks.proofs.Tell.{runs_long}
use Rattle.smallbooks.specs.Whole.{most_line, Booked, Prints, max_text}

-- ---- how much there is of up to three variables

-- the sets: 4, 93 and 2,952 of one, two and three variables
pub sets_of_one : length (sets 1) ≡ 4
unfolding combinations of_sizes upward literals apart filter clauses sets
sets_of_one = refl

pub sets_of_two : length (sets 2) ≡ 93
unfolding combinations of_sizes upward literals apart filter clauses sets
sets_of_two = refl

pub sets_of_three : length (sets 3) ≡ 2952
unfolding combinations of_sizes upward literals apart filter clauses sets
sets_of_three = refl

sets_of_none : length (sets 0) ≡ 1
unfolding combinations of_sizes upward literals apart filter clauses sets
sets_of_none = refl

sets-known : (v : ℕ) → v ≤ 3 → length (sets v) ≤ 2952
sets-known zero h = omega (arith, sets_of_none)
sets-known (suc zero) h = omega (arith, sets_of_one)
sets-known (suc (suc zero)) h = omega (arith, sets_of_two)
sets-known (suc (suc (suc zero))) h = omega (arith, sets_of_three)
sets-known (suc (suc (suc (suc v)))) h = absurd (omega arith)

-- ---- a book

header-length : (v : ℕ) → length (header v) ≡ 6
unfolding header
header-length v = refl

pub listing : (v : ℕ) → v ≤ 3 → {w : Walk} {table : List ℕ} → table ≡ records_of (clauses v) → w.script.items ≡ header v → w.taken ≡ 0 → w.score ≡ none_yet → Listing w table
unfolding none_yet sets
listing v h {w} l s n z = record {
  rules = clauses v;
  same = l;
  small = λ r i. omega (arith, clauses_short v r i, h);
  cells = omega (arith, ap length s, header-length v);
  none = n;
  sets = omega (arith, ap (λ (x : Score). x.count) z, sets-known v h);
}

solved-run : (v : ℕ) (s : List (List ℕ)) → run_of (header v) 0 s ≡ solved v s
unfolding run_of solved script
solved-run v s = ap (λ (k : ℕ). fresh k (header v ++ (records_of s ++ solve_record))) (zero-add (length s))

runs-solved : (v : ℕ) (ss : List (List (List ℕ))) → runs (header v) 0 ss ≡ map (solved v) ss
unfolding runs
runs-solved v [] = refl
runs-solved v (s ∷ ss) = ap₂ (λ (f : Found) (fs : List Found). f ∷ fs) (solved-run v s) (runs-solved v ss)

most_printed : (s : Score) (cs : List ℕ) → s ≡ scores none_yet cs → most_line s ≡ printed_most cs
unfolding most_line printed_most
most_printed s cs e =
    ap₂ (λ (m n : ℕ). bytes "most=" ++ shown m ++ numbered (bytes " ") n)
    (ap (λ (x : Score). x.most) e ∙ scores_most cs)
    (ap (λ (x : Score). x.first) e ∙ scores_first cs)

pub most_length : (s : Score) → s.most ≤ 4294967295 → s.first ≤ 4294967295 → length (most_line s) ≤ 27
unfolding most_line
most_length s h k =
    omega (
      arith,
      length-append (bytes "most=" ++ shown s.most) (numbered (bytes " ") s.first),
      length-append (bytes "most=") (shown s.most),
      number_length s.most (omega arith),
      numbered-length (bytes " ") s.first k,
    )

pub booked : {v : ℕ} {old new : Walk} {table : List ℕ} {q p : Printer} → Telling 4 old new table
    → table ≡ records_of (clauses v) → old.script.items ≡ header v → old.taken ≡ 0 → old.score ≡ none_yet
    → q ≡ new.printer.now → PrintsMore q p (most_line new.score) → length (most_line new.score) ≤ 27 → Booked v old.printer.now p
unfolding sets book printed_book
booked {v} {old} {new} {table} {q} {p} a l s n z e w h =
    let fs = runs old.script.items old.taken (of_sizes 0 4 (clauses v)) in
    let t : Tells old new fs = a.tells (clauses v) l in
    let same : fs ≡ map (solved v) (sets v) = ap₂ (λ (x : List ℕ) (m : ℕ). runs x m (of_sizes 0 4 (clauses v))) s n ∙ runs-solved v (of_sizes 0 4 (clauses v)) in
    let score : new.score ≡ scores none_yet (conflicts_of fs) = t.score ∙ ap (λ (x : Score). scores x (conflicts_of fs)) z in
    let most = most_printed new.score (conflicts_of fs) score in
    let whole = ap (λ (x : List ℕ). all_printed fs ++ x) most ∙ ap printed_book same in
    record {
      lines = prints_as (book v) whole (prints_more t.lines (prints_from e w));
      short = omega (
        arith,
        ap length whole,
        length-append (all_printed fs) (most_line new.score),
        t.short,
        runs_long old.script.items old.taken (of_sizes 0 4 (clauses v)),
        h,
      );
    }

-- ---- the whole

-- through a printer over the slice
pub prints : {s after : List ℕ} {p one two three : Printer} → p.at ≡ 0 → p.text.now ≡ s → after ≡ three.text.now
    → Booked 1 p one → Booked 2 one two → Booked 3 two three → Prints s after three.at
unfolding output
prints {s} {after} z f g x y t =
    let w : Written s 0 output after _ = printed_all output (prints_more (prints_more x.lines y.lines) t.lines) refl z f g in
    let short : length output ≤ max_text =
    omega (
      arith,
      length-append (book 1 ++ book 2) (book 3),
      length-append (book 1) (book 2),
      x.short,
      y.short,
      t.short,
      sets_of_one,
      sets_of_two,
      sets_of_three,
    ) in
    record {
      written = w;
      whole = λ h. (
        w.slice ∙ sets-eq output s 0 (omega (arith, short)) ∙ ap (λ (k : ℕ). output ++ drop k s) (zero-add (length output)),
        omega (arith, w.end, short),
      );
    }
