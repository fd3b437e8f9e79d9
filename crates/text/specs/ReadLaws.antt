-- A text read line by line, as the code goes through it.
use Rattle.std.specs.Prelude.{ℕ, zero, suc, ◌+◌, ◌-◌, ◌≤◌, ◌<◌, ◌≡◌, refl, Bool, true, false, Option, None, Some, Result, Ok, Err, MatchResult, List, [], ◌∷◌, ◌++◌, length, get_or, take, drop, eqb, leb}
use Rattle.std.proofs.Common.{sym, ap, subst, ◌∙◌, append_assoc, append-nil, arith, length-append, length-drop, take-append-drop, length-take-le, take_at, drop_at, get_or-take, drop-drop, le-leb, lt-ltb, le-ltb, leb-true}
use Rattle.std.proofs.Math.Decide.{dec_lt}
use Rattle.std.proofs.Math.ListN.{get_or-append}
use Rattle.std.proofs.lemmas.Bool.{lt-leb}
use Rattle.refusal.specs.declared.Rule.{Rule}
use Rattle.refusal.specs.declared.Rule.TheVariants.{BadKey, BadNumber, LongText}
use Rattle.refusal.specs.declared.Refusal.{Refusal}
use Rattle.text.specs.Limits.{max_cells, max_bytes}
use Rattle.text.specs.Bytes.{bytes}
use Rattle.text.specs.Split.{words, starts, lines}
use Rattle.text.specs.Number.{decimal}
use Rattle.text.specs.Format.{
  Cells,
  wrong,
  cells,
  literals,
  record_of,
  fitting,
  clause_words,
  clause_cells,
  solve_cells,
  value_cells,
  with_sizes,
  record_cells,
  line_cells,
  pick,
  Reading,
  refused,
  script,
  read_lines,
  read_text,
}
use Rattle.text.specs.FormatLaws.{listed, counted, over, Puts, counted_wrong, counted_good}
use Rattle.text.specs.PutLaws.{value_key, value_bad, value_good, record_clause, record_solve, record_neither, line_1}
use Rattle.text.specs.declared.reading.Script.{Script}

-- ---- the answer for a text

-- the rule and the place, or how many cells and records
abbrev pub answer_of : Reading → Result Script Refusal
answer_of (refused rule place before) = Err record { rule = rule; place = place }
answer_of (script xs records) = Ok record { cells = length xs; records = records }

-- the cells that are stored: of a refused text, those of the lines before its place
abbrev pub stored : Reading → List ℕ
stored (refused rule place before) = before
stored (script xs records) = xs

pub record Read (x : Reading) (before after : List ℕ) (r : Result Script Refusal) : Type 0 where
  pub answer : r ≡ answer_of x
  pub slice : after ≡ over (stored x) before

-- ---- a line has a cell or more, and V is at most 128

abbrev Filled : Cells → Type 0
Filled (wrong k) = Unit
Filled (cells xs) = 1 ≤ length xs

some_of : (x y : Cells) → x ≡ y → Filled y → Filled x
some_of x y e s = rw e s

value_some : (key line : List ℕ) → Filled (value_cells key line)
value_some key line = go (starts key line) refl (decimal (drop (length key) line)) refl
  where
    go : (t : Bool) → starts key line ≡ t → (d : Option ℕ) → decimal (drop (length key) line) ≡ d → Filled (value_cells key line)
    go false q d p = some_of (value_cells key line) (wrong BadKey) (value_key key line q) tt
    go true q None p = some_of (value_cells key line) (wrong BadNumber) (value_bad key line q p) tt
    go true q (Some m) p = some_of (value_cells key line) (cells (m ∷ [])) (value_good key line m q p) (omega arith)

record_some : (kind : ℕ) (more : List ℕ) (x : Cells) → Filled (record_of kind more x)
unfolding record_of
record_some kind more (wrong k) = tt
record_some kind more (cells ls) = omega arith

solve_some : (v : ℕ) (ws : List (List ℕ)) → Filled (solve_cells v ws)
unfolding solve_cells
solve_some v [] = tt
solve_some v (w ∷ ws) = go (decimal w) refl
  where
    go : (d : Option ℕ) → decimal w ≡ d → Filled (solve_cells v (w ∷ ws))
    go None e = rw (solve_cells, e) tt
    go (Some b) e = rw (solve_cells, e) (record_some 2 (b ∷ []) (literals v ws))

records_some : (v : ℕ) (line : List ℕ) → Filled (record_cells v line)
unfolding clause_cells
records_some v line = go (starts (bytes "clause=") line) refl (starts (bytes "solve=") line) refl
  where
    go : (t : Bool) → starts (bytes "clause=") line ≡ t → (u : Bool) → starts (bytes "solve=") line ≡ u → Filled (record_cells v line)
    go true p u q = some_of (record_cells v line) (clause_cells v (drop 7 line)) (record_clause v line p) (record_some 1 [] (literals v (clause_words (drop 7 line))))
    go false p true q = some_of (record_cells v line) (solve_cells v (words (drop 6 line))) (record_solve v line p q) (solve_some v (words (drop 6 line)))
    go false p false q = some_of (record_cells v line) (wrong BadKey) (record_neither v line p q) tt

-- V of the first line
abbrev Small : Cells → Type 0
Small (wrong k) = Unit
Small (cells xs) = (1 ≤ length xs) × (get_or xs 0 0 ≤ 128)

sizes_small : (x : Cells) → Filled x → Small (with_sizes x)
unfolding with_sizes
sizes_small (wrong k) s = tt
sizes_small (cells []) s = absurd (omega arith)
sizes_small (cells (n ∷ xs)) s = go (leb n 128) refl
  where
    go : (t : Bool) → leb n 128 ≡ t → Small (with_sizes (cells (n ∷ xs)))
    go true e = rw (with_sizes, e) (omega arith, leb-true n 128 e)
    go false e = rw (with_sizes, e) tt

pick_some : (t : Bool) (x y : Cells) → Filled x → Filled y → Filled (pick t x y)
pick_some true x y s u = s
pick_some false x y s u = u

small_some : (x : Cells) → Small x → Filled x
small_some (wrong k) s = tt
small_some (cells xs) s = s.0

line_some : (n v : ℕ) (line : List ℕ) → Filled (line_cells n v line)
unfolding line_cells
line_some n v line =
    pick_some (eqb n 1) _ _ (small_some (with_sizes (value_cells (bytes "vars=") line)) (sizes_small (value_cells (bytes "vars=") line) (value_some (bytes "vars=") line)))
    (pick_some (eqb n 2) _ _ (value_some (bytes "mode=") line)
    (pick_some (eqb n 3) _ _ (value_some (bytes "phase=") line)
    (pick_some (eqb n 4) _ _ (value_some (bytes "unit=") line)
    (records_some v line))))

line_small : (n v : ℕ) (line : List ℕ) → n ≡ 1 → Small (line_cells n v line)
line_small n v line e = rw (line_1 n v line e) (sizes_small (value_cells (bytes "vars=") line) (value_some (bytes "vars=") line))

fitting_same : (room used : ℕ) (x : Cells) (xs : List ℕ) → fitting room used x ≡ cells xs → x ≡ cells xs
unfolding fitting
fitting_same room used (wrong k) xs e = cc
fitting_same room used (cells ys) xs e = go (leb (used + length ys) room) refl
  where
    go : (t : Bool) → leb (used + length ys) room ≡ t → cells ys ≡ cells xs
    go true q = rw (fitting, q) at e
    go false q = let w : wrong LongText ≡ cells xs = rw (fitting, q) at e in cc

-- ---- where the loop stands: before line n, `used` cells stored, `ls` the lines to come

pub record Reached (room n used vars : ℕ) (now first : List ℕ) (ls : List (List ℕ)) (whole : Reading) : Type 0 where
  pub same : read_lines room n (take used now) ls ≡ whole
  pub behind : drop used now ≡ drop used first
  pub long : length now ≡ length first
  pub low : used ≤ room
  pub inside : room ≤ length now
  pub most_cells : room ≤ max_cells
  pub vars_are : vars ≡ get_or (take used now) 0 0
  pub small : vars ≤ 128
  pub pos : 1 ≤ n
  pub most : n ≤ used + 1

turn_wrong : (room n : ℕ) (k : Rule) (before l : List ℕ) (ls : List (List ℕ)) → fitting room (length before) (line_cells n (get_or before 0 0) l) ≡ wrong k
    → read_lines room n before (l ∷ ls) ≡ refused k n before
unfolding read_lines
turn_wrong room n k before l ls e = rw (read_lines, e)

turn_good : (room n : ℕ) (before l xs : List ℕ) (ls : List (List ℕ)) → fitting room (length before) (line_cells n (get_or before 0 0) l) ≡ cells xs
    → read_lines room n before (l ∷ ls) ≡ read_lines room (n + 1) (before ++ xs) ls
unfolding read_lines
turn_good room n before l xs ls e = rw (read_lines, e)

-- the slice is what is stored, and behind it as it was
split : (used : ℕ) (now first : List ℕ) → used ≤ length now → drop used now ≡ drop used first → now ≡ over (take used now) first
split used now first h e = rw (length-take-le used now h, ← e) (sym (take-append-drop used now))

module _ {room n used vars : ℕ} {now first : List ℕ} {ls : List (List ℕ)} {whole : Reading} (q : Reached room n used vars now first ls whole) where
  within : used ≤ length now
  within = omega (arith, q.low, q.inside)

  refusal : (k : Rule) → read_lines room n (take used now) ls ≡ refused k n (take used now) → Read whole first now (Err record { rule = k; place = n })
  refusal k e =
      let w : whole ≡ refused k n (take used now) = sym q.same ∙ e in
      record { answer = rw w; slice = rw w (split used now first within q.behind) }

  acceptance : read_lines room n (take used now) ls ≡ script (take used now) (n - 5) → Read whole first now (Ok record { cells = used; records = n - 5 })
  acceptance e =
      let w : whole ≡ script (take used now) (n - 5) = sym q.same ∙ e in
      record { answer = rw w (rw (length-take-le used now within)); slice = rw w (split used now first within q.behind) }

-- the end of the lines
pub ended_short : {room n used vars : ℕ} {now first : List ℕ} {whole : Reading} → Reached room n used vars now first [] whole → n < 5
    → Read whole first now (Err record { rule = BadKey; place = n })
unfolding read_lines
ended_short {n = n} q h = refusal q BadKey (rw (read_lines, lt-ltb n 5 h))

pub ended : {room n used vars : ℕ} {now first : List ℕ} {whole : Reading} → Reached room n used vars now first [] whole → 5 ≤ n
    → Read whole first now (Ok record { cells = used; records = n - 5 })
unfolding read_lines
ended {n = n} q h = acceptance q (rw (read_lines, le-ltb n 5 h))

-- ---- a line

-- cells behind `used`, up to `room`, are as many as there is room for in the slice between
fitting_between : (room used : ℕ) (x : Cells) → used ≤ room → fitting (room - used) 0 x ≡ fitting room used x
unfolding fitting
fitting_between room used (wrong k) h = refl
fitting_between room used (cells xs) h = go (dec_lt room (used + length xs))
  where
    go : Dec (room < used + length xs) → fitting (room - used) 0 (cells xs) ≡ fitting room used (cells xs)
    go (yes l) = rw (fitting, lt-leb (0 + length xs) (room - used) (omega arith), lt-leb (used + length xs) room l)
    go (no l) = rw (fitting, le-leb (0 + length xs) (room - used) (omega arith), le-leb (used + length xs) room (omega arith))

fitting_room : (room used : ℕ) (x : Cells) (xs : List ℕ) → fitting room used x ≡ cells xs → used + length xs ≤ room
unfolding fitting
fitting_room room used (wrong k) xs e = absurd (cc)
fitting_room room used (cells ys) xs e = go (leb (used + length ys) room) refl
  where
    go : (t : Bool) → leb (used + length ys) room ≡ t → used + length xs ≤ room
    go true q = let w : cells ys ≡ cells xs = rw (fitting, q) at e in let z : ys ≡ xs = cc in omega (arith, ap length z, leb-true (used + length ys) room q)
    go false q = let w : wrong LongText ≡ cells xs = rw (fitting, q) at e in absurd (cc)

drop_front : (k : ℕ) (xs ys : List ℕ) → k ≤ length xs → drop k (xs ++ ys) ≡ drop k xs ++ ys
drop_front zero xs ys h = refl
drop_front (suc k) [] ys h = absurd (omega arith)
drop_front (suc k) (x ∷ xs) ys h = drop_front k xs ys (omega arith)

behind_room : (room used : ℕ) (now : List ℕ) → used ≤ room → drop (room - used) (drop used now) ≡ drop room now
behind_room room used now h = let e : used + (room - used) ≡ room = omega arith in drop-drop (room - used) used now ∙ ap (λ (k : ℕ). drop k now) e

module _ (room used : ℕ) (now rest : List ℕ) (low : used ≤ room) (inside : room ≤ length now) (is : rest ≡ take (room - used) (drop used now)) where
  rest_long : length rest ≡ room - used
  rest_long = ap length is ∙ length-take-le (room - used) (drop used now) (omega (arith, length-drop used now))

  rest_whole : rest ++ drop room now ≡ drop used now
  rest_whole =
      ap (λ (l : List ℕ). l ++ drop room now) is ∙ ap (λ (l : List ℕ). take (room - used) (drop used now) ++ l) (sym (behind_room room used now low))
      ∙ take-append-drop (room - used) (drop used now)

  placed : (xs : List ℕ) → length xs ≤ room - used → over xs rest ++ drop room now ≡ xs ++ drop (used + length xs) now
  placed xs h =
      let k : length xs ≤ length rest = omega (arith, rest_long) in
      append_assoc xs (drop (length xs) rest) (drop room now)
      ∙ ap (λ (l : List ℕ). xs ++ l) (sym (drop_front (length xs) rest (drop room now) k) ∙ ap (drop (length xs)) rest_whole ∙ drop-drop (length xs) used now)

module _ {room n used vars : ℕ} {now first l : List ℕ} {ls : List (List ℕ)} {whole : Reading} {rest rest' next : List ℕ} {r : Result ℕ Rule}
    (q : Reached room n used vars now first (l ∷ ls) whole) (is : rest ≡ take (room - used) (drop used now)) (p : Puts (line_cells n vars l) rest rest' r)
    (e : next ≡ take used now ++ (rest' ++ drop (room - used) (drop used now))) where
  abbrev x : Cells
  x = fitting room used (line_cells n vars l)

  -- the line as the definition reads it
  as_defined : fitting room (length (take used now)) (line_cells n (get_or (take used now) 0 0) l) ≡ x
  as_defined = rw (length-take-le used now (within q), ← q.vars_are)

  as_put : fitting (length rest) 0 (line_cells n vars l) ≡ x
  as_put = rw (rest_long room used now rest q.low q.inside is) (fitting_between room used (line_cells n vars l) q.low)

  answer : r ≡ counted 0 x
  answer = p.answer ∙ ap (counted 0) as_put

  becomes : (xs : List ℕ) → listed x ≡ xs → used + length xs ≤ room → next ≡ (take used now ++ xs) ++ drop (used + length xs) now
  becomes xs f h =
      e ∙ ap (λ (t : List ℕ). take used now ++ (rest' ++ t)) (behind_room room used now q.low) ∙ sym (append_assoc (take used now) rest' (drop room now))
      ∙ ap (λ (t : List ℕ). (take used now ++ t) ++ drop room now) (p.slice ∙ ap (λ (y : Cells). over (listed y) rest) as_put ∙ ap (λ (t : List ℕ). over t rest) f)
      ∙ append_assoc (take used now) (over xs rest) (drop room now)
      ∙ ap (λ (t : List ℕ). take used now ++ t) (placed room used now rest q.low q.inside is xs (omega arith))
      ∙ sym (append_assoc (take used now) xs (drop (used + length xs) now))

  pub line_refused : (k : Rule) → r ≡ Err k → Read whole first next (Err record { rule = k; place = n })
  line_refused k d =
      let w = counted_wrong 0 x k (sym answer ∙ d) in
      let z : used + 0 ≡ used = omega arith in
      let s : next ≡ now = becomes [] (ap listed w) (omega (arith, q.low)) ∙ ap (λ (t : List ℕ). t ++ drop (used + 0) now) (append-nil (take used now)) ∙ ap (λ (i : ℕ). take used now ++ drop i now) z ∙ take-append-drop used now in
      rw s (refusal q k (turn_wrong room n k (take used now) l ls (as_defined ∙ w)))

  -- the same of a refusal that has the rule, and the place of the line
  pub line_refused_as : (o : Result ℕ Refusal) (f : Refusal) → MatchResult r (λ m. o ≡ Ok m) (λ k. o ≡ Err record { rule = k; place = n }) → o ≡ Err f → Read whole first next (Err f)
  line_refused_as o f d v = go r refl d
    where
      go : (t : Result ℕ Rule) → r ≡ t → MatchResult t (λ m. o ≡ Ok m) (λ k. o ≡ Err record { rule = k; place = n }) → Read whole first next (Err f)
      go (Ok m) g w = absurd (cc)
      go (Err k) g w = let z : f ≡ record { rule = k; place = n } = cc in rw z (line_refused k g)

  record Turned (m : ℕ) (xs : List ℕ) : Type 0 where
    pub fits : x ≡ cells xs
    pub count : m ≡ length xs
    pub enough : 1 ≤ m
    pub room_left : used + m ≤ room
    pub becomes : take (used + m) next ≡ take used now ++ xs
    pub beyond : drop (used + m) next ≡ drop (used + m) now
    pub length_kept : length next ≡ length now

  turned : (m : ℕ) → r ≡ Ok m → Turned m (listed x)
  turned m d =
      let g = counted_good 0 x m (sym answer ∙ d) in
      let xs = listed x in
      let c : m ≡ length xs = omega (arith, g.1) in
      let h : used + length xs ≤ room = fitting_room room used (line_cells n vars l) xs g.0 in
      let t : length (take used now ++ xs) ≡ used + length xs = length-append (take used now) xs ∙ ap (λ (k : ℕ). k + length xs) (length-take-le used now (within q)) in
      let v : next ≡ (take used now ++ xs) ++ drop (used + length xs) now = becomes xs refl h in
      record {
        fits = g.0;
        count = c;
        enough = rw c (some_of (cells xs) (line_cells n vars l) (sym (fitting_same room used (line_cells n vars l) xs g.0)) (line_some n vars l));
        room_left = omega arith;
        becomes = rw (c, v) (take_at (take used now ++ xs) (drop (used + length xs) now) (used + length xs) t);
        beyond = rw (c, v) (drop_at (take used now ++ xs) (drop (used + length xs) now) (used + length xs) t);
        length_kept = ap length v ∙ length-append (take used now ++ xs) (drop (used + length xs) now) ∙ omega (arith, t, length-drop (used + length xs) now, q.inside, h);
      }

  first_small : (m : ℕ) (xs : List ℕ) → Turned m xs → get_or (take used now ++ xs) 0 0 ≤ 128
  first_small m xs t = go (dec_lt 0 used)
    where
      go : Dec (0 < used) → get_or (take used now ++ xs) 0 0 ≤ 128
      go (yes h) =
          let k : 0 < length (take used now) = rw (length-take-le used now (within q)) h in
          rw (get_or-append (take used now) xs 0 0 k, ← q.vars_are) q.small
      go (no h) =
          let z : used ≡ 0 = omega arith in
          let o : n ≡ 1 = omega (arith, q.pos, q.most) in
          let s : Small (cells xs) = rw (fitting_same room used (line_cells n vars l) xs t.fits) at (line_small n vars l o) in
          rw z s.1

  pub line_taken : (m : ℕ) → r ≡ Ok m → Reached room (n + 1) (used + m) (get_or next 0 0) next first ls whole
  line_taken m d =
      let xs = listed x in
      let t = turned m d in
      let v : get_or next 0 0 ≡ get_or (take (used + m) next) 0 0 = sym (get_or-take (used + m) next 0 0 (omega (arith, t.enough))) in
      record {
        same = rw t.becomes (sym (turn_good room n (take used now) l xs ls (as_defined ∙ t.fits)) ∙ q.same);
        behind = t.beyond ∙ sym (drop-drop m used now) ∙ ap (drop m) q.behind ∙ drop-drop m used first;
        long = t.length_kept ∙ q.long;
        low = t.room_left;
        inside = omega (arith, t.length_kept, q.inside);
        most_cells = q.most_cells;
        vars_are = v;
        small = rw (v, t.becomes) (first_small m xs t);
        pos = omega arith;
        most = omega (arith, t.enough, q.most);
      }

-- the next line, as the code cuts it off

pub reached_as : {room n used vars : ℕ} {now first : List ℕ} {ls ms : List (List ℕ)} {whole : Reading} → Reached room n used vars now first ls whole → ls ≡ ms
    → Reached room n used vars now first ms whole
reached_as {room} {n} {used} {vars} {now} {first} {whole = whole} q e = subst (λ (ks : List (List ℕ)). Reached room n used vars now first ks whole) e q

-- ---- the whole text

pub begin : (room : ℕ) (text s : List ℕ) → length text ≤ max_bytes → room ≤ length s → room ≤ max_cells
    → Reached room 1 0 0 s s (lines text) (read_text room text)
unfolding read_text
begin room text s h i k = record {
  same = rw (le-leb (length text) max_bytes h, read_text);
  behind = refl;
  long = refl;
  low = omega arith;
  inside = i;
  most_cells = k;
  vars_are = refl;
  small = omega arith;
  pos = omega arith;
  most = omega arith;
}

pub too_long : (room : ℕ) (text s : List ℕ) → max_bytes < length text → Read (read_text room text) s s (Err record { rule = LongText; place = 0 })
unfolding read_text
too_long room text s h =
    let e : read_text room text ≡ refused LongText 0 [] = rw (lt-leb (length text) max_bytes h, read_text) in
    record { answer = rw e; slice = rw e }
