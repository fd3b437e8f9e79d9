-- Lines read word by word.
use Rattle.std.specs.Prelude.{◌≡◌, ℕ, suc, ◌+◌, ◌%◌, ◌^◌, ◌<◌, ◌≤◌, Bool, true, false, not, Option, None, Some, List, [], ◌∷◌, ◌++◌, length, take, drop, ◌==◌, slice_set, refl}
use Rattle.std.proofs.Math.Path.{sym, ap}
use Rattle.std.proofs.Common.{◌∙◌, arith, add-one, take-suc-set, lt-ltb, le-ltb}
use Rattle.text.specs.Bytes.{blank, newline}
use Rattle.text.specs.Split.{push, pieces, before, starts, lines, words}
use Rattle.text.specs.SplitLaws.{Cut, words_of, words_cut}
use Rattle.text.specs.FormatLaws.{words_end}
use Rattle.text.specs.Number.{decimal}
use denote.Ref.{Bor}
use Rattle.replay.specs.declared.Tally.{Tally}
use Rattle.replay.specs.Vector.{vector_holds}
use Rattle.replay.specs.Lines.{read_on, line_numbers, Lengths, line_holds, one, added, group_key, scripts, next_group, others, all_scripts, count, tallied, Grouped}

push_some : (b : ℕ) (ps : List (List ℕ)) → 0 < length (push b ps)
unfolding push
push_some b [] = omega arith
push_some b (p ∷ ps) = omega arith

some_word : (l : List ℕ) → 0 < length (words l)
unfolding pieces
some_word [] = omega arith
some_word (b ∷ bs) = go (b == blank)
  where
    go : (t : Bool) → 0 < length {A = List ℕ} (elim t as (λ _. List (List ℕ)) [ true ↦ [] ∷ words bs | false ↦ push b (words bs) ])
    go true = omega arith
    go false = push_some b (words bs)

-- the words behind the name
pub numbers_start : (line first : List ℕ) (room : ℕ) (o : Option (Bor (List ℕ))) → first ≡ before blank line → Cut blank line first o
    → read_on room [] (words_of o) ≡ line_numbers room line
unfolding line_numbers
numbers_start line first room o e c = ap (λ (ws : List (List ℕ)). read_on room [] (drop 1 ws)) (sym (words_cut line first o e c))

read_bad : (room : ℕ) (xs w : List ℕ) (ws : List (List ℕ)) → decimal w ≡ None → read_on room xs (w ∷ ws) ≡ []
unfolding read_on
read_bad room xs w ws e = rw (read_on, e)

read_full : (room : ℕ) (xs w : List ℕ) (ws : List (List ℕ)) (x : ℕ) → decimal w ≡ Some x → room ≤ length xs → read_on room xs (w ∷ ws) ≡ []
unfolding read_on
read_full room xs w ws x e h = rw (read_on, e, le-ltb (length xs) room h)

read_more : (room : ℕ) (xs w : List ℕ) (ws : List (List ℕ)) (x : ℕ) → decimal w ≡ Some x → length xs < room
    → read_on room xs (w ∷ ws) ≡ read_on room (xs ++ (x ∷ [])) ws
unfolding read_on
read_more room xs w ws x e h = rw (read_on, e, lt-ltb (length xs) room h)

module _ (o : Option (Bor (List ℕ))) {left : Option (Bor (List ℕ))} {line : Bor (List ℕ)} {w : List ℕ} (e : left ≡ Some line) (f : w ≡ before blank line.now) (c : Cut blank line.now w o)
    (room : ℕ) (xs : List ℕ) where
  turn : read_on room xs (words_of left) ≡ read_on room xs (w ∷ words_of o)
  turn = ap (read_on room xs) (ap words_of e ∙ words_cut line.now w o f c)

  pub numbers_bad : decimal w ≡ None → [] ≡ read_on room xs (words_of left)
  numbers_bad b = sym (turn ∙ read_bad room xs w (words_of o) b)

  module _ (x : ℕ) (b : decimal w ≡ Some x) where
    pub numbers_more : length xs < room → (k : ℕ) (cells : List ℕ) → k < length cells → xs ≡ take k cells
        → read_on room (take (k + 1) (slice_set cells k x)) (words_of o) ≡ read_on room xs (words_of left)
    numbers_more l k cells q p =
        ap (λ (ys : List ℕ). read_on room ys (words_of o))
        (ap (λ (n : ℕ). take n (slice_set cells k x)) (add-one k) ∙ take-suc-set cells k x q ∙ ap (λ (ys : List ℕ). ys ++ (x ∷ [])) (sym p))
        ∙ sym (turn ∙ read_more room xs w (words_of o) x b l)

pub numbers_end : {left : Option (Bor (List ℕ))} (room : ℕ) (xs : List ℕ) → left ≡ None → xs ≡ read_on room xs (words_of left)
unfolding read_on
numbers_end room xs e = sym (ap (read_on room xs) (words_end e))

-- words that are left where there is no room
pub numbers_over : {left : Option (Bor (List ℕ))} {line : Bor (List ℕ)} (room : ℕ) (xs : List ℕ) → left ≡ Some line → room ≤ length xs → [] ≡ read_on room xs (words_of left)
numbers_over {line = line} room xs e h = sym (ap (λ (o : Option (Bor (List ℕ))). read_on room xs (words_of o)) e ∙ none (words line.now) (some_word line.now))
  where
    over : (w : List ℕ) (ws : List (List ℕ)) (o : Option ℕ) → decimal w ≡ o → read_on room xs (w ∷ ws) ≡ []
    over w ws None d = read_bad room xs w ws d
    over w ws (Some x) d = read_full room xs w ws x d h

    none : (ws : List (List ℕ)) → 0 < length ws → read_on room xs ws ≡ []
    none [] l = absurd (omega arith)
    none (w ∷ ws) l = over w ws (decimal w) refl

-- ---- one script

pub lengths_are : (room : Lengths) (c w a o : ℕ) → c ≡ room.cells → w ≡ room.work → a ≡ room.activities → o ≡ room.out
    → record { cells = c; work = w; activities = a; out = o } ≡ room
lengths_are room c w a o ec ew ea eo = rw (ec, ew, ea, eo)

pub one_held : (b v : Bool) → b ≡ v → b ≡ true → record { passed = 1; failed = 0 } ≡ one v
unfolding one
one_held b v e t = rw (← e, t)

pub one_failed : (b v : Bool) → b ≡ v → b ≡ false → record { passed = 0; failed = 1 } ≡ one v
unfolding one
one_failed b v e t = rw (← e, t)

pub holds_line : (room : Lengths) (line xs : List ℕ) (b : Bool) → b ≡ vector_holds xs room.work room.activities room.out → xs ≡ line_numbers room.cells line
    → b ≡ line_holds room line
unfolding line_holds
holds_line room line xs b e f = e ∙ ap (λ (ys : List ℕ). vector_holds ys room.work room.activities room.out) f

pub sum_is : (a b : Tally) (p f : ℕ) → p ≡ (a.passed + b.passed) % 2 ^ 64 → f ≡ (a.failed + b.failed) % 2 ^ 64 → record { passed = p; failed = f } ≡ added a b
sum_is a b p f e g = rw (e, g)

-- ---- a group's lines

push_le : (b : ℕ) (ps : List (List ℕ)) (n : ℕ) → length ps ≤ n → length (push b ps) ≤ suc n
unfolding push
push_le b [] n h = omega arith
push_le b (p ∷ ps) n h = omega arith

lines_le : (l : List ℕ) → length (lines l) ≤ length l
unfolding pieces
lines_le [] = omega arith
lines_le (b ∷ bs) = go (b == newline) (lines_le bs)
  where
    go : (t : Bool) → length (lines bs) ≤ length bs → length {A = List ℕ} (elim t as (λ _. List (List ℕ)) [ true ↦ [] ∷ lines bs | false ↦ push b (lines bs) ]) ≤ suc (length bs)
    go true h = omega arith
    go false h = push_le b (lines bs) (length bs) h

scripts_le : (ls : List (List ℕ)) → length (scripts ls) ≤ length ls
unfolding scripts
scripts_le [] = omega arith
scripts_le (l ∷ ls) = go (starts group_key l) (scripts_le ls)
  where
    go : (t : Bool) → length (scripts ls) ≤ length ls → length {A = List ℕ} (elim t as (λ _. List (List ℕ)) [ true ↦ [] | false ↦ l ∷ scripts ls ]) ≤ suc (length ls)
    go true h = omega arith
    go false h = omega arith

count_le : (test : List ℕ → Bool) (ls : List (List ℕ)) → count test ls ≤ length ls
unfolding count
count_le test [] = omega arith
count_le test (l ∷ ls) = go (test l) (count_le test ls)
  where
    go : (t : Bool) → count test ls ≤ length ls → elim t as (λ _. ℕ) [ true ↦ 1 + count test ls | false ↦ count test ls ] ≤ suc (length ls)
    go true h = omega arith
    go false h = omega arith

counted_le : (test : List ℕ → Bool) (input : List ℕ) → count test (scripts (lines input)) ≤ length input
counted_le test input = omega (arith, count_le test (scripts (lines input)), scripts_le (lines input), lines_le input)

count_one : (test : List ℕ → Bool) (l : List ℕ) (ls : List (List ℕ)) → count test (l ∷ ls) ≡ (one (test l)).passed + count test ls
unfolding count one
count_one test l ls = go (test l) refl
  where
    go : (t : Bool) → test l ≡ t → count test (l ∷ ls) ≡ (one (test l)).passed + count test ls
    go true e = rw (e, count)
    go false e = let z : count test ls ≡ 0 + count test ls = omega arith in rw (e, count) z

count_other : (test : List ℕ → Bool) (l : List ℕ) (ls : List (List ℕ)) → count (λ x. not (test x)) (l ∷ ls) ≡ (one (test l)).failed + count (λ x. not (test x)) ls
unfolding count one
count_other test l ls = go (test l) refl
  where
    go : (t : Bool) → test l ≡ t → count (λ x. not (test x)) (l ∷ ls) ≡ (one (test l)).failed + count (λ x. not (test x)) ls
    go true e = let z : count (λ x. not (test x)) ls ≡ 0 + count (λ x. not (test x)) ls = omega arith in rw (e, count) z
    go false e = rw (e, count)

scripts_title : (l : List ℕ) (ls : List (List ℕ)) → starts group_key l ≡ true → scripts (l ∷ ls) ≡ []
unfolding scripts
scripts_title l ls e = rw (e, scripts)

scripts_line : (l : List ℕ) (ls : List (List ℕ)) → starts group_key l ≡ false → scripts (l ∷ ls) ≡ l ∷ scripts ls
unfolding scripts
scripts_line l ls e = rw (e, scripts)

next_title : (l : List ℕ) (ls : List (List ℕ)) → starts group_key l ≡ true → next_group (l ∷ ls) ≡ l ∷ ls
unfolding next_group
next_title l ls e = rw (e, next_group)

next_line : (l : List ℕ) (ls : List (List ℕ)) → starts group_key l ≡ false → next_group (l ∷ ls) ≡ next_group ls
unfolding next_group
next_line l ls e = rw (e, next_group)

-- what is counted, with what is left, is all that there is to count
pub record Counting (test : List ℕ → Bool) (input left : List ℕ) (t : Tally) : Type 0 where
  pub passed : t.passed + count test (scripts (lines left)) ≡ count test (scripts (lines input))
  pub failed : t.failed + count (λ l. not (test l)) (scripts (lines left)) ≡ count (λ l. not (test l)) (scripts (lines input))
  pub rest : next_group (lines left) ≡ next_group (lines input)
  pub shorter : length left ≤ length input

made : (t : Tally) (p f : ℕ) → t.passed ≡ p → t.failed ≡ f → t ≡ record { passed = p; failed = f }
made t p f e g = rw (← e, ← g)

module _ (test : List ℕ → Bool) (input : List ℕ) where
  module _ (left : List ℕ) (t : Tally) (k : Counting test input left t) where
    grouped : scripts (lines left) ≡ [] → lines left ≡ next_group (lines left) → Grouped test input left t
    unfolding count
    grouped e f =
        let p : count test (scripts (lines left)) ≡ 0 = ap (count test) e in
        let q : count (λ l. not (test l)) (scripts (lines left)) ≡ 0 = ap (count (λ l. not (test l))) e in
        record {
          tally = made t (count test (scripts (lines input))) (count (λ l. not (test l)) (scripts (lines input))) (omega (arith, k.passed, p)) (omega (arith, k.failed, q));
          rest = f ∙ k.rest;
          shorter = k.shorter;
        }

    pub counting_end : lines left ≡ [] → Grouped test input left t
    unfolding scripts next_group
    counting_end e = grouped (ap scripts e) (e ∙ sym (ap next_group e))

    module _ (l behind : List ℕ) (c : lines left ≡ l ∷ lines behind) where
      pub counting_title : starts group_key l ≡ true → Grouped test input left t
      counting_title b = grouped (ap scripts c ∙ scripts_title l (lines behind) b) (c ∙ sym (ap next_group c ∙ next_title l (lines behind) b))

      pub counting_line : starts group_key l ≡ false → length input < 2 ^ 64 → length behind ≤ length left → (u v : Tally) → u ≡ one (test l) → v ≡ added t u
          → Counting test input behind v
      counting_line b small h u v eu ev =
          let ls = lines behind in
          let s : scripts (lines left) ≡ l ∷ scripts ls = ap scripts c ∙ scripts_line l ls b in
          let p : count test (scripts (lines left)) ≡ u.passed + count test (scripts ls) =
          ap (count test) s ∙ count_one test l (scripts ls) ∙ ap (λ (x : Tally). x.passed + count test (scripts ls)) (sym eu) in
          let q : count (λ x. not (test x)) (scripts (lines left)) ≡ u.failed + count (λ x. not (test x)) (scripts ls) =
          ap (count (λ x. not (test x))) s ∙ count_other test l (scripts ls) ∙ ap (λ (x : Tally). x.failed + count (λ x. not (test x)) (scripts ls)) (sym eu) in
          record {
            passed = omega (arith, p, k.passed, counted_le test input, ap (λ (x : Tally). x.passed) ev);
            failed = omega (arith, q, k.failed, counted_le (λ x. not (test x)) input, ap (λ (x : Tally). x.failed) ev);
            rest = sym (next_line l ls b) ∙ sym (ap next_group c) ∙ k.rest;
            shorter = omega (arith, k.shorter);
          }

-- ---- all groups

others_le : (ls : List (List ℕ)) → length (others ls) ≤ length ls
unfolding others
others_le [] = omega arith
others_le (l ∷ ls) = go (starts group_key l) (others_le ls)
  where
    go : (t : Bool) → length (others ls) ≤ length ls → length {A = List ℕ} (elim t as (λ _. List (List ℕ)) [ true ↦ others ls | false ↦ l ∷ others ls ]) ≤ suc (length ls)
    go true h = omega arith
    go false h = omega arith

all_le : (ls : List (List ℕ)) → length (all_scripts ls) ≤ length ls
unfolding all_scripts
all_le [] = omega arith
all_le (l ∷ ls) = omega (arith, others_le ls)

totalled_le : (test : List ℕ → Bool) (input : List ℕ) → count test (all_scripts (lines input)) ≤ length input
totalled_le test input = omega (arith, count_le test (all_scripts (lines input)), all_le (lines input), lines_le input)

-- the scripts up to the next group, and from it on
others_parts : (test : List ℕ → Bool) (ls : List (List ℕ)) → count test (others ls) ≡ count test (scripts ls) + count test (all_scripts (next_group ls))
unfolding others scripts next_group all_scripts count
others_parts test [] = omega arith
others_parts test (l ∷ ls) = go (starts group_key l) refl (others_parts test ls)
  where
    go : (b : Bool) → starts group_key l ≡ b → count test (others ls) ≡ count test (scripts ls) + count test (all_scripts (next_group ls))
        → count test (others (l ∷ ls)) ≡ count test (scripts (l ∷ ls)) + count test (all_scripts (next_group (l ∷ ls)))
    go true e ih = let z : count test (others ls) ≡ 0 + count test (others ls) = omega arith in rw (e, others, scripts, next_group) z
    go false e ih =
        let p : count test (others (l ∷ ls)) ≡ count test (l ∷ others ls) = rw (e, others) in
        let q : count test (scripts (l ∷ ls)) ≡ count test (l ∷ scripts ls) = rw (e, scripts) in
        let r : count test (all_scripts (next_group (l ∷ ls))) ≡ count test (all_scripts (next_group ls)) = rw (e, next_group) in
        omega (arith, p, q, r, ih, count_one test l (others ls), count_one test l (scripts ls))

-- what is counted, with what is left, is all
pub record Totalling (test : List ℕ → Bool) (input left : List ℕ) (t : Tally) : Type 0 where
  pub passed : t.passed + count test (all_scripts (lines left)) ≡ count test (all_scripts (lines input))
  pub failed : t.failed + count (λ l. not (test l)) (all_scripts (lines left)) ≡ count (λ l. not (test l)) (all_scripts (lines input))

module _ (test : List ℕ → Bool) (input : List ℕ) where
  module _ (left : List ℕ) (t : Tally) (k : Totalling test input left t) where
    pub totalling_end : lines left ≡ [] → t ≡ tallied test (all_scripts (lines input))
    unfolding all_scripts count
    totalling_end e =
        let p : count test (all_scripts (lines left)) ≡ 0 = ap (λ (ls : List (List ℕ)). count test (all_scripts ls)) e in
        let q : count (λ l. not (test l)) (all_scripts (lines left)) ≡ 0 = ap (λ (ls : List (List ℕ)). count (λ l. not (test l)) (all_scripts ls)) e in
        made t (count test (all_scripts (lines input))) (count (λ l. not (test l)) (all_scripts (lines input))) (omega (arith, k.passed, p)) (omega (arith, k.failed, q))

    module _ (l behind next : List ℕ) (u v : Tally) (c : lines left ≡ l ∷ lines behind) (g : Grouped test behind next u) where
      parted : (f : List ℕ → Bool) → count f (all_scripts (lines left)) ≡ count f (scripts (lines behind)) + count f (all_scripts (lines next))
      unfolding all_scripts
      parted f =
          ap (λ (x : List (List ℕ)). count f (all_scripts x)) c ∙ others_parts f (lines behind)
          ∙ ap (λ (x : List (List ℕ)). count f (scripts (lines behind)) + count f (all_scripts x)) (sym g.rest)

      pub totalling_group : length input < 2 ^ 64 → v ≡ added t u → Totalling test input next v
      totalling_group small ev =
          record {
            passed = omega (arith, parted test, k.passed, totalled_le test input, ap (λ (x : Tally). x.passed) ev, ap (λ (x : Tally). x.passed) g.tally);
            failed = omega (arith, parted (λ x. not (test x)), k.failed, totalled_le (λ x. not (test x)) input, ap (λ (x : Tally). x.failed) ev, ap (λ (x : Tally). x.failed) g.tally);
          }
