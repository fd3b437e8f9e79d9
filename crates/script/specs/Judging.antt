-- What an answer of the code says, and the laws of `judge`: rows are judged part by part.
use Rattle.std.specs.Prelude.{ℕ, ◌≡◌, refl, Bool, true, false, List, [], ◌∷◌, ◌++◌, Result, Ok, Err, IsErrAnd}
use Rattle.std.specs.Coded.{×_prop, Unit-prop}
use Rattle.std.proofs.Math.Bool.{Bool-set}
use Rattle.std.proofs.Common.{sym, ◌∙◌, arith}
use Rattle.model.specs.Script.{Config, Record, Row, row, Reading, refused, accepted, judge, header, records_of}
use Rattle.refusal.specs.declared.Rule.{Rule}
use Rattle.refusal.specs.declared.Refusal.{Refusal}
use Rattle.refusal.specs.Number.{number}

-- the reading that a judgement of some rows gives, where `k` is what the rest gives; what comes with an Ok is not looked at
abbrev pub gives : {A : Type 0} → Result A Refusal → Reading → Reading
gives (Err e) k = refused (number e.rule) e.place
gives (Ok t) k = k

-- the reading of the script s that a judgement stands for
abbrev pub reading_of : {A : Type 0} → List ℕ → Result A Refusal → Reading
reading_of s j = gives j (accepted (header s) (records_of s))

-- the judgement of these rows, whatever comes after them
pub record Judged {A : Type 0} (j : Result A Refusal) (rows : List Row) : Type 0 where
  pub same : (k : Reading) → gives j k ≡ judge rows k

-- two lists of rows with the same judgement
abbrev pub Same : List Row → List Row → Type 0
Same xs ys = (k : Reading) → judge xs k ≡ judge ys k

pub judge-append : (xs ys : List Row) (k : Reading) → judge (xs ++ ys) k ≡ judge xs (judge ys k)
unfolding judge
judge-append [] ys k = refl
judge-append (row n true place ∷ xs) ys k = judge-append xs ys k
judge-append (row n false place ∷ xs) ys k = refl

pub row_holds : (n : ℕ) (b : Bool) (place : ℕ) (rows : List Row) → b ≡ true → Same (row n b place ∷ rows) rows
unfolding judge
row_holds n b place rows e k = rw (e, judge)

pub row_fails : (n : ℕ) (b : Bool) (place : ℕ) (rows : List Row) → b ≡ false → (k : Reading) → judge (row n b place ∷ rows) k ≡ refused n place
unfolding judge
row_fails n b place rows e k = rw (e, judge)

-- ---- rows that hold

abbrev pub Hold : List Row → Type 0
Hold [] = Unit {0}
Hold (row n b place ∷ rows) = (b ≡ true) × Hold rows

pub Hold-prop : (rows : List Row) → IsProp (Hold rows)
Hold-prop [] = Unit-prop
Hold-prop (row n b place ∷ rows) = ×_prop (Bool-set b true) (Hold-prop rows)

pub hold_append : (xs ys : List Row) → Hold xs → Hold ys → Hold (xs ++ ys)
hold_append [] ys h g = g
hold_append (row n b place ∷ xs) ys h g = (h.0, hold_append xs ys h.1 g)

pub hold_left : (xs ys : List Row) → Hold (xs ++ ys) → Hold xs
hold_left [] ys h = tt
hold_left (row n b place ∷ xs) ys h = (h.0, hold_left xs ys h.1)

pub hold_right : (xs ys : List Row) → Hold (xs ++ ys) → Hold ys
hold_right [] ys h = h
hold_right (row n b place ∷ xs) ys h = hold_right xs ys h.1

-- rows that hold pass everything on
pub hold_judge : (rows : List Row) → Hold rows → (k : Reading) → judge rows k ≡ k
unfolding judge
hold_judge [] h k = refl
hold_judge (row n b place ∷ rows) h k = row_holds n b place rows h.0 k ∙ hold_judge rows h.1 k

-- and only such rows accept
pub judge_hold : (rows : List Row) (k : Reading) (c : Config) (rs : List Record) → judge rows k ≡ accepted c rs → Hold rows
unfolding judge
judge_hold [] k c rs e = tt
judge_hold (row n true place ∷ rows) k c rs e = (refl, judge_hold rows k c rs e)
judge_hold (row n false place ∷ rows) k c rs e = let z : ◌≡◌ {A = ℕ} 0 1 = cc in absurd (omega arith)

-- ---- parts

-- a refusal in the first part refuses the whole
pub refused_first : {A : Type 0} {e : Refusal} (xs ys : List Row) → Judged {A = A} (Err e) xs → Judged {A = A} (Err e) (xs ++ ys)
refused_first xs ys h = record { same = λ k. h.same (judge ys k) ∙ sym (judge-append xs ys k) }

-- and where the first part accepts, the second decides
pub second_decides : {A B : Type 0} {t : A} {j : Result B Refusal} (xs ys : List Row) → Judged (Ok t) xs → Judged j ys → Judged j (xs ++ ys)
second_decides xs ys h g = record { same = λ k. g.same k ∙ h.same (judge ys k) ∙ sym (judge-append xs ys k) }

-- rows whose judgement is Ok hold
pub accepted_hold : {A : Type 0} {t : A} (rows : List Row) → Judged (Ok t) rows → Hold rows
accepted_hold rows h =
    let k : Reading = accepted (header []) [] in
    judge_hold rows k (header []) [] (sym (h.same k))

pub same_judged : {A : Type 0} (j : Result A Refusal) (xs ys : List Row) → Same xs ys → Judged j ys → Judged j xs
same_judged j xs ys e h = record { same = λ k. h.same k ∙ sym (e k) }

-- what comes with an Ok may be another
pub judged_as : {A B : Type 0} {t : A} (u : B) (rows : List Row) → Judged (Ok t) rows → Judged (Ok u) rows
judged_as u rows h = record { same = h.same }

-- ---- row by row, as the code goes

pub done : {A : Type 0} {t : A} → Judged (Ok t) []
unfolding judge
done = record { same = λ k. refl }

pub pass : {A : Type 0} {j : Result A Refusal} {n : ℕ} {b : Bool} {place : ℕ} {rows : List Row} → b ≡ true → Judged j rows → Judged j (row n b place ∷ rows)
pass {A} {j} {n} {b} {place} {rows} e h = record { same = λ k. h.same k ∙ sym (row_holds n b place rows e k) }

pub stop : {A : Type 0} {rule : Rule} {b : Bool} {place : ℕ} {rows : List Row} → b ≡ false
    → Judged {A = A} (Err (record { rule = rule; place = place })) (row (number rule) b place ∷ rows)
stop {A} {rule} {b} {place} {rows} e = record { same = λ k. sym (row_fails (number rule) b place rows e k) }

-- ---- and as a chain of `?` goes: what is said of the first row, and of the rest

pub first_stops : {A : Type 0} {e : Refusal} {r : Row} {rows : List Row} → Judged {A = A} (Err e) (r ∷ []) → Judged {A = A} (Err e) (r ∷ rows)
first_stops {r = r} {rows = rows} h = refused_first (r ∷ []) rows h

pub first_passes : {A B : Type 0} {t : A} {j : Result B Refusal} {r : Row} {rows : List Row} → Judged (Ok t) (r ∷ []) → Judged j rows → Judged j (r ∷ rows)
first_passes {r = r} {rows = rows} h g = second_decides (r ∷ []) rows h g

-- the refusal that a `?` hands on
pub raised : {A B : Type 0} {e : Refusal} {j : Result B Refusal} {rows : List Row} → IsErrAnd j (λ x. x ≡ e) → Judged {A = A} (Err e) rows → Judged j rows
raised {j = Err x} p h = rw p (record { same = h.same })
raised {j = Ok t} p h = absurd p
