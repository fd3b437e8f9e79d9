-- What a printer prints.
use Rattle.std.specs.Prelude.{ℕ, ◌≡◌, refl, List, [], ◌++◌}
use Rattle.std.proofs.Common.{sym, ap, ◌∙◌, subst, append_assoc, append-nil}
use Rattle.text.specs.WriteLaws.{Written, joined, written_none, written_as}
use Rattle.text.specs.declared.printer.Printer.{Printer}

-- the bytes xs, behind what it has printed, into the slice that it had
pub record Prints (old new : Printer) (xs : List ℕ) : Type 0 where
  pub same_reference : new.text.ghost_name ≡ old.text.ghost_name
  pub written : Written old.text.now old.at xs new.text.now new.at

pub prints_none : (p : Printer) → Prints p p []
prints_none p = record { same_reference = refl; written = written_none p.text.now p.at p.within }

pub prints_more : {a b c : Printer} {xs ys : List ℕ} → Prints a b xs → Prints b c ys → Prints a c (xs ++ ys)
prints_more p q = record { same_reference = q.same_reference ∙ p.same_reference; written = joined p.written q.written }

pub prints_as : {a b : Printer} {xs : List ℕ} (ys : List ℕ) → xs ≡ ys → Prints a b xs → Prints a b ys
prints_as {a} {b} ys e p = subst (Prints a b) e p

pub prints_from : {a a' b : Printer} {xs : List ℕ} → a ≡ a' → Prints a b xs → Prints a' b xs
prints_from {b = b} {xs = xs} e p = subst (λ (q : Printer). Prints q b xs) e p

-- some of `all` is printed, and this is left
pub record Printing (p q : Printer) (left all : List ℕ) : Type 0 where
  pub so_far : List ℕ
  pub printed : Prints p q so_far
  pub rest : so_far ++ left ≡ all

pub printing_all : (p : Printer) {left all : List ℕ} → left ≡ all → Printing p p left all
printing_all p e = record { so_far = []; printed = prints_none p; rest = e }

pub printing_more : {p q r : Printer} {left word all : List ℕ} (next : List ℕ) → Printing p q left all → left ≡ word ++ next → Prints q r word → Printing p r next all
printing_more {word = word} next w e v = record {
  so_far = w.so_far ++ word;
  printed = prints_more w.printed v;
  rest = append_assoc w.so_far word next ∙ ap (λ (l : List ℕ). w.so_far ++ l) (sym e) ∙ w.rest;
}

pub printing_done : {p q : Printer} {left all : List ℕ} → Printing p q left all → left ≡ [] → Prints p q all
printing_done {all = all} w e = prints_as all (sym (append-nil w.so_far) ∙ ap (λ (l : List ℕ). w.so_far ++ l) (sym e) ∙ w.rest) w.printed

-- a new printer's slice, once it is given back
pub printed_all : {p q : Printer} {xs before after : List ℕ} (ys : List ℕ) → Prints p q xs → xs ≡ ys → p.at ≡ 0 → p.text.now ≡ before → after ≡ q.text.now → Written before 0 ys after q.at
printed_all {p} {q} {xs} {before} {after} ys w e z f g =
    let v : Written before 0 xs after q.at =
    rw g (subst (λ (s : List ℕ). Written s 0 xs q.text.now q.at) f (subst (λ (i : ℕ). Written p.text.now i xs q.text.now q.at) z w.written)) in
    written_as ys v e
