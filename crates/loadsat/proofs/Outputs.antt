-- One byte more than a text may have stands for all that follow: such an input is refused as too large.
use Rattle.std.proofs.Common.{◌≡◌, ℕ, List, [], ◌<◌, refl, sym, ap, subst, ◌∙◌, arith, length, take, drop, Bool, true, false, None, Some, Ok, Err, IfSome, leb}
use Rattle.std.specs.Prelude.{Option, Result, MatchResult, IfOk, OnOk, is_ok, replicate, Float}
use Rattle.std.proofs.lemmas.List.{length-take, take_at}
use Rattle.std.proofs.lemmas.Bool.{lt-leb, leb-true, leb-false}
use Rattle.std.specs.Io.KnownBytes.{Appends}
use Rattle.model.specs.State.{f64_zero}
use Rattle.refusal.specs.declared.Rule.TheVariants.{LongText}
use Rattle.text.specs.Limits.{max_bytes, max_cells}
use Rattle.text.specs.Format.{Reading, refused, read_text}
use Rattle.loadsat.specs.Bench.{output, shown, Printed}
use Rattle.loadsat.proofs.Reading.{no_more}

too_long : (room : ℕ) (text : List ℕ) → max_bytes < length text → read_text room text ≡ refused LongText 0 []
unfolding read_text
too_long room text h = rw (lt-leb (length text) max_bytes h, read_text)

either_way : (b : Bool) (room : ℕ) (xs : List ℕ) → leb (length xs) room ≡ b → max_bytes < room → output (take room xs) ≡ output xs
unfolding output
either_way true room xs e h = ap output (no_more xs room (leb-true (length xs) room e))
either_way false room xs e h =
    let more : room < length xs = leb-false (length xs) room e in
    ap (λ (x : Reading). shown (replicate 12352 0) (replicate 128 f64_zero) (replicate max_cells 0) x) (too_long max_cells (take room xs) (omega (arith, length-take room xs)) ∙ sym (too_long max_cells xs (omega arith)))

pub cut_off : (room : ℕ) (xs : List ℕ) → max_bytes < room → output (take room xs) ≡ output xs
cut_off room xs h = either_way (leb (length xs) room) room xs refl h

-- the text that was printed was written, and is that of all bytes that there were
pub answered : (a old new : Option (List ℕ)) (slice : List ℕ) (n : ℕ) (before after : List ℕ) (m : ℕ) → max_bytes < length slice
    → IfSome a (λ xs. take n slice ≡ take (length slice) xs) → Printed before (output (take n slice)) after m → Appends old new (take m after)
    → IfSome a (λ xs. Appends old new (output xs))
answered None old new slice n before after m h e p w = tt
answered (Some xs) old new slice n before after m h e p w =
    let ys : List ℕ = output (take n slice) in
    let all : take m after ≡ output xs = ap (take m) p.slice ∙ take_at ys (drop (length ys) before) m (sym p.end) ∙ ap output e ∙ cut_off (length slice) xs h in
    subst (Appends old new) all w

-- what a read came to, under another error
pub mapped : {E F : Type 0} (P : E → Type 0) (r : Result ℕ E) (q : Result ℕ F) (n : ℕ) → MatchResult r (λ x. q ≡ Ok x) P → is_ok q ≡ is_ok r → q ≡ Ok n → r ≡ Ok n
mapped P (Ok x) q n c v e = let z = sym c ∙ e in cc
mapped P (Err x) q n c v e = let z : true ≡ false = sym (ap is_ok e) ∙ v in cc

pub read_ok : {E : Type 0} (a : Option (List ℕ)) (P : ℕ → List ℕ → Type 0) (r : Result ℕ E) (n : ℕ) → r ≡ Ok n → IfSome a (λ xs. IfOk r (λ k. P k xs)) → IfSome a (λ xs. P n xs)
read_ok None P r n e p = tt
read_ok (Some xs) P r n e p = subst (λ q. IfOk q (λ k. P k xs)) e p

-- the same where all of it was written
pub answered_if : {A B E F : Type 0} (w : Result A E) (r : Result B F) (a old new : Option (List ℕ)) (slice : List ℕ) (n : ℕ) (before after : List ℕ) (m : ℕ)
    → is_ok r ≡ is_ok w → max_bytes < length slice → IfSome a (λ xs. take n slice ≡ take (length slice) xs) → Printed before (output (take n slice)) after m
    → OnOk w (Appends old new (take m after)) → IfSome a (λ xs. OnOk r (Appends old new (output xs)))
answered_if (Ok x) (Ok y) a old new slice n before after m v h e p q = answered a old new slice n before after m h e p q
answered_if (Ok x) (Err y) a old new slice n before after m v h e p q = absurd (cc)
answered_if (Err x) (Ok y) a old new slice n before after m v h e p q = absurd (cc)
answered_if (Err x) (Err y) None old new slice n before after m v h e p q = tt
answered_if (Err x) (Err y) (Some xs) old new slice n before after m v h e p q = tt

-- slices that are filled with zeros are the program's
pub printed_over : (w : List ℕ) (a : List Float) (o input : List ℕ) (before after : List ℕ) (r : ℕ) → w ≡ replicate 12352 0 → a ≡ replicate 128 f64_zero → o ≡ replicate max_cells 0
    → Printed before (shown w a o (read_text max_cells input)) after r → Printed before (output input) after r
unfolding output
printed_over w a o input before after r ew ea eo p =
    let x : Reading = read_text max_cells input in
    subst (λ (ys : List ℕ). Printed before ys after r)
    (ap (λ (u : List ℕ). shown u a o x) ew ∙ ap (λ (u : List Float). shown (replicate 12352 0) u o x) ea ∙ ap (λ (u : List ℕ). shown (replicate 12352 0) (replicate 128 f64_zero) u x) eo)
    p
