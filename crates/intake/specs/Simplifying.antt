-- What a sorted list of literals keeps, read and written in place.
use Rattle.std.specs.Prelude.{ℕ, suc, ◌+◌, ◌*◌, ◌≤◌, ◌<◌, ◌≡◌, refl, Bool, true, false, ◌||◌, List, [], ◌∷◌, ◌++◌, length, get_or, set, take, drop, eqb, Option, None as none, Some as some}
use Rattle.std.proofs.Common.{arith, add-one, sym, ap, ◌∙◌, eq-eqb, ne_eqb, length-set, drop-cons, drop-set-lt}
use Rattle.std.proofs.Math.Seq.{drop-length, take-suc-set}
use Rattle.model.specs.Lit.{neg, undef_lit, value_lit, is_true, is_false}
use Rattle.model.specs.Intake.{simplify}
use Rattle.lawbase.specs.Basics.{Every}
use Rattle.assign.proofs.Lists.{get_or_in, set_every}
use Rattle.trail.specs.View.{Assignment}
use Rattle.scratch.specs.Row.{Row, put}
use Rattle.intake.specs.declared.Turn.{Turn}

-- ---- one literal

-- what the definition goes on with after literal l
abbrev pub after : List ℕ → ℕ → ℕ → List ℕ → List ℕ → Turn → Option (List ℕ)
after values l last kept ls Turn.Drops = none
after values l last kept ls Turn.Goes = simplify values last kept ls
after values l last kept ls Turn.Stays = simplify values l (kept ++ (l ∷ [])) ls

-- the literal is of a variable
abbrev pub Judgeable : Assignment → ℕ → Type 0
Judgeable a l = l < 2 * length a.vars.values

-- what the definition does with literal l, with any literals kept before it and any to come
pub record Turned (a : Assignment) (l last : ℕ) (r : Turn) : Type 0 where
  pub next : (kept ls : List ℕ) → simplify a.vars.values last kept (l ∷ ls) ≡ after a.vars.values l last kept ls r

or_second : (a b : Bool) → b ≡ true → (a || b) ≡ true
or_second true b e = refl
or_second false b e = e

module _ (a : Assignment) (l last : ℕ) where
  pub turned_true : value_lit a.vars.values l ≡ 0 → Turned a l last Turn.Drops
  unfolding simplify
  turned_true e = record { next = λ kept ls. let t : is_true a.vars.values l ≡ true = eq-eqb (value_lit a.vars.values l) 0 e in rw (t, simplify) }

  pub turned_opposite : l ≡ neg last → Turned a l last Turn.Drops
  unfolding simplify
  turned_opposite e =
      let t : (is_true a.vars.values l || eqb l (neg last)) ≡ true = or_second (is_true a.vars.values l) (eqb l (neg last)) (eq-eqb l (neg last) e) in
      record { next = λ kept ls. rw (t, simplify) }

  module _ (n : value_lit a.vars.values l ≡ 0 → ⊥) (m : l ≡ neg last → ⊥) where
    stays : (is_true a.vars.values l || eqb l (neg last)) ≡ false
    stays =
        let t : is_true a.vars.values l ≡ false = ne_eqb (value_lit a.vars.values l) 0 n in
        let o : eqb l (neg last) ≡ false = ne_eqb l (neg last) m in
        rw (t, o)

    pub turned_false : value_lit a.vars.values l ≡ 1 → Turned a l last Turn.Goes
    unfolding simplify
    turned_false e =
        let t : is_false a.vars.values l ≡ true = eq-eqb (value_lit a.vars.values l) 1 e in
        record { next = λ kept ls. rw (stays, simplify, t) }

    pub turned_again : l ≡ last → Turned a l last Turn.Goes
    unfolding simplify
    turned_again e =
        let t : (is_false a.vars.values l || eqb l last) ≡ true = or_second (is_false a.vars.values l) (eqb l last) (eq-eqb l last e) in
        record { next = λ kept ls. rw (stays, simplify, t) }

    pub turned_stays : (value_lit a.vars.values l ≡ 1 → ⊥) → (l ≡ last → ⊥) → Turned a l last Turn.Stays
    unfolding simplify
    turned_stays f g =
        let t : is_false a.vars.values l ≡ false = ne_eqb (value_lit a.vars.values l) 1 f in
        let o : eqb l last ≡ false = ne_eqb l last g in
        let b : (is_false a.vars.values l || eqb l last) ≡ false = rw (t, o) in
        record { next = λ kept ls. rw (stays, simplify, b) }

-- ---- all of them

-- each literal of the list is of a variable
abbrev pub Simplifiable : Assignment → Row → Type 0
Simplifiable a b = Every (λ l. l < 2 * length a.vars.values) b.items

-- the literals that are left, where the clause is not dropped
abbrev pub left_in : Bool → List ℕ → Option (List ℕ)
left_in true l = some l
left_in false l = none

-- the list in b' is what the definition leaves of that in b
pub record Simplified (a : Assignment) (b b' : Row) (r : Bool) : Type 0 where
  pub outcome : simplify a.vars.values undef_lit [] b.items ≡ left_in r b'.items
  pub cells : length b'.cells ≡ length b.cells

-- the first literals of b, as many as are kept, and those from i on give what b₀ gives
pub record Simplifying (a : Assignment) (b₀ b : Row) (i kept last : ℕ) : Type 0 where
  pub left : simplify a.vars.values last (take kept b.items) (drop i b.items) ≡ simplify a.vars.values undef_lit [] b₀.items
  pub inside : kept ≤ i
  pub low : Simplifiable a b
  pub size : length b.items ≡ length b₀.items
  pub cells : length b.cells ≡ length b₀.cells

pub simplifying_starts : (a : Assignment) (b : Row) (last : ℕ) → last ≡ undef_lit → Simplifiable a b → Simplifying a b b 0 0 last
simplifying_starts a b last e low = record { left = rw e refl; inside = omega arith; low = low; size = refl; cells = refl }

module _ {a : Assignment} {b₀ b : Row} {i kept last : ℕ} (s : Simplifying a b₀ b i kept last) where
  module _ (g : i < length b.items) (l : ℕ) (e : l ≡ get_or b.items i 0) where
    -- the rest starts with the literal at i
    at_hand : drop i b.items ≡ l ∷ drop (suc i) b.items
    at_hand = drop-cons b.items i 0 g ∙ ap (λ (x : ℕ). x ∷ drop (suc i) b.items) (sym e)

    pub simplifying_judgeable : Judgeable a l
    simplifying_judgeable = rw e (s.low (get_or b.items i 0) (get_or_in b.items i 0 g))

    turned : {r : Turn} → Turned a l last r → after a.vars.values l last (take kept b.items) (drop (suc i) b.items) r ≡ simplify a.vars.values undef_lit [] b₀.items
    turned t = sym (t.next (take kept b.items) (drop (suc i) b.items)) ∙ ap (λ (ls : List ℕ). simplify a.vars.values last (take kept b.items) ls) (sym at_hand) ∙ s.left

    pub simplifying_drops : Turned a l last Turn.Drops → Simplified a b₀ b false
    simplifying_drops t = record { outcome = sym (turned t); cells = s.cells }

    pub simplifying_goes : Turned a l last Turn.Goes → Simplifying a b₀ b (i + 1) kept last
    simplifying_goes t = record { left = rw add-one (turned t); inside = omega (arith, s.inside); low = s.low; size = s.size; cells = s.cells }

    pub simplifying_stays : Turned a l last Turn.Stays → Simplifying a b₀ (put b kept l) (i + 1) (kept + 1) l
    simplifying_stays t =
        let f : take (suc kept) (set b.items kept l) ≡ take kept b.items ++ (l ∷ []) = take-suc-set b.items kept l (omega (arith, s.inside)) in
        let r : drop (suc i) (set b.items kept l) ≡ drop (suc i) b.items = drop-set-lt (suc i) b.items kept l (omega (arith, s.inside)) in
        record {
          left = rw (add-one kept, add-one i, f, r) (turned t);
          inside = omega (arith, s.inside);
          low = set_every (λ x. x < 2 * length a.vars.values) b.items kept l simplifying_judgeable s.low;
          size = length-set b.items kept l ∙ s.size;
          cells = length-set b.cells kept l ∙ s.cells;
        }

  pub simplifying_ends : i ≡ length b.items → Simplified a b₀ (record { items = take kept b.items; cells = b.cells }) true
  unfolding simplify
  simplifying_ends e =
      let y : drop i b.items ≡ [] = ap (λ (k : ℕ). drop k b.items) e ∙ drop-length b.items in
      record { outcome = sym s.left ∙ rw y refl; cells = s.cells }
