-- Laws of the loops.
use Rattle.std.specs.Prelude.{ℕ, zero, suc, ◌+◌, ◌-◌, ◌*◌, ◌%◌, ◌≤◌, ◌<◌, ◌≡◌, refl, Bool, true, false, ◌&&◌, List, [], ◌∷◌, ◌++◌, length, get_or, set, drop, replicate, ltb, eqb}
use Rattle.std.proofs.Common.{arith, ap, ap₂, not-suc-le-zero, sym, subst, ◌∙◌, length-append, drop-cons, lt-ltb, le-ltb, le-leb}
use Rattle.std.proofs.Math.Nat.{mul-mod_right}
use Rattle.std.proofs.lemmas.List.{get_or-replicate, get_or_at}
use Rattle.std.proofs.Math.Seq.{get_or-set_same, get_or-set_other}
use Rattle.model.specs.Lit.{var, neg, l_undef, value_lit}
use Rattle.model.specs.State as model
use Rattle.model.specs.State.{initial_state, decision_level}
use Rattle.model.specs.Store.{stored_literals}
use Rattle.model.specs.Trail.{unchecked_enqueue, new_decision_level, level_end}
use Rattle.lawbase.specs.Basics.{split, less?}
use Rattle.trail.specs.View.{Assignment, Counted, Undoable, enqueued, next_level, until}
use Rattle.trail.specs.Laws.{after_until}
use Rattle.store.specs.Laws.{stored_more}
use Rattle.watch.specs.View.{Watches, list_of, appended, attached}
use Rattle.watch.specs.Meaning.{as_count}
use Rattle.state.specs.declared.Config.{Config}
use Rattle.state.specs.declared.State.{State}
use Rattle.state.specs.Start.{Started}
use Rattle.tour.specs.Live.{Live, live_started, live_stored}
use Rattle.tour.specs.SizedLive.{SizedLive, sized_started, sized_added}
use Rattle.tour.specs.Steps.{pick, with_trail, opened, placed, gone_back, three, added}
use Rattle.leafbench.specs.Results.{filled, put_on, signs, blocks, hits, trues, unless_short}

-- ---- the two outcomes of a test

module _ {A B : Type 0} (f : A → B) (x y : A) where
  pick-map : (b : Bool) → f (pick b x y) ≡ pick b (f x) (f y)
  pick-map true = refl
  pick-map false = refl

  picked : (b : Bool) → f x ≡ f y → f (pick b x y) ≡ f y
  picked true e = e
  picked false e = refl

-- one more where the test holds
one_more : (b : Bool) (k : ℕ) → pick b (k + 1) k ≤ k + 1
one_more true k = omega arith
one_more false k = omega arith

-- ---- the trail is filled

-- p is put on the trail
abbrev more : State → ℕ → State
more s p = with_trail s (enqueued s.trail p 0)

abbrev on : State → ℕ
on s = length s.trail.vars.trail

on_more : (s : State) (p : ℕ) → on (more s p) ≡ on s + 1
unfolding unchecked_enqueue
on_more s p = length-append s.trail.vars.trail (p ∷ [])

pub filled_keeps : {B : Type 0} (f : State → B) → ((s : State) (p : ℕ) → f (more s p) ≡ f s) → (s : State) (ps : List ℕ) → f (filled s ps) ≡ f s
unfolding filled
filled_keeps f k s [] = refl
filled_keeps f k s (p ∷ ps) =
    filled_keeps f k (placed s p 0) ps ∙ picked f (more s p) s (ltb (on s) s.config.vars && ltb (var p) s.config.vars) (k s p)

pub filled_put : (s : State) (ps : List ℕ) → on (filled s ps) ≡ put_on s.config.vars (on s) ps
unfolding filled put_on
filled_put s [] = refl
filled_put s (p ∷ ps) =
    let n = s.config.vars in
    let b = ltb (on s) n && ltb (var p) n in
    let u = placed s p 0 in
    let same : u.config.vars ≡ n = picked (λ (t : State). t.config.vars) (more s p) s b refl in
    let count : on u ≡ pick b (on s + 1) (on s) = pick-map on (more s p) s b ∙ ap (λ (k : ℕ). pick b k (on s)) (on_more s p) in
    filled_put u ps ∙ ap₂ (λ (m k : ℕ). put_on m k ps) same count

pub filled_values : (s : State) (ps : List ℕ) → on s + length ps ≤ s.config.vars → (filled s ps).trail.vars.values ≡ signs s.config.vars s.trail.vars.values ps
unfolding filled signs unchecked_enqueue
filled_values s [] g = refl
filled_values s (p ∷ ps) g =
    let n = s.config.vars in
    let b = ltb (var p) n in
    let u = pick b (more s p) s in
    let e : placed s p 0 ≡ u = rw (lt-ltb (on s) n (omega arith)) refl in
    let same : u.config.vars ≡ n = picked (λ (t : State). t.config.vars) (more s p) s b refl in
    let count : on u ≤ on s + 1 = rw (pick-map on (more s p) s b, on_more s p) (one_more b (on s)) in
    ap (λ (t : State). (filled t ps).trail.vars.values) e
    ∙ filled_values u ps (omega (arith, same, count))
    ∙ ap₂ (λ (m : ℕ) (vs : List ℕ). signs m vs ps) same (pick-map (λ (t : State). t.trail.vars.values) (more s p) s b)

put_most : (n k : ℕ) (ps : List ℕ) → put_on n k ps ≤ k + length ps
unfolding put_on
put_most n k [] = omega arith
put_most n k (p ∷ ps) =
    let b = ltb k n && ltb (var p) n in
    omega (arith, put_most n (pick b (k + 1) k) ps, one_more b k)

pub put_bound : (n : ℕ) (order : List ℕ) → length order ≤ 64 → put_on n 0 order ≤ 64
put_bound n order g = omega (arith, put_most n 0 order)

-- the loop over the literals
pub filled_on : (s : State) (ps : List ℕ) (i : ℕ) → i < length ps → filled (placed s (get_or ps i 0) 0) (drop (suc i) ps) ≡ filled s (drop i ps)
unfolding filled
filled_on s ps i h = ap (filled s) (sym (drop-cons ps i 0 h))

pub filled_ends : (s : State) (ps : List ℕ) → length ps ≡ 0 → filled s ps ≡ s
unfolding filled
filled_ends s [] e = refl
filled_ends s (p ∷ ps) e = absurd (let z : suc (length ps) ≡ 0 = e in omega arith)

-- ---- a level is opened, filled and taken back

module _ (s : State) (ps : List ℕ) {a b r : State} (v : Live b) (none : Counted s.trail 0 0) (opens : a ≡ opened s) (fills : b ≡ filled a ps) (backs : r ≡ gone_back b 0 2) where
  config_open : b.config ≡ s.config
  config_open =
      ap (λ (t : State). t.config) fills
      ∙ filled_keeps (λ t. t.config) (λ t p. refl) a ps
      ∙ ap (λ (t : State). t.config) opens
      ∙ picked (λ (t : State). t.config) (with_trail s (next_level s.trail)) s (ltb (decision_level s.trail.vars) (3 * s.config.vars)) refl

  is_open : a ≡ with_trail s (next_level s.trail)
  is_open =
      opens ∙ rw (lt-ltb (decision_level s.trail.vars) (3 * s.config.vars) (omega (arith, none.levels, v.some, ap (λ (g : Config). g.vars) config_open))) refl

  limits_open : b.trail.vars.limits ≡ s.trail.vars.limits ++ (on s ∷ [])
  unfolding unchecked_enqueue new_decision_level
  limits_open =
      let limits : State → List ℕ = λ t. t.trail.vars.limits in
      ap limits fills ∙ filled_keeps limits (λ t p. refl) a ps ∙ ap limits is_open

  one_level : decision_level b.trail.vars ≡ 1
  one_level = ap (λ (ls : List ℕ). length ls) limits_open ∙ length-append s.trail.vars.limits (on s ∷ []) ∙ omega (arith, none.levels)

  starts_at : level_end b.trail.vars 0 ≡ 0
  starts_at =
      ap (λ (ls : List ℕ). get_or ls 0 0) limits_open ∙ get_or_at s.trail.vars.limits (on s) [] 0 0 none.levels ∙ none.assigned

  pub turn_put : on b ≡ put_on s.config.vars 0 ps
  unfolding new_decision_level
  turn_put =
      ap on fills ∙ filled_put a ps ∙ ap₂ (λ (m k : ℕ). put_on m k ps) (ap (λ (t : State). t.config.vars) is_open) (ap on is_open ∙ none.assigned)

  goes : r ≡ record b { trail = until 2 b.trail 0; qhead = level_end b.trail.vars 0 }
  goes =
      let low : 0 ≤ on b = omega arith in
      let e : gone_back b 0 2 ≡ record b { trail = until 2 b.trail 0; qhead = level_end b.trail.vars 0 } =
      rw
      (lt-ltb 0 (decision_level b.trail.vars) (omega (arith, one_level)), le-leb (level_end b.trail.vars 0) (on b) (omega (arith, starts_at)), le-leb (level_end b.trail.vars 0) (level_end b.trail.vars (decision_level b.trail.vars - 1)) (omega (arith, starts_at)))
      refl
      in
      backs ∙ e

  pub turned : Counted r.trail 0 0
  turned =
      let u : Undoable b.config.vars b.trail.vars 0 =
      record { within = omega (arith, starts_at); ordered = omega (arith, starts_at); lits = v.lits }
      in
      let k = after_until b.trail 2 0 (omega (arith, one_level)) u in
      rw goes (record { assigned = k.assigned ∙ starts_at; levels = k.levels })

  pub turn_config : r.config ≡ s.config
  turn_config = ap (λ (t : State). t.config) goes ∙ config_open

-- ---- the start

no_items : (xs : List ℕ) → length xs ≡ 0 → xs ≡ []
no_items [] e = refl
no_items (x ∷ xs) e = absurd (let z : suc (length xs) ≡ 0 = e in omega arith)

module _ {g : Config} {w : List ℕ} {s : State} (k : Started g w s) where
  pub begun_trail : Counted s.trail 0 0
  unfolding initial_state
  begun_trail =
      record { assigned = ap (λ (t : model.State). length t.vars.trail) k.has.state; levels = ap (λ (t : model.State). length t.vars.limits) k.has.state }

  pub begun_values : s.trail.vars.values ≡ replicate g.vars l_undef
  unfolding initial_state
  begun_values = ap (λ (t : model.State). t.vars.values) k.has.state

  begun-clauses : s.clauses.clauses ≡ []
  unfolding initial_state
  begun-clauses = ap (λ (t : model.State). t.store.clauses) k.has.state

  begun_list : 1 < 2 * g.vars → list_of s.watches 1 ≡ []
  unfolding initial_state
  begun_list h =
      no_items (list_of s.watches 1)
      (sym (as_count s.watches 1) ∙ ap (λ (t : model.State). length (get_or t.store.watches 1 [])) k.has.state ∙ ap (λ (l : List model.Watch). length l) (get_or-replicate (2 * g.vars) 1 [] [] h))

-- ---- the watches of literal 1

unfoldable pub evens : ℕ → List ℕ
evens zero = []
evens (suc m) = evens m ++ (2 * m ∷ [])

pub evens-length : (m : ℕ) → length (evens m) ≡ m
unfolding evens
evens-length zero = refl
evens-length (suc m) = length-append (evens m) (2 * m ∷ []) ∙ omega (arith, evens-length m)

abbrev BlocksTo : List ℕ → ℕ → Type 0
BlocksTo bs m = (j : ℕ) → j < m → get_or bs (2 * j) 0 ≡ 2 * j + 2

-- m clauses are watched there, whose second literals are 2, 4 .. 2 * m
pub record Lined (w : Watches) (m : ℕ) : Type 0 where
  pub list : list_of w 1 ≡ evens m
  pub blockers : BlocksTo w.blockers m

pub lined_length : {w : Watches} (m : ℕ) → Lined w m → length (list_of w 1) ≡ m
lined_length m k = ap length k.list ∙ evens-length m

even : (m : ℕ) → (2 * m + 2) % 2 ≡ 0
even m = ap (λ k. k % 2) (doubled m) ∙ mul-mod_right 2 (m + 1)
  where
    doubled : (m : ℕ) → 2 * m + 2 ≡ 2 * (m + 1)
    doubled m = omega arith

module _ (s : Watches) (m : ℕ) where
  one_attached : 1 < length s.lists → list_of s 1 ≡ evens m → list_of (attached m 0 (2 * m + 2) s) 1 ≡ evens (suc m)
  unfolding attached appended evens
  one_attached g e =
      get_or-set_other (set s.lists 1 (list_of s 1 ++ (2 * m ∷ []))) (neg (2 * m + 2)) 1 _ [] (λ z. omega (arith, even m))
      ∙ get_or-set_same s.lists 1 (list_of s 1 ++ (2 * m ∷ [])) [] g
      ∙ ap (λ (l : List ℕ). l ++ (2 * m ∷ [])) e

  one_blocker : 2 * m < length s.blockers → BlocksTo s.blockers m → BlocksTo (attached m 0 (2 * m + 2) s).blockers (suc m)
  unfolding attached appended
  one_blocker g b j h =
      get_or-set_other (set s.blockers (2 * m) (2 * m + 2)) (2 * m + 1) (2 * j) 0 0 (λ z. omega arith)
      ∙ split (less? j m)
      (λ n. get_or-set_other s.blockers (2 * m) (2 * j) (2 * m + 2) 0 (λ z. omega arith) ∙ b j n)
      (λ n. ap (λ i. get_or (set s.blockers (2 * m) (2 * m + 2)) (2 * i) 0) (last n) ∙ get_or-set_same s.blockers (2 * m) (2 * m + 2) 0 g ∙ omega arith)
    where
      last : m ≤ j → j ≡ m
      last n = omega arith

-- room for the literals and the clauses
pub record Ample (s : State) : Type 0 where
  pub vars : 64 ≤ s.config.vars
  pub room : 32 ≤ s.clauses.room
  pub lit_room : 96 ≤ s.clauses.lit_room

-- what the loop over the clauses keeps of the state x
pub record Row (x s : State) (i : ℕ) : Type 0 where
  pub live : Live s
  pub config : s.config ≡ x.config
  pub trail : s.trail ≡ x.trail
  pub clauses : length s.clauses.clauses ≡ i
  pub literals : stored_literals s.clauses.clauses ≡ 3 * i
  pub room : s.clauses.room ≡ x.clauses.room
  pub lit_room : s.clauses.lit_room ≡ x.clauses.lit_room
  pub lined : Lined s.watches i

pub row_begun : {g : Config} {w : List ℕ} {s : State} → Started g w s → 1 < 2 * g.vars → Row s s 0
unfolding evens stored_literals
row_begun {g} {w} {s} k h =
    record {
      live = live_started k;
      config = refl;
      trail = refl;
      clauses = ap (λ (cs : List (List ℕ)). length cs) (begun-clauses k);
      literals = ap stored_literals (begun-clauses k);
      room = refl;
      lit_room = refl;
      lined = record { list = begun_list k h; blockers = λ j b. absurd (not-suc-le-zero b) };
    }

module _ {x s s' : State} {i : ℕ} (a : Ample x) (v : Row x s i) (g : i < 32) (adds : s' ≡ added s 0 (2 * i + 2) 4) where
  is_added : s' ≡ three s 0 (2 * i + 2) 4
  is_added =
      adds
      ∙ rw
      (lt-ltb (length s.clauses.clauses) s.clauses.room (omega (arith, a.room, v.room, v.clauses)), le-leb (stored_literals s.clauses.clauses + 3) s.clauses.lit_room (omega (arith, a.lit_room, v.lit_room, v.literals)), lt-ltb 0 (2 * s.config.vars) (omega (arith, v.live.some)), lt-ltb (2 * i + 2) (2 * s.config.vars) (omega (arith, a.vars, ap (λ (c : Config). c.vars) v.config)))
      refl

  watches_are : s'.watches ≡ attached i 0 (2 * i + 2) s.watches
  watches_are = ap (λ (t : State). t.watches) is_added ∙ ap (λ c. attached c 0 (2 * i + 2) s.watches) v.clauses

  pub row_more : Row x s' (suc i)
  row_more =
      let cs = s.clauses.clauses in
      let ps : List ℕ = 0 ∷ (2 * i + 2) ∷ 4 ∷ [] in
      let wide : 64 ≤ s.config.vars = omega (arith, a.vars, ap (λ (c : Config). c.vars) v.config) in
      record {
        live =
            rw is_added (live_stored v.live ps (omega (arith, a.room, v.room, v.clauses)) (omega arith) (omega (arith, wide)) (omega (arith, wide)));
        config = ap (λ (t : State). t.config) is_added ∙ v.config;
        trail = ap (λ (t : State). t.trail) is_added ∙ v.trail;
        clauses = ap (λ (t : State). length t.clauses.clauses) is_added ∙ length-append cs (ps ∷ []) ∙ omega (arith, v.clauses);
        literals = ap (λ (t : State). stored_literals t.clauses.clauses) is_added ∙ stored_more cs ps ∙ omega (arith, v.literals);
        room = ap (λ (t : State). t.clauses.room) is_added ∙ v.room;
        lit_room = ap (λ (t : State). t.clauses.lit_room) is_added ∙ v.lit_room;
        lined =
            record {
              list = ap (λ (w : Watches). list_of w 1) watches_are ∙ one_attached s.watches i (omega (arith, v.live.lists, wide)) v.lined.list;
              blockers =
                  subst (λ (w : Watches). BlocksTo w.blockers (suc i)) (sym watches_are)
                  (one_blocker s.watches i (omega (arith, v.live.nodes, a.room, v.room)) v.lined.blockers);
            };
      }

-- ---- the same, in blocks that are all as large as the configuration asks

abbrev pub SizedRow : State → State → ℕ → Type 0
SizedRow x s i = Row x s i × SizedLive s

pub sized_row_begun : {g : Config} {w : List ℕ} {s : State} → Started g w s → 1 < 2 * g.vars → SizedRow s s 0
sized_row_begun k h = (row_begun k h, sized_started k)

pub sized_row_more : {x s s' : State} {i : ℕ} → Ample x → SizedRow x s i → i < 32 → s' ≡ added s 0 (2 * i + 2) 4 → SizedRow x s' (suc i)
sized_row_more {i = i} a v g adds = (row_more a v.0 g adds, rw adds (sized_added v.1 0 (2 * i + 2) 4))

-- ---- a walk

bit_low : (b : Bool) → pick b 1 0 ≤ 1
bit_low true = omega arith
bit_low false = omega arith

module _ (s : State) where
  abbrev pub hit : ℕ → ℕ
  hit y = pick (blocks s (get_or s.watches.blockers y 0)) 1 0

  pub hits-bound : (ys : List ℕ) → hits s ys ≤ length ys
  unfolding hits
  hits-bound [] = omega arith
  hits-bound (y ∷ ys) = omega (arith, bit_low (blocks s (get_or s.watches.blockers y 0)), hits-bound ys)

  hits_snoc : (ys : List ℕ) (y : ℕ) → hits s (ys ++ (y ∷ [])) ≡ hits s ys + hit y
  unfolding hits
  hits_snoc [] y = omega arith
  hits_snoc (z ∷ ys) y = ap (λ n. hit z + n) (hits_snoc ys y) ∙ omega arith

  pub hits_none : (ys : List ℕ) → length ys ≡ 0 → hits s ys ≡ 0
  unfolding hits
  hits_none [] e = refl
  hits_none (y ∷ ys) e = absurd (let z : suc (length ys) ≡ 0 = e in omega arith)

  pub walked_on : (xs : List ℕ) (i : ℕ) → i < length xs → hits s (drop i xs) ≡ hit (get_or xs i 0) + hits s (drop (suc i) xs)
  unfolding hits
  walked_on xs i h = ap (hits s) (drop-cons xs i 0 h)

  hits-evens : (m : ℕ) → BlocksTo s.watches.blockers m → m < s.config.vars → hits s (evens m) ≡ trues s.trail.vars.values m
  unfolding hits evens trues
  hits-evens zero b g = refl
  hits-evens (suc m) b g =
      let one : hit (2 * m) ≡ pick (eqb (value_lit s.trail.vars.values (2 * m + 2)) 0) 1 0 = rw (b m (omega arith), lt-ltb (var (2 * m + 2)) s.config.vars (omega arith)) refl in
      hits_snoc (evens m) (2 * m) ∙ ap₂ ◌+◌ (hits-evens m (λ j h. b j (omega arith)) (omega arith)) one

  pub hits_lined : (m : ℕ) → Lined s.watches m → m < s.config.vars → hits s (list_of s.watches 1) ≡ trues s.trail.vars.values m
  hits_lined m k g = ap (hits s) k.list ∙ hits-evens m k.blockers g

-- ---- the answers

module _ {A : Type 0} (m n : ℕ) (refused x : A) where
  pub long_enough : 2114 ≤ m → 64 ≤ n → unless_short m n refused x ≡ x
  long_enough g h = rw (le-ltb m 2114 g, le-ltb n 64 h) refl

-- the watches that were laid out, once the literals ps are on the trail
module _ {g : Config} {w : List ℕ} {s a b : State} (ps : List ℕ) (k : Started g w s) (row : Row s a 32) (fills : b ≡ filled a ps) where
  pub lined_filled : Lined b.watches 32
  lined_filled =
      let same : b.watches ≡ a.watches = ap (λ (t : State). t.watches) fills ∙ filled_keeps (λ t. t.watches) (λ t p. refl) a ps in
      record {
        list = ap (λ (s : Watches). list_of s 1) same ∙ row.lined.list;
        blockers = subst (λ (s : Watches). BlocksTo s.blockers 32) (sym same) row.lined.blockers;
      }

  pub config_filled : b.config ≡ g
  config_filled = ap (λ (t : State). t.config) fills ∙ filled_keeps (λ t. t.config) (λ t p. refl) a ps ∙ row.config ∙ k.config

  pub hits-filled : 33 ≤ g.vars → length ps ≤ g.vars → hits b (list_of b.watches 1) ≡ trues (signs g.vars (replicate g.vars l_undef) ps) 32
  hits-filled wide h =
      let none : on a ≡ 0 = ap (λ (t : Assignment). length t.vars.trail) row.trail ∙ (begun_trail k).assigned in
      let vars : a.config.vars ≡ g.vars = ap (λ (c : Config). c.vars) (row.config ∙ k.config) in
      let values : a.trail.vars.values ≡ replicate g.vars l_undef = ap (λ (t : Assignment). t.vars.values) row.trail ∙ begun_values k in
      let e : b.trail.vars.values ≡ signs g.vars (replicate g.vars l_undef) ps =
      ap (λ (t : State). t.trail.vars.values) fills ∙ filled_values a ps (omega (arith, none, vars)) ∙ ap₂ (λ (m : ℕ) (vs : List ℕ). signs m vs ps) vars values
      in
      hits_lined b 32 lined_filled (omega (arith, ap (λ (c : Config). c.vars) config_filled)) ∙ ap (λ (vs : List ℕ). trues vs 32) e
