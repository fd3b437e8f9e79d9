-- More clauses: what follows from some follows from more, in whatever order.
use Rattle.std.specs.Prelude.{◌≡◌, ◌⊎◌, Bool, true, List, [], ◌∷◌, ◌++◌, ℕ}
use mathlib.Core.List.Memᴰ.{append_cases}
use mathlib.Core.List.Memᴰ.{append_left as in_left}
use mathlib.Core.List.Memᴰ.{append_right as in_right}
use Rattle.model.specs.Lit.{neg}
use Rattle.lawbase.specs.Basics.{◌∈◌, Every, split}
use Rattle.lawbase.specs.Sem.{Respects, Closed, Rup, Log, Sat}
use Rattle.sound.specs.Mono.{Within}

pub within_behind : (F G H : List (List ℕ)) → Within G H → Within (F ++ G) (F ++ H)
within_behind F G H h C i = split (append_cases F i) (λ j. in_left H j) (λ j. in_right F (h C j))

pub within_more : (F G : List (List ℕ)) → Within F (F ++ G)
within_more F G C i = in_left G i

pub closed_mono : (S : ℕ → Bool) (F G : List (List ℕ)) → Within F G → Closed S G → Closed S F
closed_mono S F G h c = record { one = c.one; respects = λ C i. c.respects C (h C i) }

pub rup_mono : (F G : List (List ℕ)) (C : List ℕ) → Within F G → Rup F C → Rup G C
rup_mono F G C h r S c = r S (closed_mono S F G h c)

pub log_mono : (F G L : List (List ℕ)) → Within F G → Log F L → Log G L
log_mono F G [] h l = l
log_mono F G (C ∷ L) h l = (rup_mono (L ++ F) (L ++ G) C (within_behind L F G h) l.0, log_mono F G L h l.1)

-- ---- clauses as sets

-- S respects a clause as a set of literals
pub respects_same : (S : ℕ → Bool) (C D : List ℕ) → Every (λ l. l ∈ D) C → Every (λ l. l ∈ C) D → Respects S C → Respects S D
respects_same S C D f g r =
    record { unit = λ l i h. r.unit l (g l i) (λ m j. h m (f m j)); clash = λ h. r.clash (λ m j. h m (f m j)) }

-- a clause without literals that S holds to be false
pub respects_less : (S : ℕ → Bool) (C D : List ℕ) → Every (λ l. l ∈ C) D → Every (λ l. (l ∈ D) ⊎ (S (neg l) ≡ true)) C → Respects S C → Respects S D
respects_less S C D g f r =
    record {
      unit = λ l i h. r.unit l (g l i) (λ m j ne. split (f m j) (λ k. h m k ne) (λ k. k));
      clash = λ h. r.clash (λ m j. split (f m j) (h m) (λ k. k));
    }

pub sat_more : (ρ : ℕ → ℕ) (C D : List ℕ) → Every (λ l. l ∈ D) C → Sat ρ C → Sat ρ D
sat_more ρ C D f k = (k.0, f k.0 k.1, k.2)
