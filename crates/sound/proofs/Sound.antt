-- What the state of a run knows of the clauses taken so far, and of the log, the clauses learnt, newest first.
use Rattle.std.specs.Prelude.{◌≡◌, refl, Bool, List, [], ℕ, ◌*◌, ◌<◌}
use Rattle.std.proofs.Common.{sym, ◌∙◌, true≢false}
use mathlib.Core.List.Memᴰ.{not-nil}
use Rattle.model.specs.Script.{Config}
use Rattle.model.specs.State.{State, decision_level, initial_state}
use Rattle.lawbase.specs.Basics.{Every, every_nil}
use Rattle.lawbase.specs.Sem.{Respects}
use Rattle.learning.specs.FirstUip.{Knows}
use Rattle.watching.proofs.Moves.{initial_watching}
use Rattle.sound.specs.Sound.{Sound, Ready, SameBase, Agrees}

-- ---- a run starts

pub initial_sound : (n : ℕ) → Sound n [] [] (initial_state n)
unfolding initial_state
initial_sound n =
    record {
      known = λ S c. record { stored = every_nil (Respects S); fixed = λ p i. absurd (not-nil i) };
      logged = tt;
      covers = λ e ρ r a C i. absurd (not-nil i);
      range = every_nil (λ c. Every (λ l. l < 2 * n) c);
      bad = λ e. absurd (true≢false e);
    }

initial_level : (n : ℕ) → decision_level (initial_state n).vars ≡ 0
unfolding initial_state
initial_level n = refl

pub initial_ready : (cfg : Config) → Ready cfg [] [] (initial_state cfg.variables)
initial_ready cfg =
    record {
      formed = (initial_watching cfg).formed;
      watching = λ e. initial_watching cfg;
      level = initial_level cfg.variables;
      sound = initial_sound cfg.variables;
    }

-- ---- the same clauses and the same level 0

pub same_refl : (s : State) → SameBase s s
same_refl s = record { ok = refl; clauses = refl; back = λ p i z. (i, z); forth = λ p i z. (i, z) }

pub same_trans : {s t u : State} → SameBase s t → SameBase t u → SameBase s u
same_trans a b =
    record {
      ok = b.ok ∙ a.ok;
      clauses = b.clauses ∙ a.clauses;
      back = λ p i z. let x = b.back p i z in a.back p x.0 x.1;
      forth = λ p i z. let x = a.forth p i z in b.forth p x.0 x.1;
    }

knows_same : {S : ℕ → Bool} {s s' : State} → SameBase s s' → Knows S s.store s.vars → Knows S s'.store s'.vars
knows_same {S} h k =
    record {
      stored = rw h.clauses k.stored;
      fixed = λ p i z. let b = h.back p i z in k.fixed p b.0 b.1;
    }

agrees_same : {ρ : ℕ → ℕ} {s s' : State} → SameBase s s' → Agrees ρ s'.store s'.vars → Agrees ρ s.store s.vars
agrees_same {ρ} h a =
    record {
      stored = rw h.clauses at a.stored;
      fixed = λ p i z. let b = h.forth p i z in a.fixed p b.0 b.1;
    }

pub sound_same : {n : ℕ} {taken log : List (List ℕ)} {s s' : State} → SameBase s s' → Sound n taken log s → Sound n taken log s'
sound_same h k =
    record {
      known = λ S c. knows_same h (k.known S c);
      logged = k.logged;
      covers = λ e ρ r a. k.covers (sym h.ok ∙ e) ρ r (agrees_same h a);
      range = k.range;
      bad = λ e. k.bad (sym h.ok ∙ e);
    }
