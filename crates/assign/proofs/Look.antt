-- A look at a watched clause: to put its false literal second, to watch another one, and to set its first one, keeps the assignment.
use Rattle.std.specs.Prelude.{◌≡◌, refl, ◌≢◌, List, [], ◌∷◌, ℕ, suc, zero, ◌*◌, ◌≤◌, ◌<◌, length, get_or, drop, set}
use Rattle.std.proofs.Common.{ap, sym, ◌∙◌, subst, arith, length-set, get_or-set_same, ne_eqb}
use Rattle.model.specs.Lit.{neg, no_reason}
use Rattle.model.specs.State.{VarState, reason_lit}
use Rattle.model.specs.Trail.{unchecked_enqueue}
use Rattle.model.specs.Propagate.{false_second}
use Rattle.lawbase.specs.Basics.{◌∈◌, Every}
use Rattle.lawbase.specs.WellFormed.{Assignment}
use Rattle.assign.proofs.Lists.{get_or_in, set_every, in_reverse}
use Rattle.assign.specs.Reading.{Unset}
use Rattle.assign.proofs.Reasons.{reason_true}
use Rattle.assign.proofs.Enqueue.{enqueue_implied}
use Rattle.assign.proofs.Clauses.{clause-set}
use Rattle.assign.specs.Look.{moved}

pub second_same : (f : ℕ) (c : List ℕ) → get_or c 0 0 ≢ f → false_second f c ≡ c
unfolding false_second
second_same f c h = rw (ne_eqb (get_or c 0 0) f h, false_second)

pub moved_first : (f k : ℕ) (c : List ℕ) → 1 ≤ k → get_or (moved f k c) 0 0 ≡ get_or c 0 0
moved_first f zero c h = absurd (omega arith)
moved_first f (suc k) [] h = refl
moved_first f (suc k) (x ∷ c) h = refl

pub moved_rest : (f k : ℕ) (c : List ℕ) → 1 ≤ k → k < length c → get_or c 1 0 ≡ f → Every (λ l. l ∈ drop 1 c) (drop 1 (moved f k c))
moved_rest f zero c h b e = absurd (omega arith)
moved_rest f (suc k) [] h b e = absurd (omega arith)
moved_rest f (suc k) (x ∷ c) h b e =
    set_every (λ l. l ∈ c) (set c 0 (get_or c k 0)) k f (subst (λ l. l ∈ c) e (get_or_in c 0 0 (omega arith)))
    (set_every (λ l. l ∈ c) c 0 (get_or c k 0) (get_or_in c k 0 (omega arith)) (λ l i. i))

module _ {n : ℕ} {cs : List (List ℕ)} {vs : VarState} (w : Assignment n cs vs) (r f : ℕ) (j : neg f ∈ vs.trail) where
  -- a reason has no false literal first
  pub second_kept : (p : ℕ) → p ∈ vs.trail → reason_lit vs p ≡ r → r ≢ no_reason → false_second f (get_or cs r []) ≡ get_or cs r []
  second_kept p i e d =
      second_same f (get_or cs r []) (subst (λ k. get_or (get_or cs k []) 0 0 ≢ f) e (reason_true w p f i (λ z. d (sym e ∙ z)) j))

  pub look_put : Assignment n (set cs r (false_second f (get_or cs r []))) vs
  look_put =
      clause-set w r (false_second f (get_or cs r [])) (λ p i e d h. ap (λ c. get_or c 0 0) (second_kept p i e d))
      (λ p i e d h. rw (second_kept p i e d) (λ l k. k))

  pub look-moved : (k : ℕ) → 1 ≤ k → k < length (false_second f (get_or cs r [])) → get_or (false_second f (get_or cs r [])) 1 0 ≡ f
      → Assignment n (set cs r (moved f k (false_second f (get_or cs r [])))) vs
  look-moved k h b s =
      clause-set w r (moved f k (false_second f (get_or cs r [])))
      (λ p i e d z. moved_first f k (false_second f (get_or cs r [])) h ∙ ap (λ c. get_or c 0 0) (second_kept p i e d))
      (λ p i e d z. subst (λ c. Every (λ l. l ∈ drop 1 c) (drop 1 (moved f k (false_second f (get_or cs r []))))) (second_kept p i e d) (moved_rest f k (false_second f (get_or cs r [])) h b s))

  -- all other literals are false: the first one is set
  pub look-enqueued : r < length cs → r ≢ no_reason → get_or (false_second f (get_or cs r [])) 0 0 < 2 * n
      → Unset vs (get_or (false_second f (get_or cs r [])) 0 0)
      → Every (λ q. neg q ∈ vs.trail) (drop 1 (false_second f (get_or cs r [])))
      → Assignment n (set cs r (false_second f (get_or cs r []))) (unchecked_enqueue vs (get_or (false_second f (get_or cs r [])) 0 0) r)
  look-enqueued h d b u g =
      let c = false_second f (get_or cs r []) in
      let e = get_or-set_same cs r c [] h in
      enqueue_implied look_put (get_or c 0 0) r b u d
      (record { stored = rw (length-set cs r c) h; first = rw e; false_rest = rw e (λ q i. in_reverse (g q i)) })
