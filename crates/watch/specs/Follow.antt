-- A list by its links: the link a names the first node, the link b the second, and each node's own link the node two places on, until the link e.
use Rattle.std.specs.Prelude.{ℕ, zero, suc, ◌≤◌, ◌<◌, ◌≢◌, ◌≡◌, refl, true, false, List, [], ◌∷◌, length, get_or, eqb}
use Rattle.std.proofs.Common.{arith, not-suc-le-zero, ap, ◌∙◌, eq-eqb, ne_eqb}

-- at most n nodes
unfoldable pub follow : List ℕ → ℕ → ℕ → ℕ → ℕ → List ℕ
follow links zero e a b = []
follow links (suc n) e a b = elim (eqb a e) [ true ↦ [] | false ↦ get_or links a 0 ∷ follow links n e b (get_or links a 0) ]

no_more : (links : List ℕ) (e a b : ℕ) → follow links zero e a b ≡ []
unfolding follow
no_more links e a b = refl

module _ (links : List ℕ) (n e a b : ℕ) where
  at_end : a ≡ e → follow links (suc n) e a b ≡ []
  unfolding follow
  at_end q = rw (eq-eqb a e q, follow)

  at_node : (x : ℕ) → a ≢ e → get_or links a 0 ≡ x → follow links (suc n) e a b ≡ x ∷ follow links n e b x
  unfolding follow
  at_node x q h = rw (ne_eqb a e q, h, follow)

-- it is xs, if the links of a, b and xs name the nodes of xs in turn, and none of them is e before the end, which is
pub follow_is : (links : List ℕ) (n e : ℕ) (xs : List ℕ) (a b : ℕ) → length xs ≤ n → ((i : ℕ) → i < length xs → get_or links (get_or (a ∷ b ∷ xs) i 0) 0 ≡ get_or xs i 0)
    → ((i : ℕ) → i < length xs → get_or (a ∷ b ∷ xs) i 0 ≢ e) → get_or (a ∷ b ∷ xs) (length xs) 0 ≡ e → follow links n e a b ≡ xs
follow_is links zero e [] a b h l d q = no_more links e a b
follow_is links (suc n) e [] a b h l d q = at_end links n e a b q
follow_is links zero e (x ∷ xs) a b h l d q = absurd (not-suc-le-zero h)
follow_is links (suc n) e (x ∷ xs) a b h l d q =
    at_node links n e a b x (d 0 (omega arith)) (l 0 (omega arith))
    ∙ ap (λ (r : List ℕ). x ∷ r) (follow_is links n e xs b x (omega arith) (λ i g. l (suc i) (omega arith)) (λ i g. d (suc i) (omega arith)) q)
