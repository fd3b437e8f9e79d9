-- No function changes how many lists and how many nodes there are.
use Rattle.std.specs.Prelude.{ℕ, ◌*◌, ◌+◌, ◌≡◌, refl, length, get_or}
use Rattle.std.proofs.Common.{◌∙◌, length-set}
use Rattle.model.specs.Lit.{neg}
use Rattle.watch.specs.View.{Watches, list_of, without, appended, attached, unlinked, moved, blocked}

pub record SameSizes (s s' : Watches) : Type 0 where
  pub lists : length s'.lists ≡ length s.lists
  pub blockers : length s'.blockers ≡ length s.blockers

pub blocked_sizes : (x b : ℕ) (s : Watches) → SameSizes s (blocked x b s)
unfolding blocked
blocked_sizes x b s = record { lists = refl; blockers = length-set s.blockers x b }

pub appended_sizes : (l x b : ℕ) (s : Watches) → SameSizes s (appended l x b s)
unfolding appended
appended_sizes l x b s = record { lists = length-set s.lists l _; blockers = length-set s.blockers x b }

pub attached_sizes : (c p q : ℕ) (s : Watches) → SameSizes s (attached c p q s)
unfolding attached
attached_sizes c p q s =
    let one = appended_sizes (neg p) (2 * c) q s in
    let two = appended_sizes (neg q) (2 * c + 1) p (appended (neg p) (2 * c) q s) in
    record { lists = two.lists ∙ one.lists; blockers = two.blockers ∙ one.blockers }

pub unlinked_sizes : (l i : ℕ) (s : Watches) → SameSizes s (unlinked l i s)
unfolding unlinked
unlinked_sizes l i s = record { lists = length-set s.lists l (without i (list_of s l)); blockers = refl }

pub moved_sizes : (l i m b : ℕ) (s : Watches) → SameSizes s (moved l i m b s)
unfolding moved
moved_sizes l i m b s =
    record { lists = length-set _ m _ ∙ length-set s.lists l (without i (list_of s l)); blockers = length-set s.blockers (get_or (list_of s l) i 0) b }
