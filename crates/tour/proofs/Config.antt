-- No step of a tour changes the configuration.
use Rattle.std.specs.Prelude.{ℕ, ◌≡◌, refl, Bool, true, false}
use Rattle.state.specs.declared.State.{State}
use Rattle.tour.specs.Steps.{pick, opened, placed, gone_back, reblocked, sent, added, finished, unfinished}

-- whether a step is taken or not
kept : (b : Bool) (r s : State) → r.config ≡ s.config → (pick b r s).config ≡ s.config
kept true r s e = e
kept false r s e = refl

module _ (s : State) where
  pub config-opened : (opened s).config ≡ s.config
  config-opened = kept _ _ s refl

  pub config-placed : (p from : ℕ) → (placed s p from).config ≡ s.config
  config-placed p from = kept _ _ s refl

  pub config-gone_back : (level phase : ℕ) → (gone_back s level phase).config ≡ s.config
  config-gone_back level phase = kept _ _ s refl

  pub config-reblocked : (l b : ℕ) → (reblocked s l b).config ≡ s.config
  config-reblocked l b = kept _ _ s refl

  pub config-sent : (l m b : ℕ) → (sent s l m b).config ≡ s.config
  config-sent l m b = kept _ _ s refl

  pub config-added : (p q r : ℕ) → (added s p q r).config ≡ s.config
  config-added p q r = kept _ _ s refl

  pub config-finished : (l : ℕ) → (finished s l).config ≡ s.config
  config-finished l = kept _ _ s refl

  pub config-unfinished : (unfinished s).config ≡ s.config
  config-unfinished = refl
