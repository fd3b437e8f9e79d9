-- The activities as the code has them: a slice of floats and the increment.
use Rattle.std.specs.Prelude.{ℕ, ◌≡◌, refl, Bool, true, false, List, map, length, get_or, set, Float}
use Rattle.std.proofs.Common.{◌∙◌, length-set}
use Rattle.std.proofs.lemmas.List.{length-map}
use Rattle.std.specs.Float.{nan, binary64}
use Rattle.std.specs.Float.Ieee.{add, mul, lt}
use Rattle.model.specs.State.{Activity}
use Rattle.model.specs.Activity.{bound, scale, var_bump_activity, var_decay_activity}

abbrev pub activity : List Float → Float → Activity
activity acts inc = record { activities = acts; increment = inc }

abbrev pub scaled : Float → Float
scaled y = mul binary64 y scale

-- all are scaled down
abbrev pub rescaled : Activity → Activity
rescaled a = activity (map scaled a.activities) (scaled a.increment)

-- the two ways through a bump of the activities that a slice and the increment show
module _ (acts : List Float) (inc : Float) {a : Activity} (e : activity acts inc ≡ a) (v : ℕ) where
  abbrev pub grown : Float
  grown = add binary64 (get_or acts v nan) inc

  pub bump_over : lt bound grown ≡ true → rescaled (activity (set acts v grown) inc) ≡ var_bump_activity a v
  unfolding var_bump_activity
  bump_over h = rw (← e) (rw (h, var_bump_activity))

  pub bump_under : lt bound grown ≡ false → activity (set acts v grown) inc ≡ var_bump_activity a v
  unfolding var_bump_activity
  bump_under h = rw (← e) (rw (h, var_bump_activity))

-- there are as many as before
pub bump_sized : (a : Activity) (v : ℕ) → length (var_bump_activity a v).activities ≡ length a.activities
unfolding var_bump_activity
bump_sized a v = go (lt bound (grown a.activities a.increment refl v)) refl
  where
    go : (t : Bool) → lt bound (grown a.activities a.increment refl v) ≡ t → length (var_bump_activity a v).activities ≡ length a.activities
    go true h = rw (h, var_bump_activity) (length-map (set a.activities v (grown a.activities a.increment refl v)) scaled ∙ length-set a.activities v _)
    go false h = rw (h, var_bump_activity) (length-set a.activities v _)

pub decay_sized : (a : Activity) → length (var_decay_activity a).activities ≡ length a.activities
unfolding var_decay_activity
decay_sized a = refl
