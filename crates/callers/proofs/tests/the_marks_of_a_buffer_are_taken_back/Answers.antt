use Rattle.std.proofs.Common.{refl, sym, ◌∙◌, arith, ◌≡◌, set, replicate, true, List, [], ◌∷◌, true≢false}
use mathlib.Core.List.Memᴰ.{head as here, tail as there, not-nil}
use Rattle.model.specs.Lit.{var}
use Rattle.model.specs.Minimise.{is_seen}
use Rattle.lawbase.specs.Basics.{split, same?, every_one}
use Rattle.learning.specs.Marks.{MarksOf}
use Rattle.learning.proofs.Marks.{mark_other, none_seen, cells-set, cells_none}
use Rattle.callers.proofs.tests.the_marks_of_a_buffer_are_taken_back.Goals as goal

-- of three variables, the second alone is marked
marked_is : MarksOf 3 (set (replicate 3 0) 1 1) (3 ∷ [])
marked_is =
    record {
      sized = refl;
      cells = cells-set (replicate 3 0) 1 1 (omega arith) (cells_none 3);
      all = every_one (λ q. is_seen (set (replicate 3 0) 1 1) q ≡ true) refl;
      only = λ v e. split (same? v 1) (λ f. (3, here refl, sym f)) (λ n. absurd (true≢false (sym e ∙ mark_other (replicate 3 0) 1 1 v n ∙ none_seen 3 v)));
    }

pub unmark_buffer-requires : goal.unmark_buffer-requires
unmark_buffer-requires g c = rw (c.push-2.ensures, c.push.ensures, c.new-buffer.ensures, c.set.ensures, c.new-m.ensures) marked_is
