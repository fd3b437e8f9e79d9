-- Document 01's example of the bench program, run by the definitions.
use Rattle.std.specs.Prelude.{◌≡◌, refl, List, ℕ}
use Rattle.model.specs.Exec.{out_of}
use Rattle.text.specs.Bytes.{bytes}
use Rattle.text.specs.Computes.{read, print}
use Rattle.loadsat.specs.Bench.{answered, shown, output}

-- `output`, unfolded
writes : List ℕ → List ℕ
unfolding out_of read print answered shown output
writes input = output input

example : writes (bytes "vars=2\nmode=2\nphase=2\nunit=100\nclause=1 2\nclause=-1 2\nsolve=1000\nsolve=1000 -2\n")
    ≡ bytes "answer=TRUE\nconflicts=0\nmodel=-1 2\nanswer=FALSE\nconflicts=1\nfinal=2\n"
unfolding writes
example = refl

-- a refusal of the text, and one of the run: its place is a cell
refused_text : writes (bytes "vars=2\nmode=2\nphase=2\nunit=100\nclause=3\n") ≡ bytes "refused=14\nplace=5\n"
unfolding writes
refused_text = refl

refused_script : writes (bytes "vars=2\nmode=3\nphase=2\nunit=100\n") ≡ bytes "refused=4\nplace=3\n"
unfolding writes
refused_script = refl
