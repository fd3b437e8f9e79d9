use Rattle.std.proofs.Common.{refl}
use Rattle.text.specs.WriteLaws.{written_copied}
use Rattle.text.proofs.printer.Printer.bytes.Goals as goal

pub returns : goal.returns
returns c = record { same_reference = refl; written = written_copied c.args.self.now.within c.min-n.ensures c.copy_from_slice.ensures.after refl }
