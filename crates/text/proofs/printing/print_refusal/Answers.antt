use Rattle.std.proofs.Common.{rules}
use Rattle.text.specs.Answers.{printed_refusal}
use Rattle.text.specs.Prints.{prints_more, printed_all}
use Rattle.text.proofs.printing.print_refusal.Goals as goal

pub returns : goal.returns
unfolding printed_refusal
returns c = printed_all _ (prints_more c.numbered.ensures c.numbered-2.ensures) (search rules) c.new-printer.ensures.start c.new-printer.ensures.text (search rules)
