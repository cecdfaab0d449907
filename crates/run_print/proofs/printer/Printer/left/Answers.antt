use Rattle.run_print.proofs.printer.Printer.left.Goals as goal

pub text-requires : goal.text-requires
text-requires g c = assumption

pub numbers-requires : goal.numbers-requires
numbers-requires g c = assumption
