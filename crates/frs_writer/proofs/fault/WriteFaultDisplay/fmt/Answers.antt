-- What was written is the text.
use Rattle.std.proofs.Common.{List, ℕ, sym, ap, subst}
use Rattle.std.specs.Fmt.{HasWritten}
use Rattle.frs_writer.specs.Refusals.{write_fault_text}
use Rattle.frs_writer.proofs.fault.WriteFaultDisplay.fmt.Goals as goal

pub returns-in-Broken-clause-writes : goal.returns-in-Broken-clause-writes
returns-in-Broken-clause-writes g c plain ok =
    subst (λ (text : List ℕ). HasWritten g.W.Write.write_str_gives c.args.f.now text c.write-in-Broken.new.self) (ap write_fault_text (sym c.in-Broken.is))
    (c.write-in-Broken.ensures.writes plain ok)
