-- What was written is the text.
use Rattle.std.proofs.Common.{List, ℕ, sym, ap, subst}
use Rattle.std.specs.Fmt.{HasWritten}
use Rattle.frs_frame.specs.Refusals.{frame_fault_text}
use Rattle.frs_frame.proofs.fault.FrameFaultDisplay.fmt.Goals as goal

pub returns-in-Short-clause-writes : goal.returns-in-Short-clause-writes
returns-in-Short-clause-writes g c plain ok =
    subst (λ (text : List ℕ). HasWritten g.W.Write.write_str_gives c.args.f.now text c.write-in-Short.new.self) (ap frame_fault_text (sym c.in-Short.is))
    (c.write-in-Short.ensures.writes plain ok)
