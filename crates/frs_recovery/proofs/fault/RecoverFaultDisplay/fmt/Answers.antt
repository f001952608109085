-- What was written is the text.
use Rattle.std.proofs.Common.{List, ℕ, sym, ap, subst}
use Rattle.std.specs.Fmt.{HasWritten}
use Rattle.frs_recovery.specs.Refusals.{recover_fault_text}
use Rattle.frs_recovery.proofs.fault.RecoverFaultDisplay.fmt.Goals as goal

pub returns-in-BadHeader-clause-writes : goal.returns-in-BadHeader-clause-writes
returns-in-BadHeader-clause-writes g c plain ok =
    subst (λ (text : List ℕ). HasWritten g.W.Write.write_str_gives c.args.f.now text c.write.new.self) (ap recover_fault_text (sym c.in-BadHeader.is))
    (c.write.ensures.writes plain ok)

pub returns-in-BadChunk-clause-writes : goal.returns-in-BadChunk-clause-writes
returns-in-BadChunk-clause-writes g c plain ok =
    subst (λ (text : List ℕ). HasWritten g.W.Write.write_str_gives c.args.f.now text c.write-in-BadChunk.new.self) (ap recover_fault_text (sym c.in-BadChunk.is))
    (c.write-in-BadChunk.ensures.writes plain ok)

pub returns-in-Gap-clause-writes : goal.returns-in-Gap-clause-writes
returns-in-Gap-clause-writes g c plain ok =
    subst (λ (text : List ℕ). HasWritten g.W.Write.write_str_gives c.args.f.now text c.write-in-Gap.new.self) (ap recover_fault_text (sym c.in-Gap.is))
    (c.write-in-Gap.ensures.writes plain ok)
