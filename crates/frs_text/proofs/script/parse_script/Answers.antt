use Rattle.std.proofs.Common.{◌+◌, ◌∙◌, sym}
use Rattle.std.proofs.lemmas.Bool.{eqb-true}
use Rattle.frs_text.specs.Scripts.{up_to}
use Rattle.frs_text.proofs.ScriptOf.{read_to_end}
use Rattle.frs_text.proofs.script.parse_script.Goals as goal

pub of-requires : goal.of-requires
of-requires c = rw c.into_lines.ensures
    (read_to_end (up_to c.args.lines c.args.snapshots) c.loop-rest.draft (c.loop-rest.number + 1) c.loop-rest.rest.now c.args.bytes.now
    (eqb-true _ _ (sym c.is_empty.ensures ∙ c.loop-rest-test.false)) c.loop-rest.invariant.goes_on)
