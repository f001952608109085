use Rattle.std.proofs.Common.{◌∷◌, codes}
use Rattle.std.specs.Fmt.{decimal}
use Rattle.frs_text.specs.Text.{event_words}
use Rattle.frs_text.proofs.SpacedWords.{line_in_steps}
use Rattle.frs_text.proofs.transcript_lines.push_event.Goals as goal

pub returns : goal.returns
returns c = let said = event_words c.args.scripts.now c.args.event.now.client c.args.event.now.line c.args.event.now.what in
    line_in_steps _ _ _ _ (decimal c.args.event.now.client) (decimal c.args.event.now.line) said.0 (codes "->" ∷ said.1) c.in_ok-write.ensures.bytes c.in_ok-push_event_words.ensures c.in_ok-push_str.ensures.bytes
