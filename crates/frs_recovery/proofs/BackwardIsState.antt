-- What a recovery answers of a lawful log is the state that the log reaches.
use Rattle.std.proofs.Common.{List, [], ap, ◌∙◌}
use Rattle.frs_types.specs.declared.record.Record.{Record}
use Rattle.frs_types.specs.Records.{Log, from_lowest}
use Rattle.frs_types.specs.Lawful.{Lawful, table_of, settled_state, state_after}
use Rattle.frs_types.proofs.BackwardIsForward.{cut_gives_entries, cut_gives_lowest}
use Rattle.frs_segment.specs.Segments.{FileList, WholeSegment, SpellsBy, Spells}
use Rattle.frs_recovery.specs.declared.recovered.Recovered.{Recovered}
use Rattle.frs_recovery.specs.Answers.{IsRecovered}
use Rattle.frs_recovery.specs.Sound.{HasState}

pub recovered_is_state : (image : FileList) (r : Recovered) → ((segments : List WholeSegment) (log : Log) → SpellsBy image segments log → IsRecovered image segments log r)
    → (records : List Record) → Lawful [] 1 records → Spells image (from_lowest 1 records) → HasState (state_after (settled_state [] 1) records) r
recovered_is_state image r only records lawful (segments, by) =
    let is = only segments (from_lowest 1 records) by in
    record { entries = ap table_of is.entries ∙ cut_gives_entries records lawful; lowest = is.lowest ∙ cut_gives_lowest records lawful }
