-- Which records of a log that is read from its newest record to its oldest go through the filters.
use Rattle.std.specs.Prelude.{◌≡◌, ℕ, ◌-◌, List, drop, None}
use Rattle.std.specs.List.{last_or}
use Rattle.std.specs.Prelude.{Option, option_map}
use Rattle.frs_types.specs.declared.record.Record.{Record}
use Rattle.frs_types.specs.Records.{Numbered, numbered_records_from, named_lowest}
use Rattle.frs_filters.specs.Chain.{HasSeen}
use Rattle.frs_filters.specs.Begins.{HasNoted}
use Rattle.frs_recovery.specs.declared.backward_reader.BackwardReader.{BackwardReader}

-- of the newest records of a log, the first of which has the LSN first, those from the named lowest on
abbrev pub offered_records : ℕ → List Record → List Numbered
offered_records first rs = drop (named_lowest rs - first) (numbered_records_from first rs)

-- the lowest that the newest of these records names, if there is one
abbrev pub lowest_named : List Record → Option ℕ
lowest_named rs = option_map (λ (r : Record). r.lowest) (last_or None rs)

-- These are the newest records, down to the LSN first, and those from the named lowest on were offered.
pub record HasRead (back : BackwardReader) (first : ℕ) (rs : List Record) : Type 0 where
  pub named : back.named ≡ lowest_named rs
  pub seen : HasSeen back.chain (offered_records first rs)
  pub noted : HasNoted back.begins (offered_records first rs)
