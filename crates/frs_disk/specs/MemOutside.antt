-- What the outside in memory shows of itself.
use Rattle.std.specs.Prelude.{ℕ, Bool, List, Vec, Option, Result, Ok, Err}
use Rattle.std.specs.List.{find}
use Rattle.std.specs.Option.{option_map}
use Rattle.std.specs.Str.{bytes_eq}
use Rattle.std.specs.FinMap.{from_sorted}
use Rattle.std.specs.declared.alloc.Global.{Global}
use Rattle.frs_disk.specs.Faults.{is_named, count_after_one, faults_after}
use Rattle.frs_disk.specs.Outside.{shelf_cmp, ShelfFiles}
use Rattle.frs_disk.specs.ShelfEntries.{shelf_entries}
use Rattle.frs_disk.specs.declared.disk.Fault.{Fault}
use Rattle.frs_disk.specs.declared.disk.Fault.TheVariants.{Failed, Memory}
use Rattle.frs_disk.specs.declared.mem_outside.Tally.{Tally}
use Rattle.frs_disk.specs.declared.mem_outside.MemFiles.{MemFiles}
use Rattle.frs_disk.specs.declared.mem_outside.MemShelf.{MemShelf}
use Rattle.frs_disk.specs.declared.mem_outside.MemSink.{MemSink}

-- the bytes of the first file with this name
abbrev pub file_named : List (List ℕ × Vec ℕ Global) → List ℕ → Option (List ℕ)
file_named files name = option_map (λ f. f.1.items) (find (λ f. bytes_eq f.0 name) files)

abbrev pub files_in : MemFiles → List (List ℕ × Vec ℕ Global)
files_in files = files.files.items

abbrev pub held_on : MemShelf → ShelfFiles
held_on shelf = from_sorted {R = shelf_cmp} (shelf_entries shelf.held.items)

abbrev pub written_to : MemSink → List ℕ
written_to sink = sink.bytes.items

-- the numbers of the calls that fail, how many were made, and how many of them failed
abbrev pub files_tally : MemFiles → Tally
files_tally files = files.tally

abbrev pub shelf_tally : MemShelf → Tally
shelf_tally shelf = shelf.tally

abbrev pub sink_tally : MemSink → Tally
sink_tally sink = sink.tally

-- the next call is one of those that fail
abbrev pub next_fails : Tally → Bool
next_fails tally = is_named tally.failing.items (count_after_one tally.made)

-- how many calls were made after this answer; one that was refused for memory doesn't count
abbrev pub made_after : {V : Type 0} → Result V Fault → ℕ → ℕ
made_after (Ok value) n = count_after_one n
made_after (Err Failed) n = count_after_one n
made_after (Err Memory) n = n

-- the counts after this answer
abbrev pub tally_after : {V : Type 0} → Result V Fault → Tally → Tally
tally_after result tally = record {
  failing = tally.failing;
  made = made_after result tally.made;
  faults = faults_after
      result tally.faults;
}

-- a tally of calls that fail, before any call
abbrev pub new_tally : Vec ℕ Global → Tally
new_tally failing = record { failing = failing; made = 0; faults = 0 }
