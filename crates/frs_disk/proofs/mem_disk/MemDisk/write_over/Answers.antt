use Rattle.std.proofs.Common.{◌≡◌, Bool, Err, subst, ◌∙◌, inl, inr, ap, sym, refl, true, List, arith, ℕ}
use Rattle.std.proofs.lemmas.Grind.{common_steps}
use Rattle.std.specs.Prelude.{◌⊎◌, IsSome}
use Rattle.std.specs.FinMap.{get, entries, from_sorted}
use Rattle.frs_disk.specs.Disk.{IsNumber}
use Rattle.frs_disk.specs.declared.calls.Made.{Made}
use Rattle.std.specs.Ordering.{nat_cmp}
use Rattle.frs_disk.specs.Files.{plain_files, image_of}
use Rattle.frs_disk.specs.Faults.{FailsExactly}
use Rattle.frs_disk.specs.Calls.{HasCreated, reads_in, image_after_calls, after_write}
use Rattle.frs_disk.specs.declared.mem_disk.MemDisk.{MemDisk}
use Rattle.frs_disk.proofs.Noted.{adds_noted, adds_takes, adds_pending, elapses_adds, done_tied, undone_tied, adds_numbered, adds_no_read, plays_refused}
use Rattle.frs_disk.proofs.mem_disk.MemDisk.write_over.Goals as goal

pub invariant_of-self : goal.invariant_of-self
invariant_of-self c = record { rising = c.args.self.now.rising; start_rising = c.args.self.now.start_rising; in_range = adds_numbered c.args.call (image_of c.args.self.now.start.items) c.args.self.now.calls.items c.note.new.calls.items (adds_noted c.args.call c.args.self.now.calls.items c.note.new.calls.items c.note.result c.note.ensures.noted) c.requires.creates c.args.self.now.in_range; tied = undone_tied (Unit {0}) (c.args.call) (image_of c.args.self.now.start.items) (image_of c.args.self.now.files.items) c.args.self.now.calls.items c.note.new.calls.items c.in_err-note.field-0.0 c.args.self.now.tied c.in_err-note.ensures.noted; noted_reads = adds_no_read c.args.call c.args.self.now.calls.items c.note.new.calls.items (adds_noted c.args.call c.args.self.now.calls.items c.note.new.calls.items c.note.result c.note.ensures.noted) c.requires.no_read _ c.args.self.now.noted_reads }

pub returns-in_err-note-clause-pending : goal.returns-in_err-note-clause-pending
returns-in_err-note-clause-pending c = adds_pending (c.args.call) c.args.self.now.calls.items c.note.new.calls.items (adds_noted (c.args.call) c.args.self.now.calls.items c.note.new.calls.items c.note.result c.note.ensures.noted) c.requires.removes

pub returns-in_err-note-clause-leaves : goal.returns-in_err-note-clause-leaves
returns-in_err-note-clause-leaves c = adds_takes (c.args.call) (image_of c.args.self.now.start.items) (image_of c.args.self.now.files.items) c.args.self.now.calls.items c.note.new.calls.items (adds_noted (c.args.call) c.args.self.now.calls.items c.note.new.calls.items c.note.result c.note.ensures.noted) c.args.self.now.tied

pub returns-in_err-note-clause-time : goal.returns-in_err-note-clause-time
returns-in_err-note-clause-time c = elapses_adds (λ (m : MemDisk). image_of m.start.items) (λ (m : MemDisk). m.calls.items) (c.args.call) c.args.self.now _ refl
    (adds_noted (c.args.call) c.args.self.now.calls.items c.note.new.calls.items c.note.result c.note.ensures.noted)

pub returns-clause-pending : goal.returns-clause-pending
returns-clause-pending c = adds_pending (c.args.call) c.args.self.now.calls.items c.note.new.calls.items (inr (true, c.in_ok-note.ensures.noted)) c.requires.removes

pub returns-clause-leaves : goal.returns-clause-leaves
returns-clause-leaves c = adds_takes (c.args.call) (image_of c.args.self.now.start.items) (image_of c.args.self.now.files.items) c.args.self.now.calls.items c.note.new.calls.items (inr (true, c.in_ok-note.ensures.noted)) c.args.self.now.tied

pub returns-clause-time : goal.returns-clause-time
returns-clause-time c = elapses_adds (λ (m : MemDisk). image_of m.start.items) (λ (m : MemDisk). m.calls.items) (c.args.call) c.args.self.now _ refl
    (inr (true, c.in_ok-note.ensures.noted))

pub returns-then-is_err-clause-leaves : goal.returns-then-is_err-clause-leaves
returns-then-is_err-clause-leaves c =
    let same : c.pop.new.self.items ≡ c.args.self.now.calls.items = grind (arith, common_steps) in
    adds_takes c.args.call (image_of c.args.self.now.start.items) (image_of c.args.self.now.files.items) c.args.self.now.calls.items c.pop.new.self.items (inl same) c.args.self.now.tied

pub invariant_of-self-else-is_err : goal.invariant_of-self-else-is_err
invariant_of-self-else-is_err c =
    let set : image_of c.write_file.new.files.items ≡ after_write c.args.number c.args.at c.args.bytes.now (image_of c.args.self.now.files.items) (get (image_of c.args.self.now.files.items) c.args.number) = grind (arith, common_steps) in
    record {
      rising = c.write_file.ensures.rising;
      start_rising = c.args.self.now.start_rising;
      in_range = adds_numbered c.args.call (image_of c.args.self.now.start.items) c.args.self.now.calls.items c.note.new.calls.items (inr (true, c.in_ok-note.ensures.noted)) c.requires.creates c.args.self.now.in_range;
      tied = done_tied c.args.call (image_of c.args.self.now.start.items) (image_of c.args.self.now.files.items) (image_of c.write_file.new.files.items) c.args.self.now.calls.items c.note.new.calls.items
          c.args.self.now.tied c.in_ok-note.ensures.noted (set ∙ sym c.requires.writes);
      noted_reads = adds_no_read c.args.call c.args.self.now.calls.items c.note.new.calls.items (inr (true, c.in_ok-note.ensures.noted)) c.requires.no_read _ c.args.self.now.noted_reads;
    }

pub invariant_of-self-then-is_err : goal.invariant_of-self-then-is_err
invariant_of-self-then-is_err c =
    let same_calls : c.pop.new.self.items ≡ c.args.self.now.calls.items = grind (arith, common_steps) in
    let same_files : plain_files c.write_file.new.files.items ≡ plain_files c.args.self.now.files.items = grind (arith, common_steps) in
    record {
      rising = c.write_file.ensures.rising;
      start_rising = c.args.self.now.start_rising;
      in_range = subst (λ (l : List Made). (n : ℕ) → IsSome (get (image_of c.args.self.now.start.items) n) ⊎ HasCreated l n → IsNumber n) (sym same_calls) c.args.self.now.in_range;
      tied = ap (λ (f : List (ℕ × List ℕ)). entries (from_sorted {R = nat_cmp} f)) same_files ∙ c.args.self.now.tied ∙ ap (λ (l : List Made). entries (image_after_calls (image_of c.args.self.now.start.items) l)) (sym same_calls);
      noted_reads = c.args.self.now.noted_reads ∙ ap reads_in (sym same_calls);
    }

pub returns-in_err-note-clause-plays : goal.returns-in_err-note-clause-plays
returns-in_err-note-clause-plays c =
    let is : c.from_residual.result ≡ Err c.in_err-note.field-0.0 = grind (arith, common_steps) in
    plays_refused c.args.call c.args.self.now _ c.from_residual.result c.in_err-note.field-0.0 is refl refl c.in_err-note.ensures.noted
    (subst (λ (b : Bool). FailsExactly {V = Unit {0}} b (Err c.in_err-note.field-0.0)) c.fails-fails.ensures c.in_err-note.ensures.planned) c.in_err-note.ensures.counted refl
