use Rattle.std.specs.Prelude.{slice_index}
use Rattle.std.proofs.Common.{◌≡◌, ◌∙◌, ◌+◌, drop, ℕ, Bool, Ok, Some, None, Err, Option, sym, ap, subst, refl, IsTrue, arith}
use Rattle.std.proofs.lemmas.Grind.{common_steps}
use Rattle.std.proofs.lemmas.Result.{err_from_is_err_and}
use Rattle.frs_disk.specs.Disk.{Image, bytes_at}
use Rattle.frs_disk.proofs.Frames.{only_reads_join}
use Rattle.frs_segment.specs.declared.layout.ChunkPlace.{ChunkPlace}
use Rattle.frs_segment.specs.Segments.{File}
use Rattle.frs_segment.specs.Scanning.{IsChunk}
use Rattle.frs_segment.specs.Heads.{TellsHead, IsNext, IsNextIfAny}
use Rattle.frs_segment.proofs.FollowHeads.{told_of_first}
use Rattle.frs_segment.proofs.FollowChunks.{gathers_start, gathers_on, gathers_end, reached_start, reached_on, head_wrong, records_wrong}
use Rattle.frs_segment.proofs.SegmentIn.{reach_end}
use Rattle.frs_segment.proofs.HasHeads.{shut_open}
use Rattle.frs_segment.proofs.reader.follow_chunks.Goals as goal

pub loop-walk-init : goal.loop-walk-init
loop-walk-init g c =
    let d = g.D.Disk in
    let file : File = (c.args.number, bytes_at (d.reads c.args.disk.now) c.args.number) in
    record {
      gathers = gathers_start c.args.number c.in_ok-walk.walk c.in_ok-walk.ensures.begun;
      told = λ tells. reached_start file c.in_ok-walk.walk c.in_ok-walk.ensures.begun (c.in_ok-walk.ensures.told tells);
      size = λ tells. (c.in_ok-walk.ensures.told tells).2;
      frame = c.begin.ensures.frame;
      width = omega (arith, c.begin.ensures.width);
      faults = c.in_ok-walk.ensures.cause;
    }

pub returns-in_err-place-clause-told : goal.returns-in_err-place-clause-told
returns-in_err-place-clause-told g c tells =
    let d = g.D.Disk in
    let walk = c.loop-walk.walk in
    let so_far = c.loop-walk.invariant in
    let file : File = (c.args.number, bytes_at (d.reads c.args.disk.now) c.args.number) in
    let fault = c.in_err-place.field-0.0 in
    let is : c.from_residual-in_err-place.result ≡ Err fault = grind (arith, common_steps) in
    let head = told_of_first (d.tells c.args.disk.now) (d.tells c.loop-walk.disk) (d.reads c.args.disk.now) (d.reads c.loop-walk.disk) c.args.number walk.number walk.file_length walk.gate walk.next (Err fault)
    so_far.frame.told so_far.frame.seen so_far.gathers.number_is c.in_err-place.ensures.told tells (so_far.size tells) in
    rw is (head_wrong file walk fault (so_far.told tells) head)

pub returns-in_err-_records-clause-told : goal.returns-in_err-_records-clause-told
returns-in_err-_records-clause-told g c tells =
    let d = g.D.Disk in
    let walk = c.loop-walk.walk in
    let so_far = c.loop-walk.invariant in
    let place = c.in-Some.place in
    let file : File = (c.args.number, bytes_at (d.reads c.args.disk.now) c.args.number) in
    let fault = c.in_err-_records.field-0.0 in
    let is : c.from_residual-in_err-_records.result ≡ Err fault = grind (arith, common_steps) in
    let next = subst (IsNextIfAny walk.file_length walk.gate walk.next) c.in-Some.is c.in_ok-place.ensures.next in
    let frame = only_reads_join d g.met.D.Disk.since_earlier c.args.disk.now c.loop-walk.disk c.head.new.disk so_far.frame c.head.ensures.frame in
    let head = subst (λ (x : Option ChunkPlace). TellsHead walk.gate walk.next file.1 (Ok x)) c.in-Some.is
    (told_of_first (d.tells c.args.disk.now) (d.tells c.loop-walk.disk) (d.reads c.args.disk.now) (d.reads c.loop-walk.disk) c.args.number walk.number walk.file_length walk.gate walk.next (Ok c.in_ok-place.field-0)
    so_far.frame.told so_far.frame.seen so_far.gathers.number_is c.in_ok-place.ensures.told tells (so_far.size tells)) in
    rw is (records_wrong file walk place fault (so_far.told tells) head next c.in_err-_records.ensures.why
    (λ rs there. c.in_err-_records.ensures.only (subst IsTrue (sym frame.told) tells) rs (subst (λ (i : Image). IsChunk place (drop place.offset (bytes_at i c.args.number)) rs) (sym frame.seen) there)))

pub returns-in_err-_records-clause-frame : goal.returns-in_err-_records-clause-frame
returns-in_err-_records-clause-frame g c =
    let d = g.D.Disk in
    only_reads_join d g.met.D.Disk.since_earlier c.args.disk.now c.head.new.disk c.read_chunk.new.disk
    (only_reads_join d g.met.D.Disk.since_earlier c.args.disk.now c.loop-walk.disk c.head.new.disk c.loop-walk.invariant.frame c.head.ensures.frame) c.read_chunk.ensures.frame

pub returns-in_err-pass-clause-frame : goal.returns-in_err-pass-clause-frame
returns-in_err-pass-clause-frame g c =
    let d = g.D.Disk in
    only_reads_join d g.met.D.Disk.since_earlier c.args.disk.now c.head.new.disk c.read_chunk.new.disk
    (only_reads_join d g.met.D.Disk.since_earlier c.args.disk.now c.loop-walk.disk c.head.new.disk c.loop-walk.invariant.frame c.head.ensures.frame) c.read_chunk.ensures.frame

pub loop-walk-preserved : goal.loop-walk-preserved
loop-walk-preserved g c =
    let d = g.D.Disk in
    let walk = c.loop-walk.walk in
    let so_far = c.loop-walk.invariant in
    let place = c.in-Some.place in
    let file : File = (c.args.number, bytes_at (d.reads c.args.disk.now) c.args.number) in
    let next = subst (IsNextIfAny walk.file_length walk.gate walk.next) c.in-Some.is c.in_ok-place.ensures.next in
    let frame = only_reads_join d g.met.D.Disk.since_earlier c.args.disk.now c.loop-walk.disk c.head.new.disk so_far.frame c.head.ensures.frame in
    record {
      gathers = gathers_on c.args.number place walk c.pass.new.self c.in_ok-_records.ensures.meant.0 c.in_ok-_records._records.items so_far.gathers next c.in_ok-_records.ensures.meant.1 c.in_ok-pass.ensures;
      told = λ tells.
          let head = subst (λ (x : Option ChunkPlace). TellsHead walk.gate walk.next file.1 (Ok x)) c.in-Some.is
          (told_of_first (d.tells c.args.disk.now) (d.tells c.loop-walk.disk) (d.reads c.args.disk.now) (d.reads c.loop-walk.disk) c.args.number walk.number walk.file_length walk.gate walk.next (Ok c.in_ok-place.field-0)
          so_far.frame.told so_far.frame.seen so_far.gathers.number_is c.in_ok-place.ensures.told tells (so_far.size tells)) in
          reached_on file place walk c.pass.new.self c.in_ok-_records._records.items (so_far.told tells) head.0 next
          (subst (λ (i : Image). IsChunk place (drop place.offset (bytes_at i c.args.number)) c.in_ok-_records._records.items) frame.seen (c.in_ok-_records.ensures.found (subst IsTrue (sym frame.told) tells))) c.in_ok-pass.ensures;
      size = λ tells. c.in_ok-pass.ensures.length_is ∙ so_far.size tells;
      frame = only_reads_join d g.met.D.Disk.since_earlier c.args.disk.now c.head.new.disk c.read_chunk.new.disk frame c.read_chunk.ensures.frame;
      width = omega (arith, so_far.width, c.head.ensures.width, c.read_chunk.ensures.width);
      faults = c.in_ok-_records.ensures.cause ∙ c.in_ok-place.ensures.cause ∙ so_far.faults;
    }

pub returns-clause-told : goal.returns-clause-told
returns-clause-told g c tells =
    let d = g.D.Disk in
    let walk = c.loop-walk.walk in
    let so_far = c.loop-walk.invariant in
    let file : File = (c.args.number, bytes_at (d.reads c.args.disk.now) c.args.number) in
    let none : c.in_ok-place.field-0 ≡ None = grind (arith, common_steps) in
    let head = subst (λ (x : Option ChunkPlace). TellsHead walk.gate walk.next file.1 (Ok x)) none
    (told_of_first (d.tells c.args.disk.now) (d.tells c.loop-walk.disk) (d.reads c.args.disk.now) (d.reads c.loop-walk.disk) c.args.number walk.number walk.file_length walk.gate walk.next (Ok c.in_ok-place.field-0)
    so_far.frame.told so_far.frame.seen so_far.gathers.number_is c.in_ok-place.ensures.told tells (so_far.size tells)) in
    let ends : c.into_segment.result ≡ record { number = c.args.number; first = walk.first; «end» = walk.next; length = walk.gate + 1; chunks = walk.places.items } =
    c.into_segment.ensures ∙ ap (λ (n : ℕ). record { number = n; first = walk.first; «end» = walk.next; length = walk.gate + 1; chunks = walk.places.items }) so_far.gathers.number_is in
    reach_end file walk.first walk.places.items walk.gate walk.next c.into_segment.result (so_far.told tells) (shut_open (slice_index file.1 walk.gate) head)
    (g.met.D.Disk.numbered c.args.disk.now c.args.number tells (c.requires.there tells)) ends

pub returns-clause-meant : goal.returns-clause-meant
returns-clause-meant g c of_number = gathers_end c.args.number c.loop-walk.walk c.into_segment.result c.loop-walk.invariant.gathers c.into_segment.ensures of_number

pub returns-clause-frame : goal.returns-clause-frame
returns-clause-frame g c = only_reads_join g.D.Disk g.met.D.Disk.since_earlier c.args.disk.now c.loop-walk.disk c.head.new.disk c.loop-walk.invariant.frame c.head.ensures.frame
