use Rattle.std.proofs.Common.{◌≡◌, ◌∙◌, ◌<◌, ℕ, List, Ok, Err, take, sym, ap, subst, IsTrue}
use Rattle.std.proofs.lemmas.Result.{err_from_is_err_and}
use Rattle.std.specs.Prelude.{All}
use Rattle.frs_disk.specs.Disk.{Image, bytes_at}
use Rattle.frs_segment.specs.declared.walk.Walk.{Walk}
use Rattle.frs_segment.specs.Scanning.{header_of}
use Rattle.frs_segment.proofs.HeaderOf.{header_alike}
use Rattle.frs_segment.proofs.TellsHead.{header_refused, text_cause}
use Rattle.frs_segment.proofs.walk.Walk.begin.Goals as goal

pub returns-in_err-first-clause-told : goal.returns-in_err-first-clause-told
returns-in_err-first-clause-told g c told =
    let p = err_from_is_err_and c.from_residual-in_err-first.result c.from_residual-in_err-first.ensures.1 in
    let bytes = bytes_at (g.D.Disk.reads c.args.disk.now) c.args.number in
    let front : c.as_slice.result.now ≡ take 23 bytes = c.as_slice.ensures.value ∙ c.in_ok-front.ensures.bytes (subst IsTrue (sym c.in_ok-file_length.ensures.told) told) ∙ ap (λ (image : Image). take 23 (bytes_at image c.args.number)) c.in_ok-file_length.ensures.seen in
    let is : header_of (c.args.number, bytes) ≡ Err c.in_err-first.field-0.0 = sym (header_alike c.args.number bytes) ∙ ap (λ (x : List ℕ). header_of (c.args.number, x)) (sym front) ∙ sym c.in_err-first.ensures.told in
    rw (p.1, p.2) (header_refused (c.args.number, bytes) c.in_err-first.field-0.0 is)

pub returns-in_err-first-clause-cause : goal.returns-in_err-first-clause-cause
returns-in_err-first-clause-cause g c =
    let p = err_from_is_err_and c.from_residual-in_err-first.result c.from_residual-in_err-first.ensures.1 in
    rw (p.1, p.2) (text_cause {A = Walk} _ _ (Err c.in_err-first.field-0.0) (c.in_ok-front.ensures.cause ∙ c.in_ok-file_length.ensures.cause) c.in_err-first.ensures.of_text)

pub returns-clause-told : goal.returns-clause-told
returns-clause-told g c told =
    let bytes = bytes_at (g.D.Disk.reads c.args.disk.now) c.args.number in
    let front : c.as_slice.result.now ≡ take 23 bytes = c.as_slice.ensures.value ∙ c.in_ok-front.ensures.bytes (subst IsTrue (sym c.in_ok-file_length.ensures.told) told) ∙ ap (λ (image : Image). take 23 (bytes_at image c.args.number)) c.in_ok-file_length.ensures.seen in (
      sym (header_alike c.args.number bytes) ∙ ap (λ (x : List ℕ). header_of (c.args.number, x)) (sym front) ∙ sym c.in_ok-first.ensures.told,
      subst (All (λ b. b < 256)) front c.in_ok-first.ensures.bytes,
      c.in_ok-file_length.ensures.length told,
    )
