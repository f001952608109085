use Rattle.std.proofs.Common.{◌∙◌, sym, subst, arith}
use Rattle.std.specs.Prelude.{IfOk, IfErr}
use Rattle.frs_store.specs.declared.stop.StartFault.{StartFault}
use Rattle.frs_store.specs.declared.stop.StartFault.TheVariants.{LogFull}
use Rattle.frs_store.specs.Start.{IsOpened, IsUnopened, IsFoundOn}
use Rattle.frs_store.proofs.RefusedStart.{none_removed_still, read_unopened, not_recovered}
use Rattle.frs_store.proofs.start.open_store.Goals as goal

pub go_on-requires-clause-found : goal.go_on-requires-clause-found
go_on-requires-clause-found g c =
    let found : IsFoundOn g.D.Disk c.args.disk c.recover.new.disk c.in-Ok.recovered = record {
      looked = c.recover.ensures.frame;
      faults = c.in-Ok.ensures.cause;
      range = c.in-Ok.ensures.in_range;
      below = omega (arith, c.in-Ok.ensures.in_range.next.1, c.if-next-eq-NUMBER_LIMIT.false);
      found = c.in-Ok.ensures.found;
      state = c.in-Ok.ensures.state;
    } in
    subst (λ d. IsFoundOn g.D.Disk d c.recover.new.disk c.in-Ok.recovered) (sym c.of-begun.ensures) found

pub go_on-requires-clause-pending : goal.go_on-requires-clause-pending
go_on-requires-clause-pending g c = none_removed_still g.D.Disk c.args.disk c.recover.new.disk c.recover.ensures.frame c.requires

pub returns-then-next-eq-NUMBER_LIMIT-clause-refused : goal.returns-then-next-eq-NUMBER_LIMIT-clause-refused
returns-then-next-eq-NUMBER_LIMIT-clause-refused g c =
    read_unopened g.D.Disk c.args.disk c.recover.new.disk c.recover.ensures.frame (LogFull c.in-Ok.recovered.found.next) (
      c.in-Ok.ensures.cause,
      c.recover.ensures.frame,
      c.if-next-eq-NUMBER_LIMIT.true,
      λ told.
          let found = c.in-Ok.ensures.found told in
          (found.1, (found.0, found.2.found.spelled), sym found.2.found.next_is ∙ c.if-next-eq-NUMBER_LIMIT.true),
    )

pub returns-in-Err-clause-refused : goal.returns-in-Err-clause-refused
returns-in-Err-clause-refused g c =
    subst (λ (f : StartFault). IsUnopened g.D.Disk c.args.disk (record { disk = c.recover.new.disk; fault = f })) (sym c.from.ensures)
    (not_recovered g.D.Disk c.args.disk c.recover.new.disk c.recover.ensures.frame c.in-Err.fault c.in-Err.ensures.cause c.in-Err.ensures.why)

pub returns-else-next-eq-NUMBER_LIMIT-clause-opened : goal.returns-else-next-eq-NUMBER_LIMIT-clause-opened
returns-else-next-eq-NUMBER_LIMIT-clause-opened g c =
    subst (λ d. IfOk c.go_on.result (IsOpened g.D.Disk d c.args.script)) c.of-begun.ensures c.go_on.ensures.opened

pub returns-else-next-eq-NUMBER_LIMIT-clause-refused : goal.returns-else-next-eq-NUMBER_LIMIT-clause-refused
returns-else-next-eq-NUMBER_LIMIT-clause-refused g c = subst (λ d. IfErr c.go_on.result (IsUnopened g.D.Disk d)) c.of-begun.ensures c.go_on.ensures.refused
