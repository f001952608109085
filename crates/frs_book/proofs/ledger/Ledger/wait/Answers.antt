-- The wait is noted once, and a ring is a deadlock.
use Rattle.std.proofs.Common.{◌≡◌, [], ◌∷◌, ◌++◌, ◌∙◌, Some, refl, sym, ap, subst, inl}
use Rattle.frs_types.specs.Locks.{Holders}
use Rattle.frs_locks.specs.declared.want.Want.TheVariants as want
use Rattle.frs_locks.specs.Answers.{IsAnswer}
use Rattle.frs_history.specs.Machine.{Client, client, lock_needed}
use Rattle.frs_book.specs.declared.ledger.Ledger.{Ledger}
use Rattle.frs_book.specs.declared.step.Step.TheVariants as step
use Rattle.frs_book.specs.Ledgers.{machine_state, TakesStep}
use Rattle.frs_book.proofs.NextEvents.{wait_event}
use Rattle.frs_book.proofs.LedgerGoesOn.{client_is}
use Rattle.frs_book.proofs.PreparedDraws.{no_memory, holder_is_there}
use Rattle.frs_book.proofs.WaitSteps.{none_told, wait_step, ring_turn, ring_closes, ring_prepared, ring_step}
use Rattle.frs_book.proofs.ledger.Ledger.wait.Goals as goal

pub waiting-requires : goal.waiting-requires
waiting-requires c = holder_is_there c.args.self.now c.args.client c.requires.turn.turn

pub want-requires-clause-client : goal.want-requires-clause-client
want-requires-clause-client c = holder_is_there c.args.self.now c.args.client c.requires.turn.turn

pub returns-then-is_err : goal.returns-then-is_err
returns-then-is_err c = let old = c.args.self.now in
    no_memory old c.args.client c.args.line.now c.requires.turn c.reserve.new.self old.drawer c.reserve.ensures.events (inl refl) c.args.framed.now

pub returns-in-Ok-Waits : goal.returns-in-Ok-Waits
returns-in-Ok-Waits c =
    let old = c.args.self.now in
    let its = c.args.client in
    let line = c.args.line.now in
    let lock = c.args.lock.now in
    let new = c.note_wait.new.self in
    let note = c.note_wait.ensures in
    let needs : lock_needed (client (machine_state old) its).tx line.command ≡ Some lock =
    ap (λ (k : Client). lock_needed k.tx line.command) (client_is old c.requires.turn.turn.kept its) ∙ c.requires.lock in
    let told : IsAnswer old.locks its lock (want.Waits c.in-Ok-Waits.holder) c.want.new.self =
    subst (λ w. IsAnswer old.locks its lock w c.want.new.self) c.in-Ok-Waits.field-0-is c.in-Ok-Waits.ensures.answer in
    let locks : new.locks ≡ c.want.new.self = ap (λ (a : Ledger). a.locks) note.same in
    wait_step old its line c.requires.turn lock needs c.in-Ok-Waits.holder told.0 told.1 new
    (note.same ∙ λ i. record old { history = new.history; locks = (sym locks) i })
    (locks ∙ told.2) c.is_none-first.result
    (none_told c.waiting.result _ c.is_none-first.result c.is_none-first.ensures c.waiting.ensures)
    (λ first. note.noted first ∙ ap (λ es. es ++ wait_event its line ∷ []) c.reserve.ensures.events)
    (λ quiet. note.kept quiet ∙ c.reserve.ensures.events) c.args.framed.now

pub deadlock-requires-clause-turn : goal.deadlock-requires-clause-turn
deadlock-requires-clause-turn c =
    let old = c.args.self.now in
    let its = c.args.client in
    let line = c.args.line.now in
    let lock = c.args.lock.now in
    let needs : lock_needed (client (machine_state old) its).tx line.command ≡ Some lock =
    ap (λ (k : Client). lock_needed k.tx line.command) (client_is old c.requires.turn.turn.kept its) ∙ c.requires.lock in
    let told : IsAnswer old.locks its lock (want.Ring c.in-Ok-Ring.field-0-0) c.want.new.self =
    subst (λ w. IsAnswer old.locks its lock w c.want.new.self) c.in-Ok-Ring.field-0-is c.in-Ok-Ring.ensures.answer in
    ring_turn old its line c.requires.turn lock needs c.reserve.new.self c.want.new.self c.reserve.ensures.events told.2

pub deadlock-requires-clause-closes : goal.deadlock-requires-clause-closes
deadlock-requires-clause-closes c =
    let old = c.args.self.now in
    let its = c.args.client in
    let line = c.args.line.now in
    let lock = c.args.lock.now in
    let needs : lock_needed (client (machine_state old) its).tx line.command ≡ Some lock =
    ap (λ (k : Client). lock_needed k.tx line.command) (client_is old c.requires.turn.turn.kept its) ∙ c.requires.lock in
    let told : IsAnswer old.locks its lock (want.Ring c.in-Ok-Ring.field-0-0) c.want.new.self =
    subst (λ w. IsAnswer old.locks its lock w c.want.new.self) c.in-Ok-Ring.field-0-is c.in-Ok-Ring.ensures.answer in
    ring_closes old its line c.requires.turn lock needs c.reserve.new.self c.want.new.self c.reserve.ensures.events told.2
    c.in-Ok-Ring.field-0-0 told.0 told.1

pub deadlock-requires-clause-framed : goal.deadlock-requires-clause-framed
deadlock-requires-clause-framed c =
    let old = c.args.self.now in
    let its = c.args.client in
    let line = c.args.line.now in
    let lock = c.args.lock.now in
    let needs : lock_needed (client (machine_state old) its).tx line.command ≡ Some lock =
    ap (λ (k : Client). lock_needed k.tx line.command) (client_is old c.requires.turn.turn.kept its) ∙ c.requires.lock in
    let told : IsAnswer old.locks its lock (want.Ring c.in-Ok-Ring.field-0-0) c.want.new.self =
    subst (λ w. IsAnswer old.locks its lock w c.want.new.self) c.in-Ok-Ring.field-0-is c.in-Ok-Ring.ensures.answer in
    ring_prepared old its line c.requires.turn lock needs c.reserve.new.self c.want.new.self c.reserve.ensures.events told.2
    c.args.framed.now c.requires.framed

pub returns-in-Ok-Ring : goal.returns-in-Ok-Ring
returns-in-Ok-Ring c =
    let old = c.args.self.now in
    let its = c.args.client in
    let line = c.args.line.now in
    let lock = c.args.lock.now in
    let needs : lock_needed (client (machine_state old) its).tx line.command ≡ Some lock =
    ap (λ (k : Client). lock_needed k.tx line.command) (client_is old c.requires.turn.turn.kept its) ∙ c.requires.lock in
    let told : IsAnswer old.locks its lock (want.Ring c.in-Ok-Ring.field-0-0) c.want.new.self =
    subst (λ w. IsAnswer old.locks its lock w c.want.new.self) c.in-Ok-Ring.field-0-is c.in-Ok-Ring.ensures.answer in
    ring_step old its line c.requires.turn lock needs c.reserve.new.self c.want.new.self c.reserve.ensures.events told.2
    c.deadlock.new.self c.deadlock.result c.args.framed.now c.deadlock.new.framed c.deadlock.ensures

pub unreachable-requires : goal.unreachable-requires
unreachable-requires c =
    let told : IsAnswer c.args.self.now.locks c.args.client c.args.lock.now want.Held c.want.new.self =
    subst (λ w. IsAnswer c.args.self.now.locks c.args.client c.args.lock.now w c.want.new.self) c.in-Ok-Held.field-0-is c.in-Ok-Held.ensures.answer in
    c.requires.hindered told.0

pub returns-in-Err : goal.returns-in-Err
returns-in-Err c =
    let old = c.args.self.now in
    subst (λ (hs : Holders). TakesStep old c.args.client c.args.framed.now step.Memory (record old { history = c.reserve.new.self; locks = hs }) c.args.framed.now)
    (sym c.in-Err.ensures.refused)
    (no_memory old c.args.client c.args.line.now c.requires.turn c.reserve.new.self old.drawer c.reserve.ensures.events (inl refl) c.args.framed.now)
