-- The ledger's step, of the client's next line.
use Rattle.std.proofs.Common.{◌≡◌, ◌+◌, ◌∙◌, length, sym, ap, subst, arith}
use Rattle.std.specs.Prelude.{slice_get}
use Rattle.frs_history.specs.Machine.{Client}
use Rattle.frs_book.specs.declared.ledger.Opening.{Opening}
use Rattle.frs_book.specs.Books.{BookView, IsClientOf, IsPrepared, StepAnswers}
use Rattle.frs_book.specs.Ledgers.{book_of, scripts_of, client_in, script_at}
use Rattle.frs_book.proofs.LedgerGoesOn.{client_is}
use Rattle.frs_book.proofs.LedgerWhole.{count_is}
use Rattle.frs_book.proofs.book.Book.step.Goals as goal

pub next_of-line-requires : goal.next_of-line-requires
next_of-line-requires c =
    let a = c.self.inside.ledger in
    let is = subst (λ (b : BookView). IsClientOf b c.args.client) (sym c.self.view_is) c.requires.client in
    let scripts : length c.items.result.now ≡ length (scripts_of a) = ap length (c.items.ensures ∙ c.self.invariant.0) in
    let clients : length c.as_slice.result.now ≡ length (scripts_of a) + 1 = ap length c.as_slice.ensures.value ∙ count_is a c.self.invariant.1 in
    (is.0, omega (arith, is.1, scripts), omega (arith, is.1, clients))

pub step-requires-clause-turn : goal.step-requires-clause-turn
step-requires-clause-turn c =
    let is = subst (λ (b : BookView). IsClientOf b c.args.client) (sym c.self.view_is) c.requires.client in
    record { kept = c.self.invariant.1; some = is.0; most = is.1 }

pub step-requires-clause-line : goal.step-requires-clause-line
step-requires-clause-line c =
    let a = c.self.inside.ledger in
    let its = c.args.client in
    c.next_of-line.ensures
    ∙ (λ i. slice_get (script_at ((c.items.ensures ∙ c.self.invariant.0) i) its) (client_in (c.as_slice.ensures.value i) its).done)
    ∙ ap (λ (k : Client). slice_get (script_at (scripts_of a) its) k.done) (sym (client_is a c.self.invariant.1 its))

pub step-requires-clause-framed : goal.step-requires-clause-framed
step-requires-clause-framed c = subst (λ (b : BookView). IsPrepared b c.args.client c.args.framed.now) (sym c.self.view_is) c.requires.framed

pub invariant_of-self : goal.invariant_of-self
invariant_of-self c = (
  c.self.invariant.0 ∙ sym (ap (λ (o : Opening). o.scripts.value) c.step.ensures.opening),
  c.step.ensures.kept,
)

pub returns : goal.returns
returns c =
    subst (λ (b : BookView). StepAnswers b c.args.client c.args.framed.now c.step.result (book_of c.step.new.self) c.step.new.framed) c.self.view_is
    c.step.ensures.answers
