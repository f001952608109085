-- By the client's place in its script.
use Rattle.std.proofs.Common.{◌≡◌, ◌+◌, ◌∙◌, length, sym, ap, subst, arith}
use Rattle.std.specs.Prelude.{slice_get}
use Rattle.frs_history.specs.Machine.{Client, next_line}
use Rattle.frs_book.specs.Books.{BookView, IsClientOf}
use Rattle.frs_book.specs.Ledgers.{scripts_of, client_in, script_at}
use Rattle.frs_book.proofs.LedgerGoesOn.{client_is}
use Rattle.frs_book.proofs.LedgerWhole.{count_is}
use Rattle.frs_book.proofs.book.Book.next_command.Goals as goal

pub next_of-requires : goal.next_of-requires
next_of-requires c =
    let a = c.self.inside.ledger in
    let is = subst (λ (b : BookView). IsClientOf b c.args.client) (sym c.self.view_is) c.requires in
    let scripts : length c.items.result.now ≡ length (scripts_of a) = ap length (c.items.ensures ∙ c.self.invariant.0) in
    let clients : length c.as_slice.result.now ≡ length (scripts_of a) + 1 = ap length c.as_slice.ensures.value ∙ count_is a c.self.invariant.1 in
    (is.0, omega (arith, is.1, scripts), omega (arith, is.1, clients))

pub returns : goal.returns
returns c =
    let a = c.self.inside.ledger in
    let its = c.args.client in
    c.next_of.ensures
    ∙ (λ i. slice_get (script_at ((c.items.ensures ∙ c.self.invariant.0) i) its) (client_in (c.as_slice.ensures.value i) its).done)
    ∙ ap (λ (k : Client). slice_get (script_at (scripts_of a) its) k.done) (sym (client_is a c.self.invariant.1 its))
    ∙ ap (λ (b : BookView). next_line b.session.scripts b.state its) c.self.view_is
