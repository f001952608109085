-- Whole where every client has finished.
use Rattle.std.proofs.Common.{◌≡◌, ◌+◌, ◌∙◌, List, length, sym, ap, subst, arith}
use Rattle.frs_history.specs.declared.command.Line.{Line}
use Rattle.frs_book.specs.declared.client_state.ClientState.{ClientState}
use Rattle.frs_book.specs.Books.{BookView, IsWhole}
use Rattle.frs_book.specs.Ledgers.{scripts_of, AreFinished}
use Rattle.frs_book.proofs.LedgerWhole.{count_is, whole_from, finished_from}
use Rattle.frs_book.proofs.book.Book.whole.Goals as goal

pub are_finished-requires : goal.are_finished-requires
are_finished-requires c =
    let a = c.self.inside.ledger in
    let scripts : length c.items.result.now ≡ length (scripts_of a) = ap length (c.items.ensures ∙ c.self.invariant.0) in
    let clients : length c.as_slice.result.now ≡ length (scripts_of a) + 1 = ap length c.as_slice.ensures.value ∙ count_is a c.self.invariant.1 in
    omega (arith, scripts, clients)

pub returns : goal.returns
returns c =
    let a = c.self.inside.ledger in
    let scripts = c.items.ensures ∙ c.self.invariant.0 in
    let clients = c.as_slice.ensures.value in (
      λ yes. subst (λ (b : BookView). IsWhole b) c.self.view_is
          (whole_from a c.self.invariant.1 (subst (λ (ks : List ClientState). AreFinished (scripts_of a) ks) clients
          (subst (λ (ss : List (List Line)). AreFinished ss c.as_slice.result.now) scripts (c.are_finished.ensures.0 yes)))),
      λ whole. c.are_finished.ensures.1
          (subst (λ (ss : List (List Line)). AreFinished ss c.as_slice.result.now) (sym scripts)
          (subst (λ (ks : List ClientState). AreFinished (scripts_of a) ks) (sym clients)
          (finished_from a c.self.invariant.1 (subst (λ (b : BookView). IsWhole b) (sym c.self.view_is) whole)))),
    )
