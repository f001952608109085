-- The least begin, or an entry below it.
use Rattle.std.proofs.Common.{◌≡◌, ◌∙◌, List, Some, None, sym, ap, subst}
use Rattle.frs_slots.specs.Views.{next_drawn}
use Rattle.frs_objects.specs.Objects.{least_lsn}
use Rattle.frs_book.specs.declared.client_state.ClientState.{ClientState}
use Rattle.frs_book.specs.Ledgers.{IsLeastBegin}
use Rattle.frs_book.proofs.LedgerLowest.{lesser, lowest_by}
use Rattle.frs_book.proofs.ledger.Ledger.lowest.Goals as goal

pub returns-in-Some : goal.returns-in-Some
returns-in-Some c =
    let a = c.args.self.now in
    let l = c.least_begin-least.result in
    let is : IsLeastBegin a.clients.items (next_drawn a.drawer) l =
    subst (λ (ks : List ClientState). IsLeastBegin ks (next_drawn a.drawer) l) c.as_slice.ensures.value
    (subst (λ n. IsLeastBegin c.as_slice.result.now n l) c.next.ensures.next c.least_begin-least.ensures) in
    let least : least_lsn a.objects ≡ Some c.in-Some.lsn = sym c.lowest.ensures ∙ c.in-Some.is in
    c.min.ensures ∙ ap (λ o. lesser o l) (sym least) ∙ lowest_by a c.requires l is

pub returns-in-None : goal.returns-in-None
returns-in-None c =
    let a = c.args.self.now in
    let l = c.least_begin-least.result in
    let is : IsLeastBegin a.clients.items (next_drawn a.drawer) l =
    subst (λ (ks : List ClientState). IsLeastBegin ks (next_drawn a.drawer) l) c.as_slice.ensures.value
    (subst (λ n. IsLeastBegin c.as_slice.result.now n l) c.next.ensures.next c.least_begin-least.ensures) in
    let least : least_lsn a.objects ≡ None = sym c.lowest.ensures ∙ c.in-None.is in
    ap (λ o. lesser o l) (sym least) ∙ lowest_by a c.requires l is
