-- Begin by begin.
use Rattle.std.proofs.Common.{◌≡◌, inl, ⊎_elim, ℕ, ◌<◌, ◌≤◌, refl, ap, ◌∙◌, arith}
use Rattle.std.proofs.lemmas.Bool.{cases_lt}
use Rattle.std.proofs.lemmas.List.{get_or_past}
use Rattle.frs_book.specs.declared.client_state.ClientState.{ClientState}
use Rattle.frs_book.specs.Ledgers.{new_client, client_in, begin_lsn}
use Rattle.frs_book.proofs.LedgerLowest.{each_more, one_more}
use Rattle.frs_book.proofs.PreparedDraws.{client_read}
use Rattle.frs_book.proofs.ledger.least_begin.Goals as goal

pub loop-client-init : goal.loop-client-init
loop-client-init c = record {
  most = omega arith;
  each = λ k lt some. absurd (omega (arith, lt));
  one = inl refl;
}

pub loop-client-preserved : goal.loop-client-preserved
loop-client-preserved c =
    let ks = c.args.clients.now in
    let i = c.loop-client.client-index in
    let was = c.loop-client.invariant in
    let is = c.lesser_of-least.ensures in
    let here : c.begin.result ≡ begin_lsn (client_in ks i).tx =
    c.begin.ensures ∙ ap (λ (k : ClientState). begin_lsn k.tx) (client_read ks i c.client-item.result c.loop-client-test.true c.client-item.is) in
    record {
      most = omega (arith, was.most, is.most);
      each = each_more (λ (k : ℕ). begin_lsn (client_in ks k).tx) i c.loop-client.least c.begin.result c.lesser_of-least.result was.each is here;
      one = one_more (λ (k : ℕ). begin_lsn (client_in ks k).tx) i c.args.next c.loop-client.least c.begin.result c.lesser_of-least.result was.one is here;
    }

pub returns : goal.returns
returns c =
    let ks = c.args.clients.now in
    let was = c.loop-client.invariant in
    record {
      most = was.most;
      each = λ k some. ⊎_elim
          (λ (lt : k < c.loop-client.client-index). was.each k lt some)
          (λ (le : c.loop-client.client-index ≤ k).
          let none : begin_lsn (client_in ks k).tx ≡ 0 =
          ap (λ (j : ClientState). begin_lsn j.tx) (get_or_past ks k new_client (omega (arith, le, c.loop-client-test.false))) in
          absurd (omega (arith, none, some)))
          (cases_lt k c.loop-client.client-index);
      one = was.one;
    }
