-- Client by client.
use Rattle.std.proofs.Common.{◌≡◌, ⊎_elim, ◌-◌, ◌<◌, ◌≤◌, true, false, length, sym, refl, ◌∙◌, subst, arith, true≢false}
use Rattle.std.proofs.lemmas.Bool.{cases_lt}
use Rattle.frs_book.specs.Ledgers.{client_in, script_at, has_finished}
use Rattle.frs_book.proofs.PreparedDraws.{client_read, script_read}
use Rattle.frs_book.proofs.ledger.are_finished.Goals as goal

pub returns-then-not-is_finished : goal.returns-then-not-is_finished
returns-then-not-is_finished c =
    let k = c.loop-client.client in
    let ks = c.args.clients.now in
    let ss = c.args.scripts.now in
    let some : 1 ≤ k = omega arith in
    let within : k < length ks = omega arith in
    let below : k - 1 < length ss = omega arith in
    let script = script_read ss k c.index-scripts-client.result some below c.index-scripts-client.is in
    let client = client_read ks k c.index-clients-client.result within c.index-clients-client.is in
    let is : false ≡ has_finished (script_at ss k) (client_in ks k) =
    sym c.if-not-is_finished.true ∙ c.is_finished.ensures ∙ (λ i. has_finished (script i) (client i)) in
    (λ same. absurd (true≢false (sym same)), λ all. absurd (true≢false (sym (all k some within) ∙ sym is)))

pub loop-client-preserved : goal.loop-client-preserved
loop-client-preserved c =
    let n = c.loop-client.client in
    let ks = c.args.clients.now in
    let ss = c.args.scripts.now in
    let first : 1 ≤ n = omega arith in
    let within : n < length ks = omega arith in
    let below : n - 1 < length ss = omega arith in
    let script = script_read ss n c.index-scripts-client.result first below c.index-scripts-client.is in
    let client = client_read ks n c.index-clients-client.result within c.index-clients-client.is in
    let is : true ≡ has_finished (script_at ss n) (client_in ks n) =
    sym c.if-not-is_finished.false ∙ c.is_finished.ensures ∙ (λ i. has_finished (script i) (client i)) in
    λ k some less. ⊎_elim
    (λ (earlier : k < n). c.loop-client.invariant k some earlier)
    (λ (late : n ≤ k).
    let same : k ≡ n = omega (arith, late, less) in
    subst (λ m. has_finished (script_at ss m) (client_in ks m) ≡ true) (sym same) (sym is))
    (cases_lt k n)

pub returns : goal.returns
returns c = (
  λ _. λ k some less. c.loop-client.invariant k some (omega (arith, less, c.loop-client-test.false)),
  λ _. refl,
)
