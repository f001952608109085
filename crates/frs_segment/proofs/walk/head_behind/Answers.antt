use Rattle.std.proofs.Common.{◌≡◌, ◌∙◌, ◌+◌, ◌-◌, ◌<◌, ℕ, List, Ok, Err, get_or, length, take, drop, sym, ap, subst, arith}
use Rattle.std.proofs.lemmas.List.{length-drop, take_rest}
use Rattle.std.proofs.lemmas.List.Elements.{All-from_get_or}
use Rattle.std.proofs.lemmas.Grind.{common_steps}
use Rattle.std.proofs.lemmas.Result.{err_from_is_err_and}
use Rattle.std.specs.Prelude.{All}
use Rattle.frs_segment.specs.Scanning.{head_of}
use Rattle.frs_segment.proofs.TellsHead.{head_refused, gate_read, behind_read}
use Rattle.frs_segment.proofs.walk.head_behind.Goals as goal

pub returns-in_err-place-clause-told : goal.returns-in_err-place-clause-told
returns-in_err-place-clause-told c text is long =
    let p = err_from_is_err_and c.from_residual.result c.from_residual.ensures.1 in
    let gate : get_or c.args.front.now 0 0 ≡ 1 = grind (arith, common_steps) in
    let size : c.saturating_sub-behind.result ≡ length (drop (c.args.gate + 1) text) = omega (arith, c.saturating_sub-behind.ensures, long, length-drop (c.args.gate + 1) text) in
    let told = c.in_err-place.ensures.told (drop (c.args.gate + 1) text) (ap (take 16) (take_rest c.args.front.now 1) ∙ behind_read c.args.gate text c.args.front.now is) size in
    rw (p.1, p.2) (head_refused c.args.gate c.args.next text c.in_err-place.field-0.0 (gate_read c.args.gate text c.args.front.now is gate) (sym told))

pub returns-clause-told : goal.returns-clause-told
returns-clause-told c text is long =
    let gate : get_or c.args.front.now 0 0 ≡ 1 = grind (arith, common_steps) in
    let size : c.saturating_sub-behind.result ≡ length (drop (c.args.gate + 1) text) = omega (arith, c.saturating_sub-behind.ensures, long, length-drop (c.args.gate + 1) text) in
    let told = c.in_ok-place.ensures.told (drop (c.args.gate + 1) text) (ap (take 16) (take_rest c.args.front.now 1) ∙ behind_read c.args.gate text c.args.front.now is) size in (
      gate_read c.args.gate text c.args.front.now is gate,
      sym told,
      subst (All (λ b. b < 256)) is (All-from_get_or (λ b. b < 256) c.args.front.now 0 (λ i lt. omega (arith, c.type_inv.front i))),
    )
