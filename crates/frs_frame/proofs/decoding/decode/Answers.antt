use Rattle.std.proofs.Common.{subst, arith}
use Rattle.frs_frame.specs.Decoding.{GivesDecoded}
use Rattle.frs_frame.proofs.DecodingOf.{is_found, decoded_again}
use Rattle.frs_frame.proofs.decoding.decode.Goals as goal

pub returns-clause-found : goal.returns-clause-found
returns-clause-found c = is_found c.args.bytes.now c.record_at_front.result (λ i. omega (arith, c.type_inv.bytes i)) c.record_at_front.ensures

pub returns-clause-only : goal.returns-clause-only
returns-clause-only c = λ r rest fits well e. subst (λ read. GivesDecoded (λ x. x) c.record_at_front.result read) (decoded_again c.args.bytes.now r rest fits well e) c.record_at_front.ensures
