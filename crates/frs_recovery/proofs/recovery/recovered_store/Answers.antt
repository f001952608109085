use Rattle.std.proofs.Common.{ℕ, ◌++◌, Option, Vec, Global, reverse, sym, ap, subst, ◌∙◌}
use Rattle.std.specs.Prelude.{filter, unwrap_or}
use Rattle.std.proofs.Math.Dec.{ltb}
use Rattle.frs_types.specs.Survivors.{committed_records, survivors_of, open_begins, least}
use Rattle.frs_segment.specs.declared.layout.Segment.{Segment}
use Rattle.frs_recovery.specs.declared.backward_reader.BackwardReader.{BackwardReader}
use Rattle.frs_recovery.specs.Answers.{lsns_of}
use Rattle.frs_recovery.specs.OfferedRecords.{offered_records, HasRead}
use Rattle.frs_recovery.specs.DescentEnd.{end_of_newest, least_number}
use Rattle.frs_recovery.proofs.RecoveredStore.{IsReadOff, found_is, in_range_is}
use Rattle.frs_recovery.proofs.recovery.recovered_store.Goals as goal

read_off : (c : goal.After-found_files) → IsReadOff c.args.descent c.args.numbers.items (record { entries = c.of.result; found = c.found_files.result; lowest = c.into_survivors-entries.result.1 })
read_off c =
    let parts = c.into_parts-segments.ensures in
    record {
      segments = c.found_files.ensures.segments ∙ ap (λ (x : Vec Segment Global). reverse x.items) parts.0;
      half = c.found_files.ensures.half ∙ ap (λ (x : Vec Segment Global). filter (ltb (least_number x.items)) (reverse c.into_parts-segments.result.1.items)) parts.0
          ∙ ap (λ (x : Vec ℕ Global). filter (ltb (least_number c.args.descent.segments.items)) (reverse x.items)) parts.1;
      older = c.found_files.ensures.older ∙ ap (λ (x : Vec Segment Global). filter (λ n. ltb n (least_number x.items)) c.args.numbers.items) parts.0;
      greatest = c.found_files.ensures.greatest;
      next = c.found_files.ensures.next ∙ c.next_of-next.ensures ∙ ap end_of_newest (c.as_slice.ensures.value ∙ ap (λ (x : Vec Segment Global). x.items) parts.0);
      named = c.found_files.ensures.named ∙ c.unwrap_or-named.ensures ∙ ap (λ (o : Option ℕ). unwrap_or o 1) (c.named.ensures ∙ ap (λ (b : BackwardReader). b.named) parts.2);
      entries = λ first rs read. c.of.ensures ∙ c.into_survivors-entries.ensures.entries first rs (subst (λ (b : BackwardReader). HasRead b first rs) (sym parts.2) read);
      lowest = λ first rs read. c.into_survivors-entries.ensures.lowest first rs (subst (λ (b : BackwardReader). HasRead b first rs) (sym parts.2) read)
          ∙ ap (λ (n : ℕ). least n (lsns_of (survivors_of (committed_records (offered_records first rs))) ++ open_begins (offered_records first rs))) (sym c.found_files.ensures.next);
    }

pub returns-clause-found : goal.returns-clause-found
returns-clause-found c tells image way told rising all = found_is tells image c.args.descent way c.args.numbers.items _ (read_off c) told rising c.requires.in_range all

pub returns-clause-in_range : goal.returns-clause-in_range
returns-clause-in_range c tells image way =
    in_range_is tells image c.args.descent way c.args.numbers.items _ (read_off c) c.survivors_in_order.ensures.places c.survivors_in_order.ensures.rising c.survivors_in_order.ensures.within c.requires.in_range
