use Rattle.std.proofs.Common.{arith, rules, ◌∙◌}
use Rattle.frs_text.specs.Rows.{row_line}
use Rattle.frs_text.proofs.GathersText.{piece_gathered, stopped_in_piece, adds_of_gathered, all_gathered}
use Rattle.frs_text.proofs.maps_text.write_entries.Goals as goal

pub returns-in_err-write_entry-clause-part : goal.returns-in_err-write_entry-clause-part
returns-in_err-write_entry-clause-part g c = λ told.
    stopped_in_piece row_line c.args.rows.now c.loop-row.row-index c.row-item.result _ _ _ _ _ (omega arith) c.row-item.is (c.loop-row.invariant.gathered told) (c.in_err-write_entry.ensures.part (c.loop-row.invariant.told ∙ told))

pub loop-row-preserved : goal.loop-row-preserved
loop-row-preserved g c = record {
  told = search rules;
  cause = search rules;
  gathered = λ told.
      piece_gathered row_line c.args.rows.now c.loop-row.row-index c.row-item.result _ _ _ _ _ _ (omega arith) c.row-item.is (c.loop-row.invariant.gathered told) (c.in_ok-write_entry.ensures.all (c.loop-row.invariant.told ∙ told));
}

pub returns-clause-part : goal.returns-clause-part
returns-clause-part g c = λ told. adds_of_gathered _ _ _ _ _ (all_gathered row_line c.args.rows.now c.loop-row.row-index _ _ _ _ (omega arith) (c.loop-row.invariant.gathered told))
