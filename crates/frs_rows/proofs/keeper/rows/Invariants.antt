use Rattle.std.proofs.Common.{◌≡◌, ◌≤◌, ◌-◌, replicate}
use Rattle.frs_rows.specs.Seats.{keeper_seat}
use Rattle.frs_rows.specs.Rows.{first_holds}
use Rattle.frs_rows.proofs.FirstHolds.{part}
use Rattle.frs_rows.proofs.keeper.rows.Given as goal

abbrev pub invariant-loop-count : goal.invariant-loop-count
invariant-loop-count l = (l.count ≤ l.initial.clients) × (l.seat.table_id ≡ l.table.shared.table_id) × (l.seat.me.0 ≡ keeper_seat (part (replicate l.initial.width 0) l.count (l.initial.clients - l.count)) l.count) × (l.holds.items ≡ first_holds l.table.shared.table_id (replicate l.initial.width 0) l.count)

abbrev pub decreases-loop-count : goal.decreases-loop-count
decreases-loop-count l = l.initial.clients - l.count
