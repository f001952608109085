-- One lock less.
use Rattle.std.proofs.Common.{sym, subst}
use Rattle.frs_locks.proofs.IndexChanges.{gave_key, gave_map, IsGiven}
use Rattle.frs_locks.proofs.index.drop_lock.Goals as goal

pub returns-in-OnKey : goal.returns-in-OnKey
returns-in-OnKey c = subst (IsGiven c.args.maps.now c.drop_key.new.maps c.args.client) (sym c.in-OnKey.is)
    (gave_key c.args.maps.now c.drop_key.new.maps c.args.client c.in-OnKey.id c.in-OnKey.key c.drop_key.ensures.map c.drop_key.ensures.key c.drop_key.ensures.some_key)

pub returns-in-OnMap : goal.returns-in-OnMap
returns-in-OnMap c = subst (IsGiven c.args.maps.now c.drop_map.new.maps c.args.client) (sym c.in-OnMap.is)
    (gave_map c.args.maps.now c.drop_map.new.maps c.args.client c.in-OnMap.id c.drop_map.ensures.map c.drop_map.ensures.key c.drop_map.ensures.some_key)
