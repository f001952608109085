-- One lock more.
use Rattle.frs_types.specs.Locks.{Holders}
use Rattle.frs_locks.specs.Index.{IsIndexOf}
use Rattle.frs_locks.proofs.IndexAnswers.{if_err_all}
use Rattle.frs_locks.proofs.IndexChanges.{took_key, took_map, index_as, taken_by, copied_key}
use Rattle.frs_locks.proofs.index.take_lock.Goals as goal

pub returns-in_err-make_map-in-OnKey-clause-refused : goal.returns-in_err-make_map-in-OnKey-clause-refused
returns-in_err-make_map-in-OnKey-clause-refused c =
    let kept : (hs : Holders) → IsIndexOf c.args.maps.now hs → IsIndexOf c.make_map.new.maps hs = λ hs. index_as c.args.maps.now c.make_map.new.maps hs c.make_map.ensures.same in if_err_all _ (λ e. kept)

pub returns-in_err-make_map-in-OnMap-clause-refused : goal.returns-in_err-make_map-in-OnMap-clause-refused
returns-in_err-make_map-in-OnMap-clause-refused c =
    let kept : (hs : Holders) → IsIndexOf c.args.maps.now hs → IsIndexOf c.make_map-in-OnMap.new.maps hs = λ hs. index_as c.args.maps.now c.make_map-in-OnMap.new.maps hs c.make_map-in-OnMap.ensures.same in if_err_all _ (λ e. kept)

pub returns-in_err-take_key-in-OnKey-clause-refused : goal.returns-in_err-take_key-in-OnKey-clause-refused
returns-in_err-take_key-in-OnKey-clause-refused c =
    let kept : (hs : Holders) → IsIndexOf c.args.maps.now hs → IsIndexOf c.take_key.new.maps hs = λ hs index. index_as c.make_map.new.maps c.take_key.new.maps hs c.in_err-take_key-in-OnKey.ensures.refused
    (index_as c.args.maps.now c.make_map.new.maps hs c.make_map.ensures.same index) in if_err_all _ (λ e. kept)

pub returns-in_ok-make_map-in-OnMap-clause-taken : goal.returns-in_ok-make_map-in-OnMap-clause-taken
returns-in_ok-make_map-in-OnMap-clause-taken c = taken_by c.args.maps.now c.make_map-in-OnMap.new.maps c.take_map.new.maps c.args.client _ _ c.in-OnMap.is c.make_map-in-OnMap.ensures.same
    (took_map c.make_map-in-OnMap.new.maps c.take_map.new.maps c.args.client c.in-OnMap.id c.take_map.ensures.map c.take_map.ensures.key c.take_map.ensures.some_key)

pub returns-in_ok-take_key-in-OnKey-clause-taken : goal.returns-in_ok-take_key-in-OnKey-clause-taken
returns-in_ok-take_key-in-OnKey-clause-taken c = taken_by c.args.maps.now c.make_map.new.maps c.take_key.new.maps c.args.client _ _ (copied_key c.in-OnKey.id c.in-OnKey.key c.in_ok-key-in-OnKey.key _ c.in-OnKey.is c.in_ok-key-in-OnKey.ensures) c.make_map.ensures.same
    (took_key c.make_map.new.maps c.take_key.new.maps c.args.client c.in-OnKey.id c.in_ok-key-in-OnKey.key c.in_ok-take_key-in-OnKey.ensures.map c.in_ok-take_key-in-OnKey.ensures.key c.in_ok-take_key-in-OnKey.ensures.some_key)
