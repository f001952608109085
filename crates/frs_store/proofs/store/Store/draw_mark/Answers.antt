use Rattle.std.proofs.Common.{refl}
use Rattle.frs_store.proofs.StoreGoesOn.{with_book}
use Rattle.frs_store.proofs.ClosingMark.{later_by_mark, has_marked}
use Rattle.frs_store.proofs.store.Store.draw_mark.Goals as goal

pub returns-in-Done-clause-marked : goal.returns-in-Done-clause-marked
returns-in-Done-clause-marked g c =
    let old = c.args.self.now in
    has_marked old old (record old { book = c.mark.new.self }) c.in-Done.slip c.args.framed.now c.mark.new.framed refl refl refl
    c.requires.going.filled refl c.in-Done.ensures

pub returns-in-Done-mark-clause-session : goal.returns-in-Done-mark-clause-session
returns-in-Done-mark-clause-session g c =
    let mid = c.make_room.new.self in
    with_book g.D.Disk mid c.make_room.ensures.session c.mark-2.new.self
    (later_by_mark mid.book c.in-Done-mark.slip c.mark-2.new.self c.mark.new.framed c.mark-2.new.framed c.in-Done-mark.ensures)
