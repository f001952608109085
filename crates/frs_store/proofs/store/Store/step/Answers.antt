use Rattle.std.proofs.Common.{◌∙◌, ap, refl, subst, arith, length}
use Rattle.frs_slots.specs.Views.{DrawerView}
use Rattle.frs_book.specs.Books.{BookView, StepAnswers}
use Rattle.frs_store.proofs.StoreGoesOn.{with_book, later_by_step, looked_book, room_found, not_no_room, same_start_none}
use Rattle.frs_store.proofs.store.Store.step.Goals as goal

pub returns-in_default : goal.returns-in_default
returns-in_default g c =
    let d = g.D.Disk in
    let s = c.args.self.now in
    let going = c.requires.going in
    record {
      stepped = record {
        free = s.book;
        free_is = refl;
        drawn = (refl, refl);
        answers = c.step.ensures;
        room = not_no_room c.step.result c.in_default.not-NoRoom;
        session = with_book d s going.session c.step.new.self
            (later_by_step s.book c.args.client c.args.framed.now c.step.result c.step.new.self c.step.new.framed c.step.ensures);
        filled = record { filled = going.filled.filled; going = going.filled.going };
        faults = refl;
      };
      refused = tt;
      same = same_start_none d s (record { journal = s.journal; book = c.step.new.self }) refl;
      cause = refl;
    }

pub make_room-requires : goal.make_room-requires
make_room-requires g c =
    let d = g.D.Disk in
    let s = c.args.self.now in
    let going = c.requires.going in
    let looked = c.in-NoRoom.ensures.6 in
    record {
      going = record {
        session = with_book d s going.session c.step.new.self
            (later_by_step s.book c.args.client c.args.framed.now c.step.result c.step.new.self c.step.new.framed c.step.ensures);
        filled = record {
          filled = omega (arith, going.filled.filled, ap (λ (e : DrawerView). length e.drawn) looked.same);
          going = going.filled.going;
        };
      };
    }

pub returns-clause-stepped : goal.returns-clause-stepped
returns-clause-stepped g c =
    let d = g.D.Disk in
    let s = c.args.self.now in
    let looked = c.in-NoRoom.ensures.6 in
    let made = c.make_room.new.self in
    let room = c.in_ok-make_room.ensures in
    record {
      free = made.book;
      free_is = c.make_room.ensures.book
          ∙ ap (λ (b : BookView). record b { drawer = made.book.drawer }) (looked_book s.book c.step.new.self c.in-NoRoom.ensures.5);
      drawn = (
        c.make_room.ensures.drawn.0 ∙ ap (λ (e : DrawerView). e.drawn) looked.same,
        c.make_room.ensures.drawn.1 ∙ ap (λ (e : DrawerView). e.first) looked.same,
      );
      answers = subst (λ f. StepAnswers made.book c.args.client f c.step-2.result c.step-2.new.self c.step-2.new.framed) c.in-NoRoom.ensures.7 c.step-2.ensures;
      room = room_found made.book c.args.client c.step.new.framed c.step-2.result c.step-2.new.self c.step-2.new.framed room.room c.step-2.ensures;
      session = with_book d made c.make_room.ensures.session c.step-2.new.self
          (later_by_step made.book c.args.client c.step.new.framed c.step-2.result c.step-2.new.self c.step-2.new.framed c.step-2.ensures);
      filled = record {
        filled = omega (arith, room.going.filled.filled, ap length c.make_room.ensures.drawn.0, ap (λ (e : DrawerView). length e.drawn) looked.same);
        going = room.going.filled.going;
      };
      faults = room.cause;
    }
