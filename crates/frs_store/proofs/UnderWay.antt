-- A session in which nothing has happened is on its way, and nothing is owed.
use Rattle.std.proofs.Common.{◌≡◌, List, [], None, sym, ◌∙◌, arith, append-nil}
use Rattle.frs_disk.specs.declared.disk.Disk.{Ghosts}
use Rattle.frs_history.specs.declared.command.Line.{Line}
use Rattle.frs_book.specs.Drawn.{SessionHistory, draw_steps, acks_owed}
use Rattle.frs_store.specs.declared.store.Store.{Store}
use Rattle.frs_store.specs.Session.{IsGoing, IsUnderWay}
use Rattle.frs_store.specs.Start.{IsOpened}

owes_nothing : (h : SessionHistory) → h.events ≡ [] → h.closing ≡ None → acks_owed h ≡ []
unfolding draw_steps
owes_nothing h none unmarked = λ i. acks_owed (record h { events = none i; closing = unmarked i })

pub is_under_way : {D : Type 0} (g : Ghosts D) (disk : D) (script : List Line) (s : Store D) → IsGoing g s → IsOpened g disk script s
    → IsUnderWay g (record { store = s; stop = None })
is_under_way g disk script s going opened =
    let owed : acks_owed s.book.session ≡ [] = owes_nothing s.book.session opened.events opened.closing in record {
      session = going.session;
      «open» = opened.closing;
      going = λ none. going.filled;
      owed = ([], owed ∙ sym opened.acks ∙ sym (append-nil s.book.acks), omega arith);
      settled = λ none. owed ∙ sym opened.acks;
    }
