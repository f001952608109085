-- What the closing mark makes of the store, once it is drawn.
use Rattle.std.proofs.Common.{◌≡◌, ℕ, ◌+◌, List, [], ◌∷◌, length, Option, sym, ap, ◌∙◌, arith, length-append}
use Rattle.std.proofs.lemmas.Option.{same_Some}
use Rattle.frs_slots.specs.Views.{SlotView, next_drawn}
use Rattle.frs_book.specs.Drawn.{SessionHistory}
use Rattle.frs_book.specs.Books.{BookView, IsMarked, closed_session}
use Rattle.frs_store.specs.declared.store.Store.{Store}
use Rattle.frs_store.specs.Session.{IsFilled, HasMarked}
use Rattle.frs_store.proofs.StoreGoesOn.{IsLater}

pub later_by_mark : (old : BookView) (slip : SlotView) (new : BookView) (handed left : Option (List ℕ)) → IsMarked old slip new handed left
    → IsLater old new
later_by_mark old slip new handed left its =
    let drew = its.drawn.0 in
    let count : length new.drawer.drawn ≡ length old.drawer.drawn + 1 = ap length drew.drawn ∙ length-append old.drawer.drawn (_ ∷ []) in
    record {
      scripts = ap (λ (h : SessionHistory). h.scripts) its.session;
      entries = ap (λ (h : SessionHistory). h.entries) its.session;
      opening = ap (λ (h : SessionHistory). h.opening) its.session;
      acks = its.acks;
      before = its.before;
      ring = (drew.ring, drew.first);
      drawn = omega (arith, count);
    }

-- drawn in a book of the same session, whose records are all filled
pub has_marked : {D : Type 0} (old mid new : Store D) (slip : SlotView) (handed left : Option (List ℕ))
    → mid.book.session ≡ old.book.session → mid.book.state ≡ old.book.state → mid.book.acks ≡ old.book.acks → IsFilled mid (length mid.book.drawer.drawn)
    → new.journal ≡ mid.journal → IsMarked mid.book slip new.book handed left → HasMarked old slip new
has_marked old mid new slip handed left session state acks filled journal its =
    let drew = its.drawn.0 in
    let count : length new.book.drawer.drawn ≡ length mid.book.drawer.drawn + 1 =
    ap length drew.drawn ∙ length-append mid.book.drawer.drawn (_ ∷ []) in
    let slot = same_Some slip (record { ring = mid.book.drawer.ring; lsn = next_drawn mid.book.drawer }) its.drawn.1 in
    let lsn : slip.lsn ≡ next_drawn mid.book.drawer = ap (λ (s : SlotView). s.lsn) slot in
    record {
      session = its.session ∙ ap closed_session session;
      state = its.state ∙ state;
      acks = its.acks ∙ acks;
      to_fill = (
        ap (λ (s : SlotView). s.ring) slot ∙ sym drew.ring,
        omega (arith, lsn, drew.first, count),
        (
          length mid.book.drawer.drawn,
          record {
            filled = omega (arith, filled.filled, ap (λ j. j.writer.taker.sure) journal);
            going = ap (λ j. j.writer.ended) journal ∙ filled.going;
          },
          omega (arith, count),
        ),
      );
    }
