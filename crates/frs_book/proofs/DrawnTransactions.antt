-- What a client's record leaves of the entries and of its own transaction.
use Rattle.std.proofs.Common.{◌≡◌, ℕ, suc, ◌+◌, ◌<◌, true, cond, List, [], ◌∷◌, ◌++◌}
use Rattle.std.proofs.Common.{Some, map, length, ap, ◌∙◌, arith, ne_eqb, eq-eqb}
use Rattle.std.proofs.lemmas.List.{get_or-set_same}
use Rattle.frs_types.specs.declared.record.Action.{Action}
use Rattle.frs_types.specs.declared.record.Action.TheVariants as action
use Rattle.frs_types.specs.Maps.{Place, Change, table_after, table_after_all}
use Rattle.frs_types.specs.Lawful.{StoredValue, LogState, is_open_tx, changes_of, with_change, after_change, named_at}
use Rattle.frs_types.proofs.ActiveChanges.{changes_of_own, changes_of_begun}
use Rattle.frs_types.proofs.ActiveChanges.{changes_of_none}
use Rattle.frs_history.specs.Machine.{State, Scripts}
use Rattle.frs_objects.specs.declared.op.Op.{Op}
use Rattle.frs_objects.specs.Objects.{change_by, lsn_of_place}
use Rattle.frs_book.specs.Drawn.{Drawing, begin_of, begin_after, after_draw}
use Rattle.frs_book.specs.Agreement.{Agreement}
use Rattle.frs_book.proofs.LogEffects.{none_open_from}
use Rattle.frs_book.proofs.LawfulDraws.{none_at_zero}

-- ---- a change of the state of the log

-- outside a transaction it changes the entries
pub entries_outside : (s : LogState) (tx : ℕ) (x : Change StoredValue) → tx ≡ 0
    → (after_change s tx x).entries ≡ table_after s.entries x
entries_outside s tx x none = ap (λ b. (cond {A = LogState} b
    (record { entries = table_after s.entries x; active = s.active; next = s.next + 1 })
    (record { entries = s.entries; active = with_change s.active tx x; next = s.next + 1 })).entries) (eq-eqb tx 0 none)

-- and inside it is the newest change of the transaction
pub entries_inside : (s : LogState) (tx : ℕ) (x : Change StoredValue) → 0 < tx → (after_change s tx x).entries ≡ s.entries
entries_inside s tx x above = ap (λ b. (cond {A = LogState} b
    (record { entries = table_after s.entries x; active = s.active; next = s.next + 1 })
    (record { entries = s.entries; active = with_change s.active tx x; next = s.next + 1 })).entries)
    (ne_eqb tx 0 (λ same. omega (arith, same, above)))

pub changes_inside : (s : LogState) (tx : ℕ) (x : Change StoredValue) → 0 < tx → is_open_tx s.active tx ≡ true
    → changes_of (after_change s tx x).active tx ≡ changes_of s.active tx ++ x ∷ []
changes_inside s tx x above opened = ap (λ b. changes_of (cond {A = LogState} b
    (record { entries = table_after s.entries x; active = s.active; next = s.next + 1 })
    (record { entries = s.entries; active = with_change s.active tx x; next = s.next + 1 })).active tx)
    (ne_eqb tx 0 (λ same. omega (arith, same, above)))
    ∙ changes_of_own s.active tx x opened

-- ---- what a transaction sees

-- the LSN that a record names, from the transaction's changes as they are kept
pub named_by_changes : (s : LogState) (tx : ℕ) (ops : List Op) (p : Place) → map change_by ops ≡ changes_of s.active tx
    → lsn_of_place (table_after_all s.entries (map change_by ops)) p ≡ named_at s tx p
named_by_changes s tx ops p are = ap (λ cs. lsn_of_place (table_after_all s.entries cs) p) are

-- ---- after a client has drawn

module _ (scripts : Scripts) (s : State) (d : Drawing) (agrees : Agreement scripts s d) (c : ℕ)
    (within : c < suc (length scripts)) where
  -- outside a transaction there are no changes
  pub none_outside : begin_of d c ≡ 0 → changes_of d.log.active (begin_of d c) ≡ []
  none_outside none = ap (changes_of d.log.active) none
      ∙ changes_of_none d.log.active 0 (none_at_zero scripts s d agrees d.log.active agrees.owned)

  pub own_begin_after : (a : Action)
      → begin_of (after_draw d c (Some a)) c ≡ begin_after d.log.next (begin_of d c) a
  own_begin_after a = get_or-set_same d.begins c (begin_after d.log.next (begin_of d c) a) 0
      (omega (arith, within, agrees.begins))

  -- a transaction that has just begun has no changes
  pub none_once_begun : changes_of (after_draw d c (Some action.Begin)).log.active d.log.next ≡ []
  none_once_begun = changes_of_begun d.log.active d.log.next d.log.next
      ∙ changes_of_none d.log.active d.log.next
      (none_open_from scripts s d agrees d.log.next (omega arith) d.log.active agrees.owned)
