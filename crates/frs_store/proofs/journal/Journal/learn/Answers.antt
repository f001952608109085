use Rattle.std.proofs.Common.{◌+◌, inl, inr, sym, subst, refl}
use Rattle.std.proofs.lemmas.Bool.{cases_eq}
use Rattle.frs_writer.specs.Writer.{WriterView}
use Rattle.frs_store.specs.Journal.{IsJournal}
use Rattle.frs_store.specs.InsideJournal.{view_of}
use Rattle.frs_store.proofs.JournalGoesOn.{with_taker}
use Rattle.frs_store.proofs.journal.Journal.learn.Goals as goal

pub invariant_of-self : goal.invariant_of-self
invariant_of-self g c =
    let d = g.D.Disk in
    let j = view_of c.self.inside in
    let t = c.self.inside.writer.taker in
    elim (cases_eq c.args.filled.lsn (t.first + t.sure)) [
      | inl same ↦ subst (λ (w : WriterView _). IsJournal d (record j { writer = w })) (sym (c.learn.ensures.in_order same))
          (with_taker d j (record t { sure = t.sure + 1 }) refl refl c.self.invariant)
      | inr other ↦ subst (λ (w : WriterView _). IsJournal d (record j { writer = w })) (sym (c.learn.ensures.other other)) c.self.invariant
    ]
