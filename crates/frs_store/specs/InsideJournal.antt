-- What stands behind the view of a journal.
use Rattle.frs_store.specs.declared.journal.Journal.TheInside.{Inside}
use Rattle.frs_store.specs.Journal.{JournalView}

abbrev pub view_of : {D : Type 0} → Inside D → JournalView D
view_of a = record { start = a.start.value; durable = a.durable.value; number = a.number.value; writer = a.writer }
