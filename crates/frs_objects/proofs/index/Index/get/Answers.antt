-- By the LSN of the place.
use Rattle.std.proofs.Common.{◌∙◌, ap, sym}
use Rattle.frs_objects.specs.Slots.{slot_at}
use Rattle.frs_objects.specs.Index.{lsn_in}
use Rattle.frs_objects.proofs.Agreement.{entry_none, entry_some, entry_lost}
use Rattle.frs_objects.proofs.index.Index.get.Goals as goal

pub returns-in_default : goal.returns-in_default
returns-in_default c puts a =
    entry_none (slot_at c.args.self.now.places.maps) c.args.self.now.entries.entries puts a (c.args.id.now, c.args.key.now) (ap lsn_in (sym c.in_default.ensures))

pub returns-in_default-lsn : goal.returns-in_default-lsn
returns-in_default-lsn c puts a =
    entry_none (slot_at c.args.self.now.places.maps) c.args.self.now.entries.entries puts a (c.args.id.now, c.args.key.now) (ap lsn_in (sym c.in-Some.ensures) ∙ c.in_default-lsn.is)

pub returns-in-Some-get : goal.returns-in-Some-get
returns-in-Some-get c puts a =
    c.as_ref.ensures.value
    ∙ entry_some (slot_at c.args.self.now.places.maps) c.args.self.now.entries.entries puts a (c.args.id.now, c.args.key.now) c.in-Some-lsn.lsn _ (ap lsn_in (sym c.in-Some.ensures) ∙ c.in-Some-lsn.is) c.in-Some-get.ensures.value

pub returns-in-None : goal.returns-in-None
returns-in-None c puts a =
    entry_lost (slot_at c.args.self.now.places.maps) c.args.self.now.entries.entries puts a (c.args.id.now, c.args.key.now) c.in-Some-lsn.lsn (ap lsn_in (sym c.in-Some.ensures) ∙ c.in-Some-lsn.is) c.in-None.ensures.value
