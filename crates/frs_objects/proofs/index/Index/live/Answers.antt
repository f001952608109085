-- There are as many rows as entries.
use Rattle.std.proofs.Common.{◌∙◌, sym}
use Rattle.frs_objects.specs.Slots.{slot_at}
use Rattle.frs_objects.proofs.Oldest.{length_agrees, lsns_distinct}
use Rattle.frs_objects.proofs.Shown.{IsTable-shown}
use Rattle.frs_objects.proofs.index.Index.live.Goals as goal

pub returns-clause-live : goal.returns-clause-live
returns-clause-live c a = c.len.ensures.len ∙ sym (length_agrees (slot_at c.args.self.now.places.maps) c.args.self.now.entries.entries a)

pub returns-clause-places : goal.returns-clause-places
returns-clause-places c = IsTable-shown c.args.self.now.entries.entries

pub returns-clause-lsns : goal.returns-clause-lsns
returns-clause-lsns c a = lsns_distinct (slot_at c.args.self.now.places.maps) c.args.self.now.entries.entries a
