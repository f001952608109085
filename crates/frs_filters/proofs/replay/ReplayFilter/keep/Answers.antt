-- The entry is pushed behind the others, and its place is noted.
use Rattle.std.proofs.Common.{◌∙◌, sym}
use Rattle.frs_filters.proofs.IsNoted.{same_pushed, noted_pushed, older_pushed}
use Rattle.frs_filters.proofs.replay.ReplayFilter.keep.Goals as goal

pub invariant_of-self-2 : goal.invariant_of-self-2
invariant_of-self-2 c =
    noted_pushed c.self.inside.places.keys _ c.self.inside.kept.items _ c.args.entry c.self.invariant c.in_ok-insert.ensures.keys
    (same_pushed _ _ _ c.args.entry.id _ c.args.entry.key _ c.args.entry.value c.args.entry.lsn c.push_reserved.ensures.items c.in_ok-reserve.ensures.items c.in_ok-copy.ensures c.in_ok-copy-2.ensures)

pub returns-clause-kept : goal.returns-clause-kept
returns-clause-kept c =
    older_pushed c.self.inside.places.keys c.self.inside.kept.items _ _ c.args.entry c.self.invariant (sym c.contains.ensures ∙ c.if-contains.false)
    (same_pushed _ _ _ c.args.entry.id _ c.args.entry.key _ c.args.entry.value c.args.entry.lsn c.push_reserved.ensures.items c.in_ok-reserve.ensures.items c.in_ok-copy.ensures c.in_ok-copy-2.ensures) c.self.view_is
