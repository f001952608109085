-- What is kept for is put in.
use Rattle.std.proofs.Common.{[], ap, ◌∙◌}
use Rattle.frs_types.specs.Maps.{place_cmp}
use Rattle.std.specs.FinMap.Entries.{put}
use Rattle.frs_objects.specs.Objects.{stored_by}
use Rattle.frs_objects.proofs.index.Index.insert.Goals as goal

pub returns-in_err-reserve-clause-index : goal.returns-in_err-reserve-clause-index
returns-in_err-reserve-clause-index c = c.in_err-reserve.ensures.kept [] c.requires.index

pub commit-requires : goal.commit-requires
commit-requires c = ([], c.in_ok-reserve.ensures.kept [] c.requires.index)

pub returns-clause-index : goal.returns-clause-index
returns-clause-index c = c.commit.ensures.made [] (c.in_ok-reserve.ensures.kept [] c.requires.index)

pub returns-clause-shown : goal.returns-clause-shown
returns-clause-shown c = c.commit.ensures.shown [] (c.in_ok-reserve.ensures.kept [] c.requires.index) ∙ ap (put place_cmp (c.args.entry.id, c.args.entry.key) (stored_by c.args.entry)) (c.reserve.ensures.shown [] c.requires.index)
