-- By the index.
use Rattle.std.proofs.Common.{◌∙◌, ap, []}
use Rattle.frs_objects.specs.Objects.{entry_at}
use Rattle.frs_objects.proofs.objects.Objects.get.Goals as goal

pub returns : goal.returns
returns c = c.get.ensures [] c.self.invariant ∙ ap (λ t. entry_at t (c.args.id.now, c.args.key.now)) c.self.view_is
