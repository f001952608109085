use Rattle.std.proofs.Common.{◌≡◌, ◌∙◌, ℕ, ap, ◌<◌, length, add-one, arith, rules}
use Rattle.std.specs.declared.cmp.Ordering.TheVariants.{Less, Equal, Greater}
use Rattle.std.specs.List.{insert as insert_at}
use Rattle.frs_disk.specs.ShelfEntries.{shelf_entries}
use Rattle.frs_disk.specs.Outside.{shelf_cmp}
use Rattle.frs_disk.proofs.ShelfLemmas.{passed_start, passed_more, set_here, insert_here, insert_last}
use Rattle.frs_disk.proofs.mem_outside.shelf.place_of.Goals as goal

pub loop-at-init : goal.loop-at-init
loop-at-init c = passed_start c.args.held.now (c.args.snapshot, c.args.segment)

pub returns-in-Equal-clause-puts : goal.returns-in-Equal-clause-puts
returns-in-Equal-clause-puts c bytes =
    let e = c.index-held-at.result in
    let same : shelf_cmp (c.args.snapshot, c.args.segment) (e.0, e.1) ≡ Equal = search rules in
    let lt : c.loop-at.at < length c.args.held.now = search rules in
    set_here c.args.held.now c.loop-at.at (c.args.snapshot, c.args.segment) e bytes c.loop-at.invariant lt c.index-held-at.is same

pub returns-in-Less-clause-puts : goal.returns-in-Less-clause-puts
returns-in-Less-clause-puts c =
    let e = c.index-held-at.result in
    let less : shelf_cmp (c.args.snapshot, c.args.segment) (e.0, e.1) ≡ Less = search rules in
    let lt : c.loop-at.at < length c.args.held.now = search rules in
    (omega arith, λ bytes. insert_here c.args.held.now c.loop-at.at (c.args.snapshot, c.args.segment) e bytes c.loop-at.invariant lt c.index-held-at.is less)

pub loop-at-preserved : goal.loop-at-preserved
loop-at-preserved c =
    let e = c.index-held-at.result in
    let greater : shelf_cmp (c.args.snapshot, c.args.segment) (e.0, e.1) ≡ Greater = search rules in
    let lt : c.loop-at.at < length c.args.held.now = search rules in
    rw add-one (passed_more c.args.held.now c.loop-at.at (c.args.snapshot, c.args.segment) e c.loop-at.invariant lt c.index-held-at.is greater)

pub returns-clause-puts : goal.returns-clause-puts
returns-clause-puts c =
    let held = c.args.held.now in
    let end : c.loop-at.at ≡ length held = omega arith in (
      omega arith,
      λ bytes. insert_last held c.loop-at.at (c.args.snapshot, c.args.segment) bytes c.loop-at.invariant end
          ∙ ap (λ (n : ℕ). insert_at (shelf_entries held) n ((c.args.snapshot, c.args.segment), bytes)) end,
    )
