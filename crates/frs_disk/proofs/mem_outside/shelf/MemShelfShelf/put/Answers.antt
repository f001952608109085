use Rattle.std.proofs.Common.{◌≡◌, ◌∙◌, ℕ, List, ap, rules}
use Rattle.std.specs.FinMap.{get, insert}
use Rattle.frs_disk.specs.Outside.{ShelfFiles}
use Rattle.frs_disk.specs.ShelfEntries.{shelf_entries}
use Rattle.frs_disk.specs.MemOutside.{held_on}
use Rattle.frs_disk.proofs.ShelfLemmas.{put_rising, put_map, get-insert_elsewhere}
use Rattle.frs_disk.proofs.mem_outside.shelf.MemShelfShelf.put.Goals as goal

pub invariant_of-self-2 : goal.invariant_of-self-2
invariant_of-self-2 c = record {
  rising = put_rising (shelf_entries c.args.self.now.held.items) (shelf_entries c.put_segment.new.held.items) (c.args.snapshot, c.args.segment) c.in_ok-copy.copy.items c.args.self.now.rising c.in_ok-put_segment.ensures.ok;
}

pub returns-clause-set : goal.returns-clause-set
returns-clause-set c =
    let copied : c.in_ok-copy.copy.items ≡ c.args.bytes.now = search rules in
    put_map (shelf_entries c.args.self.now.held.items) (shelf_entries c.put_segment.new.held.items) (c.args.snapshot, c.args.segment) c.in_ok-copy.copy.items c.args.self.now.rising c.in_ok-put_segment.ensures.ok
    ∙ ap (λ (b : List ℕ). insert (held_on c.args.self.now) (c.args.snapshot, c.args.segment) b) copied

pub returns-clause-others : goal.returns-clause-others
returns-clause-others c q other =
    ap (λ (m : ShelfFiles). get m q) (put_map (shelf_entries c.args.self.now.held.items) (shelf_entries c.put_segment.new.held.items) (c.args.snapshot, c.args.segment) c.in_ok-copy.copy.items c.args.self.now.rising c.in_ok-put_segment.ensures.ok)
    ∙ get-insert_elsewhere (held_on c.args.self.now) (c.args.snapshot, c.args.segment) c.in_ok-copy.copy.items q other
