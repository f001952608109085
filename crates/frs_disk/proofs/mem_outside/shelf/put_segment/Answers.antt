use Rattle.std.proofs.Common.{◌≡◌, ◌∙◌, ℕ, List, ap, sym, subst, set}
use Rattle.std.specs.List.{insert as insert_at}
use Rattle.std.specs.FinMap.{put}
use Rattle.frs_disk.specs.Outside.{shelf_cmp}
use Rattle.frs_disk.specs.ShelfEntries.{shelf_entries}
use Rattle.frs_disk.proofs.ShelfLemmas.{Segment, shelf_entries-set, shelf_entries-insert}
use Rattle.frs_disk.proofs.mem_outside.shelf.put_segment.Goals as goal

pub returns-in-Ok-clause-ok : goal.returns-in-Ok-clause-ok
returns-in-Ok-clause-ok c =
    let held = c.args.held.now.items in
    let key : ℕ × ℕ = (c.args.snapshot, c.args.segment) in
    let put_is : put shelf_cmp key c.args.bytes.items (shelf_entries held) ≡ set (shelf_entries held) c.in-Ok.at (key, c.args.bytes.items) =
    subst (λ (l : List Segment). put shelf_cmp key c.args.bytes.items (shelf_entries l) ≡ set (shelf_entries l) c.in-Ok.at (key, c.args.bytes.items)) c.deref.ensures.value (c.in-Ok.ensures.puts c.args.bytes.items) in
    shelf_entries-set held c.in-Ok.at (c.args.snapshot, c.args.segment, c.args.bytes) ∙ sym put_is

pub returns-in_ok-insert-in-Err-clause-ok : goal.returns-in_ok-insert-in-Err-clause-ok
returns-in_ok-insert-in-Err-clause-ok c =
    let held = c.args.held.now.items in
    let key : ℕ × ℕ = (c.args.snapshot, c.args.segment) in
    let put_is : put shelf_cmp key c.args.bytes.items (shelf_entries held) ≡ insert_at (shelf_entries held) c.in-Err.at (key, c.args.bytes.items) =
    subst (λ (l : List Segment). put shelf_cmp key c.args.bytes.items (shelf_entries l) ≡ insert_at (shelf_entries l) c.in-Err.at (key, c.args.bytes.items)) c.deref.ensures.value (c.in-Err.ensures.puts.1 c.args.bytes.items) in
    ap shelf_entries c.in_ok-insert-in-Err.ensures.items ∙ shelf_entries-insert held c.in-Err.at (c.args.snapshot, c.args.segment, c.args.bytes) ∙ sym put_is
