use Rattle.std.proofs.Common.{◌≡◌, T, rules, ◌∙◌, sym, subst, ℕ, List, Vec, map}
use Rattle.std.specs.Prelude.{All}
use Rattle.std.specs.List.Sorted.{IsStrictlyIncreasing}
use Rattle.std.specs.declared.alloc.Global.{Global}
use Rattle.frs_disk.specs.Disk.{IsNumber}
use Rattle.std.specs.FinMap.{keys, is_sorted}
use Rattle.std.specs.Ordering.{nat_cmp}
use Rattle.frs_disk.specs.Files.{plain_files, image_of}
use Rattle.frs_disk.specs.RecordLaws.{held_numbered}
use Rattle.frs_disk.proofs.Numbers.{keys-image_of, rising_numbers, numbers_in_range}
use Rattle.frs_disk.proofs.mem_disk.as_disk.MemDiskDisk.segments.Goals as goal

numbers : (files : List (ℕ × Vec ℕ Global)) (ns : List ℕ) → ns ≡ map (λ f. f.0) files → T (is_sorted nat_cmp (plain_files files)) → ns ≡ keys (image_of files)
numbers files ns is rising = is ∙ sym (keys-image_of files rising)

pub returns-clause-numbers : goal.returns-clause-numbers
returns-clause-numbers c =
    let is : c.in_ok-numbers.numbers.items ≡ map (λ (g : ℕ × Vec ℕ Global). g.0) c.args.self.now.files.items = search rules in
    numbers c.args.self.now.files.items _ is c.args.self.now.rising

pub returns-clause-rising : goal.returns-clause-rising
returns-clause-rising c =
    let is : c.in_ok-numbers.numbers.items ≡ map (λ (g : ℕ × Vec ℕ Global). g.0) c.args.self.now.files.items = search rules in
    subst IsStrictlyIncreasing (sym is) (rising_numbers c.args.self.now.files.items c.args.self.now.rising)

pub returns-clause-in_range : goal.returns-clause-in_range
returns-clause-in_range c =
    let is : c.in_ok-numbers.numbers.items ≡ map (λ (g : ℕ × Vec ℕ Global). g.0) c.args.self.now.files.items = search rules in
    let self = c.args.self.now in
    subst (All IsNumber) (sym is) (numbers_in_range self.files.items self.rising (held_numbered (image_of self.start.items) (image_of self.files.items) self.calls.items self.tied self.in_range))
