use Rattle.std.proofs.Common.{◌≡◌, Some, arith}
use Rattle.std.proofs.lemmas.Grind.{common_steps}
use Rattle.frs_disk.specs.MemOutside.{file_named}
use Rattle.frs_disk.proofs.ShortFiles.{named_short}
use Rattle.frs_disk.proofs.mem_outside.files.MemFilesFiles.read.Goals as goal

pub returns-clause-short : goal.returns-clause-short
returns-clause-short c =
    let is : file_named c.args.self.now.files.items c.args.name.now ≡ Some c.in_ok-copy.copy.items = grind (arith, common_steps) in
    named_short c.args.self.now.files.items c.args.name.now c.in_ok-copy.copy.items c.args.self.now.short is
