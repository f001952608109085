use Rattle.frs_frame.proofs.WithNumbers.{numbers_stand}
use Rattle.frs_frame.proofs.encoding.write_numbers.Goals as goal

pub returns : goal.returns
returns c = rw (c.write_number-3.ensures, c.write_number-2.ensures, c.write_number.ensures) (numbers_stand c.args.tx c.args.lowest c.args.named c.args.bytes.now c.requires)
