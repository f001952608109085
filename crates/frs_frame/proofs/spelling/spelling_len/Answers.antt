use Rattle.frs_frame.proofs.DecodingOf.{spelling_least, spelling_most}
use Rattle.frs_frame.proofs.spelling.spelling_len.Goals as goal

pub returns-clause-least : goal.returns-clause-least
returns-clause-least c = spelling_least

pub returns-clause-most : goal.returns-clause-most
returns-clause-most c = spelling_most
