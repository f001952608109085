use Rattle.std.proofs.Common.{[], ◌∙◌, sym}
use Rattle.std.proofs.lemmas.List.{append-nil}
use Rattle.frs_frame.specs.Spelling.{spelling}
use Rattle.frs_frame.proofs.DecodingOf.{one_record}
use Rattle.frs_frame.proofs.spelling.one_spelling.Goals as goal

pub returns-clause-one_record : goal.returns-clause-one_record
returns-clause-one_record c = one_record

pub returns-clause-no_front : goal.returns-clause-no_front
returns-clause-no_front c = λ r q rest fits fits' e. one_record r q rest [] fits fits' (e ∙ sym (append-nil (spelling q)))

pub returns-clause-injective : goal.returns-clause-injective
returns-clause-injective c = λ r q fits fits' e. (one_record r q [] [] fits fits' (append-nil (spelling r) ∙ e ∙ sym (append-nil (spelling q)))).0
