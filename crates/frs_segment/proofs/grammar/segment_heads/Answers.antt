use Rattle.frs_segment.proofs.HasHeads.{one_heads}
use Rattle.frs_segment.proofs.SegmentHeads.{segment_heads, whole_segment, meant_segment, segment_not_refused, heads_half, heads_whole, other_whole}
use Rattle.frs_segment.proofs.grammar.segment_heads.Goals as goal

pub returns-clause-kept : goal.returns-clause-kept
returns-clause-kept c = segment_heads

pub returns-clause-whole : goal.returns-clause-whole
returns-clause-whole c = whole_segment

pub returns-clause-meant : goal.returns-clause-meant
returns-clause-meant c = meant_segment

pub returns-clause-one : goal.returns-clause-one
returns-clause-one c = one_heads

pub returns-clause-refused : goal.returns-clause-refused
returns-clause-refused c = segment_not_refused

pub returns-clause-half_made : goal.returns-clause-half_made
returns-clause-half_made c = heads_half

pub returns-clause-made : goal.returns-clause-made
returns-clause-made c = heads_whole

pub returns-clause-other : goal.returns-clause-other
returns-clause-other c = other_whole
