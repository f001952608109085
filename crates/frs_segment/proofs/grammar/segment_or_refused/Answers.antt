use Rattle.frs_segment.proofs.SegmentOrRefused.{segment_or_refused, bytes_of}
use Rattle.frs_segment.proofs.grammar.segment_or_refused.Goals as goal

pub returns : goal.returns
returns c file number all = segment_or_refused file number (bytes_of file.1 all)
