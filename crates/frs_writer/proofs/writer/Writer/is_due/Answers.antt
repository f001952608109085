use Rattle.std.proofs.Common.{◌≡◌, ℕ, ◌+◌, ◌-◌, ◌^◌, Bool, false, get_or, sym, ◌∙◌, ap}
use Rattle.std.specs.Prelude.{nat_le, nat_lt, ◌&&◌}
use Rattle.std.proofs.lemmas.Bool.{le-leb, lt-leb}
use Rattle.frs_segment.specs.declared.layout.Segment.{Segment}
use Rattle.frs_writer.specs.Places.{length_of_newest}
use Rattle.frs_writer.specs.Writing.{is_due}
use Rattle.frs_writer.proofs.Places.{newest_length, newest_get}
use Rattle.frs_writer.proofs.writer.Writer.is_due.Goals as goal

pub returns-then-newest-ge-FILE_LIMIT : goal.returns-then-newest-ge-FILE_LIMIT
returns-then-newest-ge-FILE_LIMIT g c =
    let counted = c.self.invariant.kept_is.counted in
    let newest : c.index-newest.result.now ≡ counted.newest =
    c.index-newest.ensures ∙ ap (λ (n : ℕ). get_or c.self.inside.segments.items (n - 1) c.index-newest.result.now) (c.len.ensures ∙ c.self.inside.segments.ok.0)
    ∙ newest_get c.self.inside.segments.items counted.older counted.newest c.index-newest.result.now counted.segments in
    let long : length_of_newest c.self.inside.segments.items ≡ c.index-newest.result.now.length =
    ap length_of_newest counted.segments ∙ newest_length counted.older counted.newest ∙ ap (λ (s : Segment). s.length) (sym newest) in
    ap (λ (b : Bool). b && nat_lt (c.self.inside.synced + 1) (2 ^ 62)) (sym (ap (nat_le (2 ^ 20)) long ∙ le-leb (2 ^ 20) c.index-newest.result.now.length c.if-newest-ge-FILE_LIMIT.true))
    ∙ ap is_due c.self.view_is

pub returns-else-newest-ge-FILE_LIMIT : goal.returns-else-newest-ge-FILE_LIMIT
returns-else-newest-ge-FILE_LIMIT g c =
    let counted = c.self.invariant.kept_is.counted in
    let newest : c.index-newest.result.now ≡ counted.newest =
    c.index-newest.ensures ∙ ap (λ (n : ℕ). get_or c.self.inside.segments.items (n - 1) c.index-newest.result.now) (c.len.ensures ∙ c.self.inside.segments.ok.0)
    ∙ newest_get c.self.inside.segments.items counted.older counted.newest c.index-newest.result.now counted.segments in
    let long : length_of_newest c.self.inside.segments.items ≡ c.index-newest.result.now.length =
    ap length_of_newest counted.segments ∙ newest_length counted.older counted.newest ∙ ap (λ (s : Segment). s.length) (sym newest) in
    let short : nat_le (2 ^ 20) c.index-newest.result.now.length ≡ false = lt-leb (2 ^ 20) c.index-newest.result.now.length c.if-newest-ge-FILE_LIMIT.false in
    short ∙ sym (ap (λ (b : Bool). b && nat_lt (c.self.inside.synced + 1) (2 ^ 62)) (ap (nat_le (2 ^ 20)) long ∙ short))
    ∙ ap is_due c.self.view_is
