-- Stores whose segments have a mark, a put and a mark: what their files spell, or what is wrong with them first, computed
-- by the definitions.
use Rattle.std.proofs.Common.{◌≡◌, inl, inr, ℕ, List, [], ◌∷◌, ◌++◌, refl}
use Rattle.std.specs.Prelude.{codes}
use Rattle.frs_types.specs.declared.record.Action.TheVariants.{Put, Mark}
use Rattle.frs_types.specs.declared.record.Record.{Record}
use Rattle.frs_types.specs.Records.{Log}
use Rattle.frs_types.specs.Survivors.{survivors, lowest_of}
use Rattle.frs_frame.specs.Spelling.{spelling}
use Rattle.frs_segment.specs.Segments.{File, WholeSegment, IsSegment, SpellsBy, segment_spelling}
use Rattle.frs_recovery.specs.declared.fault.RecoverFault.TheVariants.{Gap}
use Rattle.frs_recovery.specs.FirstFault.{IsWrongFirst}

abbrev mark : ℕ → Record
mark lowest = record { tx = 0; lowest = lowest; named = 0; action = Mark }

abbrev put : ℕ → List ℕ → List ℕ → Record
put lowest key value = record { tx = 0; lowest = lowest; named = 0; action = Put (codes "m") key value }

abbrev session : ℕ → ℕ → Record → Record → Record → WholeSegment
session number first opening change closing = record { number = number; first = first; chunks = (opening ∷ []) ∷ (change ∷ []) ∷ (closing ∷ []) ∷ [] }

-- ---- one segment, of which each byte is given

abbrev whole_bytes : List ℕ
whole_bytes =
    0x01 ∷ 0x46 ∷ 0x52 ∷ 0x53 ∷ 0x53 ∷ 0x01 ∷ 0x00 ∷ 0x00 ∷ 0x00 ∷ 0x00 ∷ 0x00 ∷ 0x00 ∷ 0x00 ∷ 0x01 ∷ 0x00 ∷ 0x00 ∷
    0x00 ∷ 0x00 ∷ 0x00 ∷ 0x00 ∷ 0x00 ∷ 0x01 ∷ 0x01 ∷ 0x00 ∷ 0x00 ∷ 0x00 ∷ 0x19 ∷ 0x00 ∷ 0x00 ∷ 0x00 ∷ 0x01 ∷ 0x00 ∷
    0x00 ∷ 0x00 ∷ 0x00 ∷ 0x00 ∷ 0x00 ∷ 0x00 ∷ 0x01 ∷ 0x07 ∷ 0x00 ∷ 0x00 ∷ 0x00 ∷ 0x00 ∷ 0x00 ∷ 0x00 ∷ 0x00 ∷ 0x00 ∷
    0x00 ∷ 0x00 ∷ 0x00 ∷ 0x00 ∷ 0x00 ∷ 0x00 ∷ 0x00 ∷ 0x01 ∷ 0x00 ∷ 0x00 ∷ 0x00 ∷ 0x00 ∷ 0x00 ∷ 0x00 ∷ 0x00 ∷ 0x00 ∷
    0x01 ∷ 0x00 ∷ 0x00 ∷ 0x00 ∷ 0x20 ∷ 0x00 ∷ 0x00 ∷ 0x00 ∷ 0x01 ∷ 0x00 ∷ 0x00 ∷ 0x00 ∷ 0x00 ∷ 0x00 ∷ 0x00 ∷ 0x00 ∷
    0x02 ∷ 0x01 ∷ 0x00 ∷ 0x00 ∷ 0x00 ∷ 0x00 ∷ 0x00 ∷ 0x00 ∷ 0x00 ∷ 0x00 ∷ 0x00 ∷ 0x00 ∷ 0x00 ∷ 0x00 ∷ 0x00 ∷ 0x00 ∷
    0x00 ∷ 0x02 ∷ 0x00 ∷ 0x00 ∷ 0x00 ∷ 0x00 ∷ 0x00 ∷ 0x00 ∷ 0x00 ∷ 0x00 ∷ 0x01 ∷ 0x6d ∷ 0x01 ∷ 0x6b ∷ 0x00 ∷ 0x01 ∷
    0x76 ∷ 0x01 ∷ 0x00 ∷ 0x00 ∷ 0x00 ∷ 0x19 ∷ 0x00 ∷ 0x00 ∷ 0x00 ∷ 0x01 ∷ 0x00 ∷ 0x00 ∷ 0x00 ∷ 0x00 ∷ 0x00 ∷ 0x00 ∷
    0x00 ∷ 0x03 ∷ 0x07 ∷ 0x00 ∷ 0x00 ∷ 0x00 ∷ 0x00 ∷ 0x00 ∷ 0x00 ∷ 0x00 ∷ 0x00 ∷ 0x00 ∷ 0x00 ∷ 0x00 ∷ 0x00 ∷ 0x00 ∷
    0x00 ∷ 0x00 ∷ 0x02 ∷ 0x00 ∷ 0x00 ∷ 0x00 ∷ 0x00 ∷ 0x00 ∷ 0x00 ∷ 0x00 ∷ 0x00 ∷ 0x00 ∷ []

abbrev whole : WholeSegment
whole = session 1 1 (mark 1) (put 2 (codes "k") (codes "v")) (mark 2)

whole_is : IsSegment (1, whole_bytes) whole
unfolding spelling
whole_is = record { number = refl; gate = 0; rest = []; closed = refl; bytes = refl; chunks = refl; starts = refl; within = refl }

abbrev whole_log : Log
whole_log = record { first = 2; records = put 2 (codes "k") (codes "v") ∷ mark 2 ∷ [] }

pub whole_spells : SpellsBy ((1, whole_bytes) ∷ []) (whole ∷ []) whole_log
unfolding spelling
whole_spells = record { rising = refl; older = []; looked = (1, whole_bytes) ∷ []; files = refl; each = (whole_is, tt); follow = refl; enough = refl; shown = refl }

pub whole_survivors : survivors whole_log ≡ record { id = codes "m"; key = codes "k"; value = codes "v"; lsn = 2 } ∷ []
whole_survivors = refl

pub whole_lowest : lowest_of whole_log ≡ 2
whole_lowest = refl

-- ---- three segments, of which the second or the first two are gone

abbrev first : WholeSegment
first = session 1 1 (mark 1) (put 2 (codes "a") (codes "1")) (mark 2)

abbrev third : WholeSegment
third = session 3 7 (mark 2) (put 2 (codes "c") (codes "3")) (mark 2)

abbrev file_of : WholeSegment → File
file_of s = (s.number, segment_spelling s ++ 0 ∷ [])

first_is : IsSegment (file_of first) first
unfolding spelling
first_is = record { number = refl; gate = 0; rest = []; closed = refl; bytes = refl; chunks = refl; starts = refl; within = refl }

third_is : IsSegment (file_of third) third
unfolding spelling
third_is = record { number = refl; gate = 0; rest = []; closed = refl; bytes = refl; chunks = refl; starts = refl; within = refl }

pub gap_between : IsWrongFirst (file_of first ∷ file_of third ∷ []) (Gap 6 3)
unfolding spelling
gap_between = record {
  rising = refl;
  older = file_of first ∷ [];
  segments = third ∷ [];
  holds = record { looked = file_of third ∷ []; files = refl; each = (third_is, tt); follow = refl; further = refl };
  wrong = inr (inl (record { before = []; file = file_of first; greatest = refl; next = first; is = first_is; apart = refl; told = refl }));
}

pub gap_at_end : IsWrongFirst (file_of third ∷ []) (Gap 6 0)
unfolding spelling
gap_at_end = record {
  rising = refl;
  older = [];
  segments = third ∷ [];
  holds = record { looked = file_of third ∷ []; files = refl; each = (third_is, tt); follow = refl; further = refl };
  wrong = inr (inr (record { none = refl; missed = refl; told = refl }));
}
