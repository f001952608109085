-- Over runs of a store, one after another, what is left of the commits of each stays in the maps.
use Rattle.std.proofs.Common.{◌≡◌, ℕ, ◌+◌, ◌≤◌, Bool, true, false, cond, List, [], ◌∷◌, length, refl, sym, ap, ◌∙◌, subst, arith}
use Rattle.std.specs.Prelude.{nat_le}
use Rattle.std.specs.List.{AllZip}
use Rattle.std.specs.FinMap.{entries}
use Rattle.std.proofs.lemmas.Bool.{le-leb, leb-true}
use Rattle.std.proofs.lemmas.List.Sums.{sum_by-cons}
use Rattle.frs_types.specs.declared.record.Record.{Record}
use Rattle.frs_types.specs.Maps.{Maps, After}
use Rattle.frs_types.specs.Records.{Log, from_lowest, next_lsn}
use Rattle.frs_types.specs.Survivors.{survivors, maps_of}
use Rattle.frs_types.specs.Lawful.{plain_maps}
use Rattle.frs_types.proofs.BackwardIsForward.{cut_gives_entries}
use Rattle.frs_disk.specs.Disk.{Image}
use Rattle.frs_segment.specs.Segments.{FileList, Spells}
use Rattle.frs_segment.proofs.OneLog.{same_log}
use Rattle.frs_book.specs.Drawn.{SessionHistory, DrawStep, commits_at, commits_among, commits_in, commits_up_to, draw_steps, drawing_of}
use Rattle.frs_book.specs.Agreement.{IsSession}
use Rattle.frs_book.proofs.HistoryRuns.{session_is_shown}
use Rattle.frs_store.specs.SessionEnd.{RecoversTo, BeginsOn}
use Rattle.frs_store.specs.Sessions.{RunEnd, Run, HasLeft, AreInOrder, StayBy, Stay, maps_after}
use Rattle.frs_store.specs.Sessions.RunEnd.{AtCrash, AtClose}
use Rattle.frs_store.proofs.RecoveredCommits.{maps_are_plain}

-- ---- files recover to one list of maps

pub recovers_to_one : (image : FileList) (n k : ℕ) (m other : Maps) → RecoversTo image n m → RecoversTo image k other → (n ≡ k) × (m ≡ other)
recovers_to_one image n k m other a b =
    let same : a.log ≡ b.log = same_log image a.log b.log a.spells b.spells in
    let next : next_lsn a.log ≡ next_lsn b.log = ap next_lsn same in (
      omega (arith, a.newest, b.newest, next),
      sym a.maps ∙ ap (λ (log : Log). maps_of (survivors log)) same ∙ b.maps,
    )

-- A session begins with the maps to which the files recover behind whose records it goes on.
begun_maps : (image : FileList) (before : List Record) (h : SessionHistory) (n : ℕ) (m : Maps) → BeginsOn before h
    → Spells image (from_lowest 1 before) → RecoversTo image n m → m ≡ plain_maps h.entries
begun_maps image before h n m begins spells to =
    let same : to.log ≡ from_lowest 1 before = same_log image to.log (from_lowest 1 before) to.spells spells in
    sym to.maps ∙ ap (λ (log : Log). maps_of (survivors log)) same ∙ maps_are_plain (survivors (from_lowest 1 before))
    ∙ ap plain_maps (cut_gives_entries before begins.lawful) ∙ ap plain_maps (sym begins.entries)

-- ---- how many commits an LSN covers

count_rises : (b c : Bool) (count : ℕ) → (b ≡ true → c ≡ true) → cond b count 0 ≤ cond c count 0
count_rises false c count up = omega arith
count_rises true c count up = subst (λ d. count ≤ cond d count 0) (sym (up refl)) (omega arith)

covered_later : (lsn n k : ℕ) → n ≤ k → nat_le lsn n ≡ true → nat_le lsn k ≡ true
covered_later lsn n k le covered = le-leb lsn k (let at : lsn ≤ n = leb-true lsn n covered in omega (arith, at, le))

commits_rise : (steps : List DrawStep) (n k : ℕ) → n ≤ k → commits_among steps n ≤ commits_among steps k
commits_rise [] n k le = omega arith
commits_rise (t ∷ steps) n k le =
    let covered : ℕ → DrawStep → ℕ = λ n t. cond (nat_le t.lsn n) (length (commits_at t.moment)) 0 in
    let rest : commits_among steps n ≤ commits_among steps k = commits_rise steps n k le in
    let here : covered n t ≤ covered k t = count_rises (nat_le t.lsn n) (nat_le t.lsn k) (length (commits_at t.moment)) (covered_later t.lsn n k le) in
    let sum_n : commits_among (t ∷ steps) n ≡ covered n t + commits_among steps n = sum_by-cons (covered n) t steps in
    let sum_k : commits_among (t ∷ steps) k ≡ covered k t + commits_among steps k = sum_by-cons (covered k) t steps in
    omega (arith, rest, here, sum_n, sum_k)

commits_at_most : (h : SessionHistory) → IsSession h → (n : ℕ) → commits_up_to h n ≤ length (commits_in h)
commits_at_most h legal n =
    let end : ℕ = n + (drawing_of h).log.next in
    let all : commits_up_to h end ≡ length (commits_in h) = (session_is_shown h legal).all end (omega arith) in
    let up : commits_up_to h n ≤ commits_up_to h end = commits_rise (draw_steps h) n end (omega arith) in
    omega (arith, all, up)

-- ---- runs

-- how many commits of a session stay, and that what it left recovers to them
pub record Stays (ended : RunEnd) (h : SessionHistory) (left : Image) : Type 0 where
  pub count : ℕ
  pub most : count ≤ length (commits_in h)
  pub which : StayBy ended h count
  pub newest : ℕ
  pub recovers : RecoversTo (entries left) newest (After (plain_maps h.entries) (commits_in h) count)

pub stays : (ended : RunEnd) (h : SessionHistory) (left : Image) → IsSession h → HasLeft ended h left → Stays ended h left
stays (AtCrash durable) h left legal (n, least, to) = record {
  count = commits_up_to h n;
  most = commits_at_most h legal n;
  which = (n, least, refl);
  newest = n;
  recovers = to;
}
stays AtClose h left legal (n, to) = record {
  count = length (commits_in h);
  most = omega arith;
  which = refl;
  newest = n;
  recovers = to;
}

pub in_order : (first last : Image) (runs : List Run) (n : ℕ) (m : Maps) → AreInOrder first runs last → RecoversTo (entries first) n m
    → (counts : List ℕ) × AllZip Stay runs counts × ((k : ℕ) × RecoversTo (entries last) k (maps_after m runs counts))
in_order first last [] n m is to = ([], tt, (n, subst (λ (files : Image). RecoversTo (entries files) n m) (sym is) to))
in_order first last (r ∷ runs) n m (run, rest) to =
    let its = stays r.ended r.session r.left run.legal run.left in
    let begun : m ≡ plain_maps r.session.entries = begun_maps (entries first) run.before r.session n m run.begins run.spelled to in
    let left : RecoversTo (entries r.left) its.newest (After m (commits_in r.session) its.count) =
    subst (λ (maps : Maps). RecoversTo (entries r.left) its.newest (After maps (commits_in r.session) its.count)) (sym begun) its.recovers in
    let (counts, stay, end) = in_order r.left last runs its.newest (After m (commits_in r.session) its.count) rest left in
    (its.count ∷ counts, (record { most = its.most; which = its.which }, stay), end)
