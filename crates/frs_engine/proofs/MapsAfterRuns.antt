-- Over runs on a store, one after another, the first commits of each stay in the maps; and what the promise of a run gives
-- is such a run.
use Rattle.std.proofs.Common.{◌≡◌, ℕ, ◌-◌, ◌≤◌, List, [], ◌∷◌, Option, Some, None, IsTrue, refl, sym, ap, ◌∙◌, subst, arith}
use Rattle.std.specs.List.{AllByRecursion, AllZip}
use Rattle.std.specs.FinMap.{entries}
use Rattle.frs_types.specs.Maps.{Maps, After}
use Rattle.frs_types.specs.Lawful.{plain_maps}
use Rattle.frs_types.specs.Records.{Log, from_lowest, next_lsn}
use Rattle.frs_disk.specs.declared.disk.Disk.{Ghosts}
use Rattle.frs_disk.specs.Disk.{Image}
use Rattle.frs_recovery.specs.Sound.{IsReady}
use Rattle.frs_history.specs.declared.command.Line.{Line}
use Rattle.frs_history.specs.declared.event.Ack.{Ack}
use Rattle.frs_book.specs.Books.{BookView}
use Rattle.frs_book.specs.Drawn.{commits_in}
use Rattle.frs_store.specs.SessionEnd.{RecoversTo, RecoversFront}
use Rattle.frs_store.proofs.RunsInOrder.{stays}
use Rattle.frs_engine.specs.Promise.{IsRun, EndsWhole}
use Rattle.frs_engine.specs.RunsInOrder.{EndedRun, AreInOrder, AreKept, IsRunOn, maps_after, last_acked, ended_by_crash, ended_now, ended_at_close}
use Rattle.frs_engine.specs.RunsInOrder.EndedRun.{NotOpened, Opened}

pub in_order : (first last : Image) (runs : List EndedRun) (n : ℕ) (m : Maps) → AreInOrder first runs last → RecoversTo (entries first) n m
    → (counts : List ℕ) × AllZip AreKept runs counts × ((k : ℕ) × RecoversTo (entries last) k (maps_after m runs counts))
in_order first last [] n m is to = ([], tt, (n, subst (λ (files : Image). RecoversTo (entries files) n m) (sym is) to))
in_order first last (NotOpened left ∷ runs) n m (run, rest) to =
    let same = run to.log to.spells in
    let left_to : RecoversTo (entries left) same.0 m = subst (λ (maps : Maps). RecoversTo (entries left) same.0 maps) to.maps same.3 in
    let (counts, kept, end) = in_order left last runs same.0 m rest left_to in
    (0 ∷ counts, (refl, kept), end)
in_order first last (Opened session ended left ∷ runs) n m (run, rest) to =
    let its = stays ended session left run.0 run.2 in
    let begun : m ≡ plain_maps session.entries = sym to.maps ∙ sym (run.1 to.log to.spells) in
    let left_to : RecoversTo (entries left) its.newest (After m (commits_in session) its.count) =
    subst (λ (maps : Maps). RecoversTo (entries left) its.newest (After maps (commits_in session) its.count)) (sym begun) its.recovers in
    let (counts, kept, end) = in_order left last runs its.newest (After m (commits_in session) its.count) rest left_to in
    (its.count ∷ counts, ((its.most, its.which), kept), end)

last_at_most : (n : ℕ) (acks : List Ack) → AllByRecursion (λ (a : Ack). a.lsn ≤ n) acks → last_acked acks ≤ n
last_at_most n [] all = omega arith
last_at_most n (a ∷ acks) all = let rest : last_acked acks ≤ n = last_at_most n acks all.1 in omega (arith, all.0, rest)

-- ---- what a run's promise gives

module _ {D : Type 0} (g : Ghosts D) (old new : D) (script : List Line) where
  pub by_crash : (book : Option BookView) → IsRun g old new script book → IsTrue (g.tells old) → IsReady g old → (c : Image) → g.left_since new (g.moment old) c
      → IsRunOn (g.reads old) (ended_by_crash book c)
  by_crash None run told ready c left = λ log spelled. run.survives told ready log spelled c left
  by_crash (Some b) run told ready c left =
      let log : Log = from_lowest 1 ready.sound.0 in
      let kept = run.survives told ready log ready.sound.2 in
      let low : next_lsn log - 1 ≡ b.session.opening - 1 = ap (λ n. n - 1) (sym kept.opening) in (
        run.tells.legal,
        λ other spelled. (run.survives told ready other spelled).maps,
        subst (λ n. RecoversFront n b.session c) low (kept.crash c left),
      )

  pub at_once : (book : Option BookView) → IsRun g old new script book → IsTrue (g.tells old) → IsReady g old → (c : Image) → g.may_leave new c → g.left_since new (g.moment old) c
      → IsRunOn (g.reads old) (ended_now book c)
  at_once None run told ready c now left = λ log spelled. run.survives told ready log spelled c left
  at_once (Some b) run told ready c now left =
      let kept = run.survives told ready (from_lowest 1 ready.sound.0) ready.sound.2 in
      let found = kept.durable c now in (
        run.tells.legal,
        λ other spelled. (run.survives told ready other spelled).maps,
        (found.0, last_at_most found.0 b.acks found.1, found.2),
      )

  pub at_close : (b : BookView) → IsRun g old new script (Some b) → EndsWhole g old new b.session b.acks → IsTrue (g.tells old) → IsReady g old → (c : Image) → g.may_leave new c
      → IsRunOn (g.reads old) (ended_at_close b c)
  at_close b run whole told ready c left = (run.tells.legal, λ other spelled. (run.survives told ready other spelled).maps, whole.all told ready c left)
