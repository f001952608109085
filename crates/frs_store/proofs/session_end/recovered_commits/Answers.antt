use Rattle.frs_store.proofs.RecoveredCommits.{crash_recovers, now_recovers, all_recovers}
use Rattle.frs_store.proofs.session_end.recovered_commits.Goals as goal

pub returns : goal.returns
returns g c = record { crash = crash_recovers g.D.Disk; now = now_recovers g.D.Disk; all = all_recovers g.D.Disk }
