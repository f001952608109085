use Rattle.std.proofs.Common.{◌≡◌, sym, ◌∙◌}
use Rattle.std.proofs.lemmas.List.{append-nil}
use Rattle.frs_text.specs.Scripts.{up_to, meaning_of_line}
use Rattle.frs_text.specs.Scripts.LineMeaning.{Nothing, Says, Wrong}
use Rattle.frs_text.proofs.LineMeaning.{nothing_said, wrong_said, found_said, long_fault}
use Rattle.frs_text.proofs.script_builder.ScriptBuilder.read.Goals as goal

pub returns-in-Nothing-clause-none : goal.returns-in-Nothing-clause-none
returns-in-Nothing-clause-none c = let is : meaning_of_line c.args.line.now ≡ Nothing = nothing_said _ (sym c.in_ok-read_line.ensures ∙ c.in-Nothing.is) in rw is

pub returns-in-Nothing-clause-added : goal.returns-in-Nothing-clause-added
returns-in-Nothing-clause-added c = let is : meaning_of_line c.args.line.now ≡ Nothing = nothing_said _ (sym c.in_ok-read_line.ensures ∙ c.in-Nothing.is) in rw is (sym (append-nil _))

pub returns-in-Wrong-clause-refused : goal.returns-in-Wrong-clause-refused
returns-in-Wrong-clause-refused c = let is : meaning_of_line c.args.line.now ≡ Wrong = wrong_said _ (sym c.in_ok-read_line.ensures ∙ c.in-Wrong.is) in rw is

pub returns-in-Long-clause-refused : goal.returns-in-Long-clause-refused
returns-in-Long-clause-refused c = long_fault (up_to c.args.lines c.args.snapshots) c.args.self.now c.args.number (meaning_of_line c.args.line.now) (sym c.in_ok-read_line.ensures ∙ c.in-Long.is)

pub returns-in-Found-clause-none : goal.returns-in-Found-clause-none
returns-in-Found-clause-none c = let is : meaning_of_line c.args.line.now ≡ Says c.in-Found.command = found_said _ _ (sym c.in_ok-read_line.ensures ∙ c.in-Found.is) in rw is c.take.ensures.none

pub returns-in-Found-clause-added : goal.returns-in-Found-clause-added
returns-in-Found-clause-added c = let is : meaning_of_line c.args.line.now ≡ Says c.in-Found.command = found_said _ _ (sym c.in_ok-read_line.ensures ∙ c.in-Found.is) in rw is c.take.ensures.added

pub returns-in-Found-clause-refused : goal.returns-in-Found-clause-refused
returns-in-Found-clause-refused c = let is : meaning_of_line c.args.line.now ≡ Says c.in-Found.command = found_said _ _ (sym c.in_ok-read_line.ensures ∙ c.in-Found.is) in rw is c.take.ensures.refused
