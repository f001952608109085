-- What a run prints is its transcript with a last line, and what a sink took of it.
use Rattle.std.proofs.Common.{◌≡◌, ◌∙◌, inl, inr, ap, sym, refl, subst, ℕ, List, ◌++◌, Option, append_assoc, arith, IsTrue}
use Rattle.std.specs.Prelude.{flat_map, Result, Ok, Err, OnOk}
use Rattle.frs_history.specs.declared.command.Line.{Line}
use Rattle.frs_history.specs.declared.event.Ack.{Ack}
use Rattle.frs_history.specs.declared.event.Event.{Event}
use Rattle.frs_disk.specs.declared.disk.Fault.{Fault}
use Rattle.frs_disk.specs.declared.disk.Fault.TheVariants as faults
use Rattle.frs_disk.specs.declared.outside.Sink.{Ghosts}
use Rattle.frs_disk.specs.Disk.{HasCause, Rose}
use Rattle.frs_disk.specs.Outside.{AddsPartOf}
use Rattle.frs_book.specs.Books.{BookView}
use Rattle.frs_text.specs.Text.{Text, event_line, ack_line, history_text}
use Rattle.frs_engine.specs.declared.ending.Ending.{Ending}
use Rattle.frs_engine.specs.declared.status.Status.{Status}
use Rattle.frs_engine.specs.declared.status.Status.TheVariants as status
use Rattle.frs_engine.specs.Endings.{last_line_of, scripts_of, events_of, acks_of, text_of}
use Rattle.frs_engine.specs.Reports.{Prints, PrintsAll, Answers, IsReported}
use Rattle.frs_engine.specs.Statuses.{code_of, status_unprinted, status_after}

pub run_text : (e : Ending) (book : Option BookView) → text_of e book ≡ history_text (scripts_of book) (events_of book) (acks_of book) ++ last_line_of e
run_text e book = refl

-- ---- what a sink took

pub whole_prints : (text before after : Text) → AddsPartOf text before after → Prints text before after
whole_prints text before after part = record { written = part.0; rest = part.1; appended = part.2; front = part.3 }

-- a part of the text alone
pub part_prints : (text whole before after : Text) → whole ≡ text → AddsPartOf text before after → Prints whole before after
part_prints text whole before after is part = record { written = part.0; rest = part.1; appended = part.2; front = part.3 ∙ sym is }

-- a part of what comes first
pub first_prints : (first last whole before after : Text) → whole ≡ first ++ last → AddsPartOf first before after → Prints whole before after
first_prints first last whole before after is part = record {
  written = part.0;
  rest = part.1 ++ last;
  appended = part.2;
  front = sym (append_assoc part.0 part.1 last) ∙ ap (λ (t : Text). t ++ last) part.3 ∙ sym is;
}

-- all of what comes first, and a part of the last
pub last_prints : (first last whole before middle after : Text) → whole ≡ first ++ last → middle ≡ before ++ first → AddsPartOf last middle after → Prints whole before after
last_prints first last whole before middle after is all part = record {
  written = first ++ part.0;
  rest = part.1;
  appended = part.2 ∙ ap (λ (t : Text). t ++ part.0) all ∙ append_assoc before first part.0;
  front = append_assoc first part.0 part.1 ∙ ap (λ (t : Text). first ++ t) part.3 ∙ sym is;
}

pub both_print : (first last whole before middle after : Text) → whole ≡ first ++ last → middle ≡ before ++ first → after ≡ middle ++ last → PrintsAll whole before after
both_print first last whole before middle after is all then =
    then ∙ ap (λ (t : Text). t ++ last) all ∙ append_assoc before first last ∙ ap (λ (t : Text). before ++ t) (sym is)

pub same_history : (lines scripts : List (List Line)) (ev events : List Event) (ac acks : List Ack) → lines ≡ scripts → ev ≡ events → ac ≡ acks
    → history_text lines ev ac ≡ history_text scripts events acks
same_history lines scripts ev events ac acks is_script is_events is_acks =
    ap (λ (s : List (List Line)). flat_map (event_line s) ev ++ flat_map ack_line ac) is_script
    ∙ ap (λ (es : List Event). flat_map (event_line scripts) es ++ flat_map ack_line ac) is_events
    ∙ ap (λ (a : List Ack). flat_map (event_line scripts) events ++ flat_map ack_line a) is_acks

-- ---- the status that is answered

unprinted : (decided : Status) (before now : ℕ) → Rose before now → Answers (code_of decided) (code_of (status_unprinted decided)) before now
unprinted status.Done before now rose = inr (inl (refl, refl, rose))
unprinted status.WrongWords before now rose = inl refl
unprinted status.WrongLine before now rose = inl refl
unprinted status.DiskStop before now rose = inl refl
unprinted status.WrongStore before now rose = inl refl
unprinted status.UnreadFile before now rose = inl refl
unprinted status.SinkStop before now rose = inl refl
unprinted status.Limit before now rose = inl refl
unprinted status.MemoryStop before now rose = inl refl
unprinted status.Later before now rose = inl refl

unprinted_not_zero : (decided : Status) → code_of (status_unprinted decided) ≡ 0 → ⊥
unprinted_not_zero status.Done is = omega (arith, is)
unprinted_not_zero status.WrongWords is = omega (arith, is)
unprinted_not_zero status.WrongLine is = omega (arith, is)
unprinted_not_zero status.DiskStop is = omega (arith, is)
unprinted_not_zero status.WrongStore is = omega (arith, is)
unprinted_not_zero status.UnreadFile is = omega (arith, is)
unprinted_not_zero status.SinkStop is = omega (arith, is)
unprinted_not_zero status.Limit is = omega (arith, is)
unprinted_not_zero status.MemoryStop is = omega (arith, is)
unprinted_not_zero status.Later is = omega (arith, is)

unprinted_memory : (decided : Status) → code_of (status_unprinted decided) ≡ 9 → code_of decided ≡ 9
unprinted_memory status.Done nine = absurd (omega (arith, nine))
unprinted_memory other nine = nine

module _ {S V : Type 0} (g : Ghosts S) (text : Text) (decided : Status) (number : ℕ) (old new : S) where
  pub is_reported : (printed : Result V Fault) → number ≡ code_of (status_after decided printed) → HasCause (g.faults old) (g.faults new) printed → (IsTrue (g.tells old) → Prints text (g.written old) (g.written new))
      → OnOk printed (IsTrue (g.tells old) → PrintsAll text (g.written old) (g.written new)) → g.tells new ≡ g.tells old → IsReported g text (code_of decided) number old new
  is_reported (Ok v) is cause part all told = record {
    answers = inl is;
    prints = part;
    prints_all = λ told six nine rose. all told;
    untroubled = λ zero. cause;
    memory = λ nine other. cause;
    told = told;
  }
  is_reported (Err faults.Memory) is cause part all told = record {
    answers = inr (inr is);
    prints = part;
    prints_all = λ told six nine rose. absurd (nine is);
    untroubled = λ zero. cause;
    memory = λ nine other. cause;
    told = told;
  }
  is_reported (Err faults.Failed) is cause part all told = record {
    answers = subst (λ (n : ℕ). Answers (code_of decided) n (g.faults old) (g.faults new)) (sym is) (unprinted decided (g.faults old) (g.faults new) cause.1);
    prints = part;
    prints_all = λ told six nine rose. absurd (rose cause.1);
    untroubled = λ zero. absurd (unprinted_not_zero decided (sym is ∙ zero));
    memory = λ nine other. absurd (other (unprinted_memory decided (sym is ∙ nine)));
    told = told;
  }
