-- The record that a step draws from what was prepared is the one that the history asks for.
use Rattle.std.proofs.Common.{◌≡◌, ◌⊎◌, inl, inr, ℕ, ◌+◌, ◌<◌, ◌≤◌, List, Option, Some, None, length}
use Rattle.std.proofs.Common.{ap, ◌∙◌, subst, arith, option_map, unwrap_or, is_some}
use Rattle.frs_types.specs.declared.limits.TheConstants.{NUMBER_LIMIT}
use Rattle.frs_types.specs.declared.record.Action.{Action}
use Rattle.frs_types.specs.declared.record.Action.TheVariants.{Abandon}
use Rattle.frs_types.specs.declared.record.Record.{Record}
use Rattle.frs_types.specs.Lawful.{lowest}
use Rattle.frs_frame.specs.Spelling.{spelling, without_numbers}
use Rattle.frs_slots.specs.Views.{DrawerView, SlotView, HasLooked, DrewRecord, next_drawn}
use Rattle.frs_history.specs.declared.command.Line.{Line}
use Rattle.frs_history.specs.declared.event.Reply.{Reply}
use Rattle.frs_history.specs.declared.event.What.TheVariants as what
use Rattle.frs_history.specs.Machine.{State, next_line, outcome}
use Rattle.frs_history.specs.Machine.Outcome.{Answers}
use Rattle.frs_book.specs.Drawn.{tx_for, named_for, drawing_of, action_of, action_by}
use Rattle.frs_book.specs.Books.{BookView, HasDrawn, IsToDraw, prepared_bytes, next_command_of}
use Rattle.frs_book.specs.Room.{HasDrawnOne}
use Rattle.frs_book.proofs.OutsideSteps.{drew_behind_look}
use Rattle.frs_book.proofs.NextEvents.{answered_event, answers_next, action_now}

-- ---- the drawing end

-- a drawing end that may have looked is as it was but for what it knows as taken
record IsSeenAs (old looked : DrawerView) : Type 0 where
  ring : looked.ring ≡ old.ring
  first : looked.first ≡ old.first
  capacity : looked.capacity ≡ old.capacity
  drawn : looked.drawn ≡ old.drawn
  known_taken : old.known_taken ≤ looked.known_taken

seen_as : (old looked : DrawerView) → (looked ≡ old) ⊎ HasLooked old looked → IsSeenAs old looked
seen_as old looked (inl same) = record {
  ring = ap (λ (v : DrawerView). v.ring) same;
  first = ap (λ (v : DrawerView). v.first) same;
  capacity = ap (λ (v : DrawerView). v.capacity) same;
  drawn = ap (λ (v : DrawerView). v.drawn) same;
  known_taken = (let is = ap (λ (v : DrawerView). v.known_taken) same in omega (arith, is));
}
seen_as old looked (inr is) = record {
  ring = ap (λ (v : DrawerView). v.ring) is.same;
  first = ap (λ (v : DrawerView). v.first) is.same;
  capacity = ap (λ (v : DrawerView). v.capacity) is.same;
  drawn = ap (λ (v : DrawerView). v.drawn) is.same;
  known_taken = is.known_taken;
}

-- ---- the record

-- What was prepared for the client's action, drawn with the numbers that the drawing asks for.
pub has_drawn : (b new : BookView) (c : ℕ) (a : Action) (looked : DrawerView) (slip : SlotView) (tx low named : ℕ)
    (before after : Option (List ℕ)) → (looked ≡ b.drawer) ⊎ HasLooked b.drawer looked → next_drawn looked < NUMBER_LIMIT
    → HasDrawnOne looked (spelling (record { tx = tx; lowest = low; named = named; action = a })) new.drawer
    → tx ≡ tx_for (drawing_of b.session) c a → low ≡ lowest (drawing_of b.session).log
    → named ≡ named_for (drawing_of b.session).log (tx_for (drawing_of b.session) c a) a
    → slip.ring ≡ looked.ring → slip.lsn ≡ next_drawn looked → after ≡ None
    → HasDrawn b c (Some a) new (Some slip) before after
has_drawn b new c a looked slip tx low named before after looks limit drew tx_is low_is named_is ring lsn taken =
    let seen = seen_as b.drawer looked looks in
    let next : next_drawn looked ≡ next_drawn b.drawer = λ i. seen.first i + length (seen.drawn i) in (
      subst (λ (r : Record). DrewRecord b.drawer (spelling r) new.drawer)
          (λ i. record { tx = tx_is i; lowest = low_is i; named = named_is i; action = a })
          (drew_behind_look b.drawer looked new.drawer _ looks drew),
      λ i. Some (record { ring = (ring ∙ seen.ring) i; lsn = (lsn ∙ next) i }),
      omega (arith, limit, next),
      taken,
    )

module _ (b : BookView) (c : ℕ) (line : Line) (at_line : next_line b.session.scripts b.state c ≡ Some line) where
  -- what was prepared is the record of the command's own action
  pub prepared_is : (a : Action) → action_of line.command ≡ Some a
      → prepared_bytes (next_command_of b c) ≡ spelling (without_numbers a)
  prepared_is a draws =
      ap (λ (o : Option Line). prepared_bytes (option_map (λ (l : Line). l.command) o)) at_line
      ∙ ap (λ o. spelling (without_numbers (unwrap_or o Abandon))) draws

  -- the client's next event draws a record
  pub to_draw : (r : Reply) (t : State) (a : Action) → outcome b.state c line.command ≡ Answers r t
      → action_by b.state.maps (Some line.command) (what.Answered r) ≡ Some a → IsToDraw b c
  to_draw r t a answers draws = record {
    event = answered_event c line r;
    next = (answers_next b.session.scripts b.state c line at_line r t answers).0;
    draws = ap is_some (action_now b.session.scripts b.state c line at_line (what.Answered r) ∙ draws);
  }
