-- A session with one more event, or with its closing mark, draws what it drew and one step more.
use Rattle.std.proofs.Common.{◌≡◌, ℕ, zero, suc, ◌≤◌, List, [], ◌∷◌, ◌++◌, Option, Some, None, length, map}
use Rattle.std.proofs.Common.{append-nil, flat_map, unwrap_or, refl, sym, ap, ◌∙◌, arith, option_to_list}
use Rattle.std.specs.Prelude.{option_and_then}
use Rattle.std.specs.List.{cons_option}
use Rattle.std.proofs.lemmas.List.{map-append}
use Rattle.std.proofs.lemmas.Option.{same_Some}
use Rattle.std.proofs.lemmas.List.Elements.{filter_map-append}
use Rattle.std.proofs.lemmas.Grind.{flat_map-append}
use Rattle.frs_types.specs.declared.record.Record.{Record}
use Rattle.frs_history.specs.declared.event.Event.{Event}
use Rattle.frs_history.specs.Machine.{State, Scripts}
use Rattle.frs_history.specs.Histories.{Moment, moment, moments, next, run}
use Rattle.frs_book.specs.Drawn.{SessionHistory, Drawing, DrawStep, after_draw, client_of, drawn_action, draw_step}
use Rattle.frs_book.specs.Drawn.{draw_steps_from, drawing_after, with_closing, records_of, moments_of, opened, draw_steps}
use Rattle.frs_book.specs.Drawn.{drawn_records, drawing_of, acks_owed, ack_at}
use Rattle.frs_book.specs.Agreement.{begun}
use Rattle.frs_book.specs.Books.{IsAmong}

-- ---- runs

pub run_one_more : (scripts : Scripts) (es : List Event) (s t : State) (e : Event) → run scripts s es ≡ Some t
    → run scripts s (es ++ e ∷ []) ≡ next scripts t e
run_one_more scripts [] s t e is =
    ap (λ o. option_and_then (λ u. run scripts u (e ∷ [])) o) is ∙ alone (next scripts t e)
  where
    alone : (o : Option State) → option_and_then (λ u. Some u) o ≡ o
    alone None = refl
    alone (Some u) = refl
run_one_more scripts (f ∷ es) s t e is =
    elim (next scripts s f) as (λ o. option_and_then (λ u. run scripts u es) o ≡ Some t
    → option_and_then (λ u. run scripts u (es ++ e ∷ [])) o ≡ next scripts t e) [
      | None ↦ λ never. absurd cc
      | Some u ↦ λ rest. run_one_more scripts es u t e rest
    ] is

pub moments_one_more : (scripts : Scripts) (es : List Event) (s t : State) (e : Event) → run scripts s es ≡ Some t
    → moments scripts s (es ++ e ∷ []) ≡ moments scripts s es ++ moment scripts t e ∷ []
moments_one_more scripts [] s t e is = ap (λ u. moment scripts u e ∷ []) (same_Some s t is)
moments_one_more scripts (f ∷ es) s t e is =
    elim (next scripts s f) as (λ o. option_and_then (λ u. run scripts u es) o ≡ Some t
    → moment scripts s f ∷ moments scripts (unwrap_or o s) (es ++ e ∷ [])
    ≡ moment scripts s f ∷ moments scripts (unwrap_or o s) es ++ moment scripts t e ∷ []) [
      | None ↦ λ never. absurd cc
      | Some u ↦ λ rest. ap (λ ms. moment scripts s f ∷ ms) (moments_one_more scripts es u t e rest)
    ] is

moments_count : (scripts : Scripts) (es : List Event) (s : State) → length (moments scripts s es) ≡ length es
moments_count scripts [] s = refl
moments_count scripts (e ∷ es) s = ap suc (moments_count scripts es (unwrap_or (next scripts s e) s))

-- ---- steps

pub steps_one_more : (ms : List (Option Moment)) (d : Drawing) (m : Option Moment)
    → draw_steps_from d (ms ++ m ∷ []) ≡ draw_steps_from d ms ++ draw_step (drawing_after d ms) m ∷ []
steps_one_more [] d m = refl
steps_one_more (k ∷ ms) d m =
    ap (λ ts. draw_step d k ∷ ts) (steps_one_more ms (after_draw d (client_of k) (drawn_action k)) m)

pub drawing_one_more : (ms : List (Option Moment)) (d : Drawing) (m : Option Moment)
    → drawing_after d (ms ++ m ∷ []) ≡ after_draw (drawing_after d ms) (client_of m) (drawn_action m)
drawing_one_more [] d m = refl
drawing_one_more (k ∷ ms) d m = drawing_one_more ms (after_draw d (client_of k) (drawn_action k)) m

-- the closing mark stays where it is when one more moment comes behind it
closing_one_more : (place : ℕ) (ms : List Moment) (m : Moment) → place ≤ length ms
    → with_closing (Some place) (ms ++ m ∷ []) ≡ with_closing (Some place) ms ++ Some m ∷ []
closing_one_more zero [] m le = refl
closing_one_more zero (k ∷ ms) m le = ap (λ l. None ∷ Some k ∷ l) (map-append (λ n. Some n) ms (m ∷ []))
closing_one_more (suc place) [] m le = absurd (omega arith)
closing_one_more (suc place) (k ∷ ms) m le = ap (λ l. Some k ∷ l) (closing_one_more place ms m (omega arith))

-- the closing mark at the end
pub closing_at_end : (ms : List Moment) → with_closing (Some (length ms)) ms ≡ with_closing None ms ++ None ∷ []
closing_at_end [] = refl
closing_at_end (m ∷ ms) = ap (λ l. Some m ∷ l) (closing_at_end ms)

-- ---- sessions

abbrev pub with_event : SessionHistory → Event → SessionHistory
with_event h e = record h { events = h.events ++ e ∷ [] }

abbrev pub with_mark : SessionHistory → SessionHistory
with_mark h = record h { closing = Some (length h.events) }

module _ (h : SessionHistory) (e : Event) (t : State) (is : run h.scripts (begun h) h.events ≡ Some t)
    (within : IsAmong h.closing (length h.events)) where
  abbrev its : Moment
  its = moment h.scripts t e

  closed_by : (closing : Option ℕ) → IsAmong closing (length h.events)
      → with_closing closing (moments_of (with_event h e)) ≡ with_closing closing (moments_of h) ++ Some its ∷ []
  closed_by None le =
      ap (map (λ n. Some n)) (moments_one_more h.scripts h.events (begun h) t e is)
      ∙ map-append (λ n. Some n) (moments_of h) (its ∷ [])
  closed_by (Some place) le =
      let count : length (moments_of h) ≡ length h.events = moments_count h.scripts h.events (begun h) in
      ap (with_closing (Some place)) (moments_one_more h.scripts h.events (begun h) t e is)
      ∙ closing_one_more place (moments_of h) its (omega (arith, count, le))

  pub draws_one_more : draw_steps (with_event h e) ≡ draw_steps h ++ draw_step (drawing_of h) (Some its) ∷ []
  unfolding draw_steps drawing_of
  draws_one_more = ap (draw_steps_from (opened h)) (closed_by h.closing within)
      ∙ steps_one_more (with_closing h.closing (moments_of h)) (opened h) (Some its)

  pub drawing_with_event : drawing_of (with_event h e) ≡ after_draw (drawing_of h) e.client (drawn_action (Some its))
  unfolding drawing_of
  drawing_with_event = ap (drawing_after (opened h)) (closed_by h.closing within)
      ∙ drawing_one_more (with_closing h.closing (moments_of h)) (opened h) (Some its)

  -- its record, if it draws one, is the newest
  pub records_with_event : drawn_records (with_event h e)
      ≡ drawn_records h ++ option_to_list (draw_step (drawing_of h) (Some its)).drawn
  records_with_event =
      ap records_of draws_one_more
      ∙ filter_map-append (λ (k : DrawStep). k.drawn) (draw_steps h) (draw_step (drawing_of h) (Some its) ∷ [])
      ∙ ap (λ rs. drawn_records h ++ rs) (one_alone (draw_step (drawing_of h) (Some its)).drawn)
    where
      one_alone : (o : Option Record) → cons_option o [] ≡ option_to_list o
      one_alone None = refl
      one_alone (Some r) = refl

  -- so is its acknowledgement, if it asks for one
  pub acks_with_event : acks_owed (with_event h e)
      ≡ acks_owed h ++ ack_at (draw_step (drawing_of h) (Some its)).lsn (Some its)
  acks_with_event =
      ap (flat_map (λ (k : DrawStep). ack_at k.lsn k.moment)) draws_one_more
      ∙ flat_map-append (λ (k : DrawStep). ack_at k.lsn k.moment) (draw_steps h) (draw_step (drawing_of h) (Some its) ∷ [])
      ∙ ap (λ acks. acks_owed h ++ acks) (append-nil (ack_at (draw_step (drawing_of h) (Some its)).lsn (Some its)))

module _ (h : SessionHistory) (open_still : h.closing ≡ None) where
  closed_at_end : with_closing (Some (length h.events)) (moments_of h) ≡ with_closing h.closing (moments_of h) ++ None ∷ []
  closed_at_end =
      ap (λ n. with_closing (Some n) (moments_of h)) (sym (moments_count h.scripts h.events (begun h)))
      ∙ closing_at_end (moments_of h)
      ∙ ap (λ c. with_closing c (moments_of h) ++ None ∷ []) (sym open_still)

  pub draws_mark : draw_steps (with_mark h) ≡ draw_steps h ++ draw_step (drawing_of h) None ∷ []
  unfolding draw_steps drawing_of
  draws_mark = ap (draw_steps_from (opened h)) closed_at_end ∙ steps_one_more (with_closing h.closing (moments_of h)) (opened h) None

  pub drawing_with_mark : drawing_of (with_mark h) ≡ after_draw (drawing_of h) 0 (drawn_action None)
  unfolding drawing_of
  drawing_with_mark = ap (drawing_after (opened h)) closed_at_end ∙ drawing_one_more (with_closing h.closing (moments_of h)) (opened h) None

  pub records_with_mark : drawn_records (with_mark h) ≡ drawn_records h ++ option_to_list (draw_step (drawing_of h) None).drawn
  records_with_mark =
      ap records_of draws_mark
      ∙ filter_map-append (λ (k : DrawStep). k.drawn) (draw_steps h) (draw_step (drawing_of h) None ∷ [])

  pub acks_with_mark : acks_owed (with_mark h) ≡ acks_owed h
  acks_with_mark =
      ap (flat_map (λ (k : DrawStep). ack_at k.lsn k.moment)) draws_mark
      ∙ flat_map-append (λ (k : DrawStep). ack_at k.lsn k.moment) (draw_steps h) (draw_step (drawing_of h) None ∷ [])
      ∙ append-nil (acks_owed h)
