-- One text is the transcript of one history at most.
use Rattle.std.proofs.Common.{◌≡◌, true, false, ℕ, ◌+◌, ◌*◌, ◌<◌, ◌^◌, List, [], ◌∷◌, ◌++◌, map, Option, Some, None, refl, sym, ap, subst, ◌∙◌, inl, inr, arith}
use Rattle.std.specs.Prelude.{codes, option_map, unwrap_or, slice_index}
use Rattle.std.proofs.lemmas.Fmt.{decimal_injective}
use Rattle.std.proofs.lemmas.List.{append-nil, append_cancel_left}
use Rattle.std.proofs.lemmas.List.Concat.{flat_map-append}
use Rattle.std.proofs.lemmas.List.Folds.{flat_map-map}
use Rattle.std.specs.Fmt.{decimal}
use Rattle.std.specs.List.{AllByRecursion, flat_map, list_all}
use Rattle.frs_types.specs.Maps.{Maps}
use Rattle.frs_history.specs.declared.command.Command.{Command}
use Rattle.frs_history.specs.declared.command.Command.TheVariants as command
use Rattle.frs_history.specs.declared.command.Line.{Line}
use Rattle.frs_history.specs.declared.event.Ack.{Ack}
use Rattle.frs_history.specs.declared.event.Event.{Event}
use Rattle.frs_history.specs.declared.event.Reply.{Reply}
use Rattle.frs_history.specs.declared.event.Reply.TheVariants as reply
use Rattle.frs_history.specs.declared.event.What.{What}
use Rattle.frs_history.specs.declared.event.What.TheVariants as what
use Rattle.frs_history.specs.Machine.{Scripts}
use Rattle.frs_history.specs.Scripts.{is_script}
use Rattle.frs_text.specs.Transcripts.{FitsReply, FitsWhat, FitsEvent, FitsAck, IsHistory, IsStop, IsEnd, ack_numbers}
use Rattle.frs_text.specs.Text.{Text, line, command_words, reply_words, words_at, event_words, transcript}
use Rattle.frs_text.proofs.EventLines.{HasLineNumber, StandsAtLine, placed}
use Rattle.frs_text.proofs.WordMeaning.{word_injective}
use Rattle.frs_text.proofs.Words.{head_of, tail_of, IsSolid, AreSolid, IsLine, AreDigits, lines_same, solid_by_test, word_solid, decimal_digits, decimal_solid}
use Rattle.frs_recovery.proofs.Lists.{all_join}

abbrev words_of_event : Scripts → Event → List Text
words_of_event scripts e = let said = event_words scripts e.client e.line e.what in decimal e.client ∷ decimal e.line ∷ said.0 ++ codes "->" ∷ said.1

abbrev ack_words : Ack → List Text
ack_words a = codes "durable" ∷ decimal a.client ∷ decimal a.line ∷ []

-- ---- the lines of a transcript are lines of words

command_solid : (x : Command) → AreSolid (command_words x)
command_solid (command.Begin true) = (solid_by_test (codes "begin") refl, tt)
command_solid (command.Begin false) = (solid_by_test (codes "begin") refl, (solid_by_test (codes "async") refl, tt))
command_solid (command.Put id key value) = (solid_by_test (codes "put") refl, (word_solid id, (word_solid key, (word_solid value, tt))))
command_solid (command.Remove id key) = (solid_by_test (codes "remove") refl, (word_solid id, (word_solid key, tt)))
command_solid (command.Delete id) = (solid_by_test (codes "delete") refl, (word_solid id, tt))
command_solid (command.Get id key) = (solid_by_test (codes "get") refl, (word_solid id, (word_solid key, tt)))
command_solid command.Commit = (solid_by_test (codes "commit") refl, tt)
command_solid command.Snapshot = (solid_by_test (codes "snapshot") refl, tt)

reply_solid : (r : Reply) → AreSolid (reply_words r)
reply_solid reply.Done = (solid_by_test (codes "done") refl, tt)
reply_solid reply.Absent = (solid_by_test (codes "none") refl, tt)
reply_solid (reply.Found value) = (solid_by_test (codes "value") refl, (word_solid value, tt))
reply_solid reply.Deadlock = (solid_by_test (codes "deadlock") refl, tt)
reply_solid reply.Abandoned = (solid_by_test (codes "abandoned") refl, tt)
reply_solid (reply.Snapshot number) = (solid_by_test (codes "snapshot") refl, (decimal_solid number, tt))

found_solid : (o : Option Line) → AreSolid (unwrap_or (option_map (λ (l : Line). command_words l.command) o) [])
found_solid None = tt
found_solid (Some l) = command_solid l.command

at_solid : (scripts : Scripts) (c n : ℕ) → AreSolid (words_at scripts c n)
at_solid scripts c n = found_solid _

said_solid : (scripts : Scripts) (c n : ℕ) (w : What) → AreSolid (event_words scripts c n w).0 × AreSolid (event_words scripts c n w).1
said_solid scripts c n (what.Answered r) = (at_solid scripts c n, reply_solid r)
said_solid scripts c n what.Waits = (at_solid scripts c n, (solid_by_test (codes "waits") refl, tt))
said_solid scripts c n (what.Reappend id key) = ((solid_by_test (codes "reappend") refl, (word_solid id, (word_solid key, tt))), (solid_by_test (codes "done") refl, tt))
said_solid scripts c n what.End = ((solid_by_test (codes "end") refl, tt), (solid_by_test (codes "abandoned") refl, tt))

event_is_line : (scripts : Scripts) (e : Event) → IsLine (words_of_event scripts e)
event_is_line scripts e = let said = event_words scripts e.client e.line e.what in let solid = said_solid scripts e.client e.line e.what in
    (decimal_solid e.client, (decimal_solid e.line, all_join IsSolid said.0 (codes "->" ∷ said.1) solid.0 (solid_by_test (codes "->") refl, solid.1)))

events_are_lines : (scripts : Scripts) (es : List Event) → AllByRecursion IsLine (map (words_of_event scripts) es)
events_are_lines scripts [] = tt
events_are_lines scripts (e ∷ es) = (event_is_line scripts e, events_are_lines scripts es)

acks_are_lines : (acks : List Ack) → AllByRecursion IsLine (map ack_words acks)
acks_are_lines [] = tt
acks_are_lines (a ∷ acks) = ((solid_by_test (codes "durable") refl, (decimal_solid a.client, (decimal_solid a.line, tt))), acks_are_lines acks)

stop_solid : (why : Text) → IsStop why → IsSolid why
stop_solid why (inl e) = subst IsSolid (sym e) (solid_by_test (codes "disk") refl)
stop_solid why (inr (inl e)) = subst IsSolid (sym e) (solid_by_test (codes "shelf") refl)
stop_solid why (inr (inr (inl e))) = subst IsSolid (sym e) (solid_by_test (codes "limit") refl)
stop_solid why (inr (inr (inr e))) = subst IsSolid (sym e) (solid_by_test (codes "memory") refl)

end_is_line : (ws : List Text) → IsEnd ws → IsLine ws
end_is_line ws (inl e) = subst IsLine (sym e) (solid_by_test (codes "closed") refl, tt)
end_is_line ws (inr h) = subst IsLine (sym h.2) (solid_by_test (codes "stopped") refl, (stop_solid h.0 h.1, tt))

abbrev all_words : Scripts → List Event → List Ack → List Text → List (List Text)
all_words scripts es acks ws = map (words_of_event scripts) es ++ map ack_words acks ++ ws ∷ []

all_are_lines : (scripts : Scripts) (es : List Event) (acks : List Ack) (ws : List Text) → IsEnd ws → AllByRecursion IsLine (all_words scripts es acks ws)
all_are_lines scripts es acks ws h =
    all_join IsLine (map (words_of_event scripts) es ++ map ack_words acks) (ws ∷ [])
    (all_join IsLine (map (words_of_event scripts) es) (map ack_words acks) (events_are_lines scripts es) (acks_are_lines acks)) (end_is_line ws h, tt)

text_of_words : (scripts : Scripts) (es : List Event) (acks : List Ack) (ws : List Text) → flat_map line (all_words scripts es acks ws) ≡ transcript scripts es acks (line ws)
text_of_words scripts es acks ws =
    flat_map-append line (map (words_of_event scripts) es ++ map ack_words acks) (ws ∷ [])
    ∙ (λ i. flat_map-append line (map (words_of_event scripts) es) (map ack_words acks) i ++ append-nil (line ws) i)
    ∙ (λ i. flat_map-map line (words_of_event scripts) es i ++ flat_map-map line ack_words acks i ++ line ws)

-- ---- one event

abbrev first_of : List Text → Text
first_of [] = []
first_of (w ∷ ws) = w

abbrev head_line : List (List Text) → List Text
head_line [] = []
head_line (x ∷ xs) = x

-- a number by which the first words of replies differ
abbrev kind : List Text → ℕ
kind ws = slice_index (first_of ws) 0 + 3 * slice_index (first_of ws) 1

reply_same : (r q : Reply) → FitsReply r → FitsReply q → reply_words r ≡ reply_words q → r ≡ q
reply_same reply.Done reply.Done f g h = refl
reply_same reply.Done reply.Absent f g h = absurd (omega (arith, ap kind h))
reply_same reply.Done (reply.Found b) f g h = absurd (omega (arith, ap kind h))
reply_same reply.Done reply.Deadlock f g h = absurd (omega (arith, ap kind h))
reply_same reply.Done reply.Abandoned f g h = absurd (omega (arith, ap kind h))
reply_same reply.Done (reply.Snapshot b) f g h = absurd (omega (arith, ap kind h))
reply_same reply.Absent reply.Done f g h = absurd (omega (arith, ap kind h))
reply_same reply.Absent reply.Absent f g h = refl
reply_same reply.Absent (reply.Found b) f g h = absurd (omega (arith, ap kind h))
reply_same reply.Absent reply.Deadlock f g h = absurd (omega (arith, ap kind h))
reply_same reply.Absent reply.Abandoned f g h = absurd (omega (arith, ap kind h))
reply_same reply.Absent (reply.Snapshot b) f g h = absurd (omega (arith, ap kind h))
reply_same (reply.Found a) reply.Done f g h = absurd (omega (arith, ap kind h))
reply_same (reply.Found a) reply.Absent f g h = absurd (omega (arith, ap kind h))
reply_same (reply.Found a) (reply.Found b) f g h = ap (λ v. reply.Found v) (word_injective a b f g (ap (λ ws. first_of (tail_of ws)) h))
reply_same (reply.Found a) reply.Deadlock f g h = absurd (omega (arith, ap kind h))
reply_same (reply.Found a) reply.Abandoned f g h = absurd (omega (arith, ap kind h))
reply_same (reply.Found a) (reply.Snapshot b) f g h = absurd (omega (arith, ap kind h))
reply_same reply.Deadlock reply.Done f g h = absurd (omega (arith, ap kind h))
reply_same reply.Deadlock reply.Absent f g h = absurd (omega (arith, ap kind h))
reply_same reply.Deadlock (reply.Found b) f g h = absurd (omega (arith, ap kind h))
reply_same reply.Deadlock reply.Deadlock f g h = refl
reply_same reply.Deadlock reply.Abandoned f g h = absurd (omega (arith, ap kind h))
reply_same reply.Deadlock (reply.Snapshot b) f g h = absurd (omega (arith, ap kind h))
reply_same reply.Abandoned reply.Done f g h = absurd (omega (arith, ap kind h))
reply_same reply.Abandoned reply.Absent f g h = absurd (omega (arith, ap kind h))
reply_same reply.Abandoned (reply.Found b) f g h = absurd (omega (arith, ap kind h))
reply_same reply.Abandoned reply.Deadlock f g h = absurd (omega (arith, ap kind h))
reply_same reply.Abandoned reply.Abandoned f g h = refl
reply_same reply.Abandoned (reply.Snapshot b) f g h = absurd (omega (arith, ap kind h))
reply_same (reply.Snapshot a) reply.Done f g h = absurd (omega (arith, ap kind h))
reply_same (reply.Snapshot a) reply.Absent f g h = absurd (omega (arith, ap kind h))
reply_same (reply.Snapshot a) (reply.Found b) f g h = absurd (omega (arith, ap kind h))
reply_same (reply.Snapshot a) reply.Deadlock f g h = absurd (omega (arith, ap kind h))
reply_same (reply.Snapshot a) reply.Abandoned f g h = absurd (omega (arith, ap kind h))
reply_same (reply.Snapshot a) (reply.Snapshot b) f g h = ap (λ n. reply.Snapshot n) (decimal_injective a b f g (ap (λ ws. first_of (tail_of ws)) h))

not_waits : (r : Reply) → reply_words r ≡ codes "waits" ∷ [] → what.Answered r ≡ what.Waits
not_waits reply.Done h = absurd (omega (arith, ap kind h))
not_waits reply.Absent h = absurd (omega (arith, ap kind h))
not_waits (reply.Found a) h = absurd (omega (arith, ap kind h))
not_waits reply.Deadlock h = absurd (omega (arith, ap kind h))
not_waits reply.Abandoned h = absurd (omega (arith, ap kind h))
not_waits (reply.Snapshot a) h = absurd (omega (arith, ap kind h))

abbrev all_said : Scripts → ℕ → ℕ → What → List Text
all_said scripts c n w = (event_words scripts c n w).0 ++ codes "->" ∷ (event_words scripts c n w).1

what_same : (scripts : Scripts) (c n : ℕ) (w v : What) → FitsWhat w → FitsWhat v → HasLineNumber n w → HasLineNumber n v → all_said scripts c n w ≡ all_said scripts c n v → w ≡ v
what_same scripts c n (what.Answered r) (what.Answered q) f g u v h = ap (λ x. what.Answered x) (reply_same r q f g (ap tail_of (append_cancel_left (words_at scripts c n) (codes "->" ∷ reply_words r) (codes "->" ∷ reply_words q) h)))
what_same scripts c n (what.Answered r) what.Waits f g u v h = not_waits r (ap tail_of (append_cancel_left (words_at scripts c n) (codes "->" ∷ reply_words r) (codes "->" ∷ codes "waits" ∷ []) h))
what_same scripts c n (what.Answered r) (what.Reappend j l) f g u v h = absurd (omega (arith, u, v))
what_same scripts c n (what.Answered r) what.End f g u v h = absurd (omega (arith, u, v))
what_same scripts c n what.Waits (what.Answered q) f g u v h = sym (not_waits q (sym (ap tail_of (append_cancel_left (words_at scripts c n) (codes "->" ∷ codes "waits" ∷ []) (codes "->" ∷ reply_words q) h))))
what_same scripts c n what.Waits what.Waits f g u v h = refl
what_same scripts c n what.Waits (what.Reappend j l) f g u v h = absurd (omega (arith, u, v))
what_same scripts c n what.Waits what.End f g u v h = absurd (omega (arith, u, v))
what_same scripts c n (what.Reappend i k) (what.Answered q) f g u v h = absurd (omega (arith, u, v))
what_same scripts c n (what.Reappend i k) what.Waits f g u v h = absurd (omega (arith, u, v))
what_same scripts c n (what.Reappend i k) (what.Reappend j l) f g u v h = let ids = word_injective i j f.0 g.0 (ap (λ ws. first_of (tail_of ws)) h) in let keys = word_injective k l f.1 g.1 (ap (λ ws. first_of (tail_of (tail_of ws))) h) in λ t. what.Reappend (ids t) (keys t)
what_same scripts c n (what.Reappend i k) what.End f g u v h = absurd (omega (arith, ap (λ ws. head_of (first_of ws)) h))
what_same scripts c n what.End (what.Answered q) f g u v h = absurd (omega (arith, u, v))
what_same scripts c n what.End what.Waits f g u v h = absurd (omega (arith, u, v))
what_same scripts c n what.End (what.Reappend j l) f g u v h = absurd (omega (arith, ap (λ ws. head_of (first_of ws)) h))
what_same scripts c n what.End what.End f g u v h = refl

wide : (n : ℕ) → n < 2 ^ 32 → n < 2 ^ 64
wide n lt = omega (arith, lt)

event_same : (scripts : Scripts) (a b : Event) → FitsEvent a → FitsEvent b → StandsAtLine a → StandsAtLine b → words_of_event scripts a ≡ words_of_event scripts b → a ≡ b
event_same scripts a b f g u v h =
    let clients = decimal_injective a.client b.client (wide a.client f.client) (wide b.client g.client) (ap first_of h) in
    let numbers = decimal_injective a.line b.line (wide a.line f.line) (wide b.line g.line) (ap (λ ws. first_of (tail_of ws)) h) in
    let said : all_said scripts a.client a.line a.what ≡ all_said scripts a.client a.line b.what =
    ap (λ (ws : List Text). tail_of (tail_of ws)) h ∙ (λ i. all_said scripts (sym clients i) (sym numbers i) b.what) in
    let whats = what_same scripts a.client a.line a.what b.what f.what g.what u (subst (λ n. HasLineNumber n b.what) (sym numbers) v) said in
    λ i. record { client = clients i; line = numbers i; what = whats i }

ack_same : (a b : Ack) → FitsAck a → FitsAck b → ack_words a ≡ ack_words b → ack_numbers a ≡ ack_numbers b
ack_same a b f g h =
    let clients = decimal_injective a.client b.client (wide a.client f.client) (wide b.client g.client) (ap (λ ws. first_of (tail_of ws)) h) in
    let numbers = decimal_injective a.line b.line (wide a.line f.line) (wide b.line g.line) (ap (λ ws. first_of (tail_of (tail_of ws))) h) in
    λ i. (clients i, numbers i)

acks_same : (acks others : List Ack) → AllByRecursion FitsAck acks → AllByRecursion FitsAck others → map ack_words acks ≡ map ack_words others → map ack_numbers acks ≡ map ack_numbers others
acks_same [] [] f g h = refl
acks_same [] (b ∷ others) f g h = cc
acks_same (a ∷ acks) [] f g h = cc
acks_same (a ∷ acks) (b ∷ others) f g h =
    let first = ack_same a b f.0 g.0 (ap (λ (xs : List (List Text)). head_line xs) h) in
    let rest = acks_same acks others f.1 g.1 (ap (λ (xs : List (List Text)). tail_of xs) h) in λ i. first i ∷ rest i

-- an event's line isn't that of an acknowledgement
apart : (scripts : Scripts) (e : Event) (a : Ack) → ack_words a ≡ words_of_event scripts e → ⊥
apart scripts e a h = let digits : AreDigits (codes "durable") = subst AreDigits (sym (ap first_of h)) (decimal_digits e.client) in
    let low = digits.0.1 in absurd (omega (arith, low))

-- ---- all of them

no_lines : (scripts : Scripts) (e : Event) (es : List Event) (acks others : List Ack) → map ack_words acks ≡ map (words_of_event scripts) (e ∷ es) ++ map ack_words others → ⊥
no_lines scripts e es [] others h = cc
no_lines scripts e es (a ∷ acks) others h = apart scripts e a (ap (λ (xs : List (List Text)). head_line xs) h)

parts_same : (scripts : Scripts) (es fs : List Event) (acks others : List Ack) → AllByRecursion FitsEvent es → AllByRecursion FitsEvent fs → AllByRecursion StandsAtLine es → AllByRecursion StandsAtLine fs
    → map (words_of_event scripts) es ++ map ack_words acks ≡ map (words_of_event scripts) fs ++ map ack_words others → (es ≡ fs) × (map ack_words acks ≡ map ack_words others)
parts_same scripts [] [] acks others f g u v h = (refl, h)
parts_same scripts [] (e ∷ fs) acks others f g u v h = absurd (no_lines scripts e fs acks others h)
parts_same scripts (e ∷ es) [] acks others f g u v h = absurd (no_lines scripts e es others acks (sym h))
parts_same scripts (d ∷ es) (e ∷ fs) acks others f g u v h =
    let first = event_same scripts d e f.0 g.0 u.0 v.0 (ap (λ (xs : List (List Text)). head_line xs) h) in
    let rest = parts_same scripts es fs acks others f.1 g.1 u.1 v.1 (ap (λ (xs : List (List Text)). tail_of xs) h) in
    ((λ i. first i ∷ rest.0 i), rest.1)

no_end : {X : Type 0} (xs : List X) (x : X) → [] ≡ xs ++ x ∷ [] → ⊥
no_end [] x h = cc
no_end (y ∷ xs) x h = cc

ends_same : (xs ys : List (List Text)) (x y : List Text) → xs ++ x ∷ [] ≡ ys ++ y ∷ [] → (xs ≡ ys) × (x ≡ y)
ends_same [] [] x y h = (refl, ap (λ (l : List (List Text)). head_line l) h)
ends_same [] (b ∷ ys) x y h = absurd (no_end ys y (ap (λ (l : List (List Text)). tail_of l) h))
ends_same (a ∷ xs) [] x y h = absurd (no_end xs x (sym (ap (λ (l : List (List Text)). tail_of l) h)))
ends_same (a ∷ xs) (b ∷ ys) x y h =
    let first : a ≡ b = ap (λ (l : List (List Text)). head_line l) h in
    let rest = ends_same xs ys x y (ap (λ (l : List (List Text)). tail_of l) h) in
    ((λ i. first i ∷ rest.0 i), rest.1)

pub one_history : (scripts : Scripts) (m n : Maps) (s t : ℕ) (es fs : List Event) (acks others : List Ack) (ws vs : List Text)
    → list_all is_script scripts ≡ true → IsHistory scripts m s es acks → IsHistory scripts n t fs others → IsEnd ws → IsEnd vs
    → transcript scripts es acks (line ws) ≡ transcript scripts fs others (line vs) → (es ≡ fs) × (map ack_numbers acks ≡ map ack_numbers others) × (ws ≡ vs)
one_history scripts m n s t es fs acks others ws vs are a b w v h =
    let lines = lines_same (all_words scripts es acks ws) (all_words scripts fs others vs) (all_are_lines scripts es acks ws w) (all_are_lines scripts fs others vs v)
    (text_of_words scripts es acks ws ∙ h ∙ sym (text_of_words scripts fs others vs)) in
    let ends = ends_same (map (words_of_event scripts) es ++ map ack_words acks) (map (words_of_event scripts) fs ++ map ack_words others) ws vs lines in
    let parts = parts_same scripts es fs acks others a.events_fit b.events_fit (placed scripts m s es are a.legal) (placed scripts n t fs are b.legal) ends.0 in
    (parts.0, acks_same acks others a.acks_fit b.acks_fit parts.1, ends.1)
