-- Which transcripts are read back as one history.
use Rattle.std.specs.Prelude.{◌≡◌, ◌⊎◌, ℕ, ◌^◌, ◌<◌, List, [], ◌∷◌, codes}
use Rattle.std.specs.List.{AllByRecursion}
use Rattle.frs_types.specs.Maps.{Maps}
use Rattle.frs_history.specs.declared.event.Ack.{Ack}
use Rattle.frs_history.specs.declared.event.Event.{Event}
use Rattle.frs_history.specs.declared.event.Reply.{Reply}
use Rattle.frs_history.specs.declared.event.Reply.TheVariants as reply
use Rattle.frs_history.specs.declared.event.What.{What}
use Rattle.frs_history.specs.declared.event.What.TheVariants as what
use Rattle.frs_history.specs.Machine.{Scripts}
use Rattle.frs_history.specs.Histories.{Legal}
use Rattle.frs_text.specs.Text.{Text}

-- ---- what an event can hold: each number and each byte fits its type

abbrev pub AreBytes : List ℕ → Type 0
AreBytes bytes = AllByRecursion (λ b. b < 256) bytes

abbrev pub FitsReply : Reply → Type 0
FitsReply (reply.Found value) = AreBytes value
FitsReply (reply.Snapshot number) = number < 2 ^ 64
FitsReply other = Unit {0}

abbrev pub FitsWhat : What → Type 0
FitsWhat (what.Answered r) = FitsReply r
FitsWhat (what.Reappend id key) = AreBytes id × AreBytes key
FitsWhat other = Unit {0}

pub record FitsEvent (e : Event) : Type 0 where
  pub client : e.client < 2 ^ 32
  pub line : e.line < 2 ^ 32
  pub what : FitsWhat e.what

pub record FitsAck (a : Ack) : Type 0 where
  pub client : a.client < 2 ^ 32
  pub line : a.line < 2 ^ 32

-- ---- histories and ends

-- Events that can be a history of the scripts, from the maps m and the last snapshot s, and acknowledgements.
pub record IsHistory (scripts : Scripts) (m : Maps) (s : ℕ) (events : List Event) (acks : List Ack) : Type 0 where
  pub legal : Legal m s scripts events
  pub events_fit : AllByRecursion FitsEvent events
  pub acks_fit : AllByRecursion FitsAck acks

-- what is printed of an acknowledgement
abbrev pub ack_numbers : Ack → ℕ × ℕ
ack_numbers a = (a.client, a.line)

abbrev pub IsStop : Text → Type 0
IsStop why = (why ≡ codes "disk") ⊎ ((why ≡ codes "shelf") ⊎ ((why ≡ codes "limit") ⊎ (why ≡ codes "memory")))

-- the words of the last line of a transcript
abbrev pub IsEnd : List Text → Type 0
IsEnd ws = (ws ≡ codes "closed" ∷ []) ⊎ ((why : Text) × IsStop why × (ws ≡ codes "stopped" ∷ why ∷ []))
