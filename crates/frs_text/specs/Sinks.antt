-- What a sink has taken of a text.
use Rattle.std.specs.Prelude.{◌≡◌, ℕ, List, ◌++◌, IsTrue}
use Rattle.frs_disk.specs.declared.outside.Sink.{Ghosts}
use Rattle.frs_disk.specs.Outside.{AddsPartOf}

-- All of the text was written, as far as the sink tells.
abbrev pub WritesAll : {S : Type 0} → Ghosts S → List ℕ → S → S → Type 0
WritesAll g text old new = IsTrue (g.tells old) → g.written new ≡ g.written old ++ text

-- A front of the text was written, as far as the sink tells.
abbrev pub WritesPart : {S : Type 0} → Ghosts S → List ℕ → S → S → Type 0
WritesPart g text old new = IsTrue (g.tells old) → AddsPartOf text (g.written old) (g.written new)

-- The sink has taken a front of what was left before and of the text, and the rest of it is left now.
pub record GathersText (old left new now_left text : List ℕ) : Type 0 where
  pub taken : List ℕ
  pub appended : new ≡ old ++ taken
  pub rest : taken ++ now_left ≡ left ++ text

-- The same, as far as the sink tells.
abbrev pub GathersOnto : {S : Type 0} → Ghosts S → S → List ℕ → S → List ℕ → List ℕ → Type 0
GathersOnto g old left new now_left text =
    IsTrue (g.tells old) → GathersText (g.written old) left (g.written new) now_left text
