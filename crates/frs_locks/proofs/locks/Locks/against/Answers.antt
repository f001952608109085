-- The index names those that hold a conflicting lock.
use Rattle.std.proofs.Common.{◌∙◌, replicate, false}
use Rattle.frs_locks.proofs.IndexAnswers.{never}
use Rattle.frs_locks.proofs.SoundLocks.{against_key, against_map, none_key, none_map}
use Rattle.frs_locks.proofs.locks.Locks.against.Goals as goal

pub returns-in-Some : goal.returns-in-Some
returns-in-Some c = λ d. against_key c.self.inside.maps c.self.inside.clients.items c.args.self.now c.in-OnKey.id c.in-OnKey.key _ c.in-Some.m.now c.copied.result (replicate 65 false) d c.self.invariant.indexed c.self.view_is c.in-OnKey.is c.in-Some.ensures.value
    (c.copied.ensures ∙ c.get-in-Some.ensures.value) (never 65 d)

pub returns-in-None : goal.returns-in-None
returns-in-None c = λ d. c.none.ensures d ∙ none_key c.self.inside.maps c.self.inside.clients.items c.args.self.now c.in-OnKey.id c.in-OnKey.key _ d c.self.invariant.indexed c.self.view_is c.in-OnKey.is c.in-None.ensures.value

pub returns-in-Some-get : goal.returns-in-Some-get
returns-in-Some-get c = λ d. against_map c.self.inside.maps c.self.inside.clients.items c.args.self.now c.in-OnMap.id _ c.in-Some-get.m.now d c.self.invariant.indexed c.self.view_is c.in-OnMap.is c.in-Some-get.ensures.value

pub returns-in-None-get : goal.returns-in-None-get
returns-in-None-get c = λ d. c.none-in-None-get.ensures d ∙ none_map c.self.inside.maps c.self.inside.clients.items c.args.self.now c.in-OnMap.id _ d c.self.invariant.indexed c.self.view_is c.in-OnMap.is c.in-None-get.ensures.value
