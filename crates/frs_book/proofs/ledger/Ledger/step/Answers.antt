-- By the client's transaction.
use Rattle.std.proofs.Common.{◌∙◌, option_copied, sym, ap, arith}
use Rattle.frs_book.specs.declared.client_state.ClientState.{ClientState}
use Rattle.frs_book.specs.Ledgers.{has_begun}
use Rattle.frs_book.proofs.OutsideSteps.{client_is_there}
use Rattle.frs_book.proofs.PreparedDraws.{client_read}
use Rattle.frs_book.proofs.ledger.Ledger.step.Goals as goal

pub end-requires-clause-line : goal.end-requires-clause-line
end-requires-clause-line c = sym c.requires.line ∙ ap option_copied c.in_default.is

pub returns-in_default : goal.returns-in_default
returns-in_default c = c.end.ensures

pub index-requires : goal.index-requires
index-requires c =
    let within = client_is_there c.args.self.now c.args.client c.requires.turn in
    omega (arith, within, c.args.self.now.clients.ok.0)

pub outside-requires-clause-turn : goal.outside-requires-clause-turn
outside-requires-clause-turn c = record { turn = c.requires.turn; at_line = sym c.requires.line ∙ ap option_copied c.in-Some.is }

pub outside-requires-clause-outside : goal.outside-requires-clause-outside
outside-requires-clause-outside c =
    let old = c.args.self.now in
    ap (λ (k : ClientState). k.tx) (sym (client_read old.clients.items c.args.client c.index.result.now (client_is_there old c.args.client c.requires.turn) c.index.ensures))
    ∙ c.in-Outside.is

pub returns-in-Outside : goal.returns-in-Outside
returns-in-Outside c = c.outside.ensures

pub inside-requires-clause-turn : goal.inside-requires-clause-turn
inside-requires-clause-turn c = record { turn = c.requires.turn; at_line = sym c.requires.line ∙ ap option_copied c.in-Some.is }

pub inside-requires-clause-inside : goal.inside-requires-clause-inside
inside-requires-clause-inside c =
    let old = c.args.self.now in
    ap (λ (k : ClientState). has_begun k.tx) (sym (client_read old.clients.items c.args.client c.index.result.now (client_is_there old c.args.client c.requires.turn) c.index.ensures))
    ∙ ap has_begun c.in-Active.is

pub returns-in-Active : goal.returns-in-Active
returns-in-Active c = c.inside.ensures

pub abandoned-requires-clause-turn : goal.abandoned-requires-clause-turn
abandoned-requires-clause-turn c = record { turn = c.requires.turn; at_line = sym c.requires.line ∙ ap option_copied c.in-Some.is }

pub abandoned-requires-clause-abandoned : goal.abandoned-requires-clause-abandoned
abandoned-requires-clause-abandoned c =
    let old = c.args.self.now in
    ap (λ (k : ClientState). k.tx) (sym (client_read old.clients.items c.args.client c.index.result.now (client_is_there old c.args.client c.requires.turn) c.index.ensures))
    ∙ c.in-Abandoned.is

pub returns-in-Abandoned : goal.returns-in-Abandoned
returns-in-Abandoned c = c.abandoned.ensures c.args.framed.now
