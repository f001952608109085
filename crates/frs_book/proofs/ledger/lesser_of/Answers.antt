-- The lesser is one of the two.
use Rattle.std.proofs.Common.{◌≡◌, inl, inr, ⊎_elim, min, refl, sym, ◌∙◌, arith}
use Rattle.frs_book.proofs.LedgerLowest.{min_is}
use Rattle.frs_book.proofs.ledger.lesser_of.Goals as goal

pub returns-then-begin-eq0 : goal.returns-then-begin-eq0
returns-then-begin-eq0 c = record {
  most = omega arith;
  below = λ some. absurd (omega (arith, some, c.if-begin-eq0.true));
  one = inl refl;
}

pub returns : goal.returns
returns c = record {
  most = omega (arith, c.min.ensures);
  below = λ _. omega (arith, c.min.ensures);
  one = ⊎_elim
      (λ (own : min c.args.least c.args.begin ≡ c.args.least). inl (c.min.ensures ∙ own))
      (λ (other : min c.args.least c.args.begin ≡ c.args.begin). inr (omega (arith, c.if-begin-eq0.false), sym (c.min.ensures ∙ other)))
      (min_is c.args.least c.args.begin);
}
