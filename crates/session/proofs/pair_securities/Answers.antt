-- `session::pair_securities` meets its contract: each security leaves what the definition's pairing comes to as it was.
use Rattle.session.proofs.Rounds.{rounds_end, rounds_next, rounds_pairable, rounds_start, rounds_terms}
use Rattle.session.proofs.pair_securities.Goals as goal

pub loop-security-init : goal.loop-security-init
loop-security-init c = rounds_start c.requires

pub terms_for-terms-requires : goal.terms_for-terms-requires
terms_for-terms-requires c = rounds_terms c.loop-security.invariant c.loop-security-test.true

pub pair_all-requires : goal.pair_all-requires
pair_all-requires c = rounds_pairable c.loop-security.invariant c.loop-security-test.true c.terms_for-terms.ensures

pub loop-security-preserved : goal.loop-security-preserved
loop-security-preserved c =
    rounds_next c.loop-security.invariant c.loop-security-test.true c.terms_for-terms.ensures c.pair_all.ensures

pub returns : goal.returns
returns c = rounds_end c.loop-security.invariant c.loop-security-test.false
