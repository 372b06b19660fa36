use Rattle.std.proofs.Common.{sym, ◌∙◌}
use Rattle.std.specs.BTreeMap.{get}
use Rattle.std.specs.Ordering.{nat_cmp}
use Rattle.std.proofs.lemmas.Result.{on_ok_weaker}
use Rattle.presence_journal_cuts.proofs.Starts.{chain_stays, chain_comes}
use Rattle.presence_journal_cuts.proofs.kept.keep_chain.Goals as goal

pub returns-then-contains_key : goal.returns-then-contains_key
returns-then-contains_key c = λ k. chain_stays (get nat_cmp c.args.chains.now) c.args.listed.now k (sym c.contains_key.ensures ∙ c.if-contains_key.true)

pub returns : goal.returns
returns c =
    on_ok_weaker c.put_chain.result
    (λ put k. chain_comes (get nat_cmp c.args.chains.now) (get nat_cmp c.put_chain.new.chains) c.args.listed.now c.in_ok-chain.chain k (sym c.contains_key.ensures ∙ c.if-contains_key.false) c.in_ok-chain.ensures (put k))
    c.put_chain.ensures
