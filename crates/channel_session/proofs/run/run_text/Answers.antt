use Rattle.std.proofs.Common.{◌≡◌, [], false, inl, refl, rules}
use Rattle.channel_session.proofs.run.run_text.Goals as goal

pub returns-in-Err-OutOfMemory-clause-ran : goal.returns-in-Err-OutOfMemory-clause-ran
returns-in-Err-OutOfMemory-clause-ran g c =
    let lives : c.args.session.now.failed ≡ false = search rules in
    record { said = []; writes = tt; ended = (lives, inl (record { port = refl; session = refl })) }

pub returns-clause-ran : goal.returns-clause-ran
returns-clause-ran g c = search rules

pub returns-in_default-with_shared_topic-clause-ran : goal.returns-in_default-with_shared_topic-clause-ran
returns-in_default-with_shared_topic-clause-ran g c =
    let lives : c.args.session.now.failed ≡ false = search rules in
    record { said = []; writes = tt; ended = (lives, inl (record { port = refl; session = refl })) }
