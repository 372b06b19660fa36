use Rattle.std.proofs.Common.{rules, ◌≡◌, [], ◌∷◌, ◌++◌, length, subst}
use Rattle.link_threads.proofs.MoreTasks.{two_more}
use Rattle.link_threads.specs.declared.tasks.LinkTask.TheVariants.{Read, Dial}
use Rattle.link_threads.proofs.tasks.LinkTasks.dial.Goals as goal

pub returns-clause-dials : goal.returns-clause-dials
returns-clause-dials c =
    let number : c.len-2.result ≡ length c.args.self.now.links.readers.all.items = search rules in
    record {
      dialler = c.in_ok-dialler.dialler;
      its_name = c.in_ok-dialler.ensures.name;
      its_host = c.in_ok-dialler.ensures.host;
      its_port = c.in_ok-dialler.ensures.port;
      its_number = search rules;
      tasks_are = subst (λ n. c.push-2.new.self.items ≡ c.args.self.now.tasks.items ++ Read n ∷ Dial c.in_ok-dialler.dialler ∷ []) number
          (two_more c.args.self.now.tasks.items c.push.new.self.items c.push-2.new.self.items (Read c.len-2.result) (Dial c.in_ok-dialler.dialler)
          c.in_ok-push.ensures.items c.in_ok-push-2.ensures.items);
      reader = search rules;
      mailbox = search rules;
    }
