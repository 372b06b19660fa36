use Rattle.std.specs.Prelude.{◌≡◌}
use Rattle.presence_journal.specs.History.{begun}
use Rattle.presence_node_main.proofs.serving.running.serve.Given as goal

abbrev pub ghosts-serve_lanes-A-Ledger : goal.ghosts-serve_lanes-A-Ledger
ghosts-serve_lanes-A-Ledger g a = record { name = a.blanks.first.name; parts = a.blanks.first.parts }

abbrev pub ghosts-serve_lanes-B-Ledger : goal.ghosts-serve_lanes-B-Ledger
ghosts-serve_lanes-B-Ledger g a = record { name = a.blanks.second.name; parts = a.blanks.second.parts }

abbrev pub ghosts-serve_lanes-C-Ledger : goal.ghosts-serve_lanes-C-Ledger
ghosts-serve_lanes-C-Ledger g a = record { name = a.blanks.third.name; parts = a.blanks.third.parts }

abbrev pub ghosts-serve_lanes-D-Ledger : goal.ghosts-serve_lanes-D-Ledger
ghosts-serve_lanes-D-Ledger g a = record { name = a.blanks.fourth.name; parts = a.blanks.fourth.parts }

abbrev pub ghosts-serve_lanes-A-Lane : goal.ghosts-serve_lanes-A-Lane
ghosts-serve_lanes-A-Lane g a = record {
  node = a.setting.now.options.now.name;
  begins = λ h. h ≡ begun (record { name = a.setting.now.options.now.name; incarnation = a.setting.now.incarnation });
}

abbrev pub ghosts-serve_lanes-B-Lane : goal.ghosts-serve_lanes-B-Lane
ghosts-serve_lanes-B-Lane g a = record {
  node = a.setting.now.options.now.name;
  begins = λ h. h ≡ begun (record { name = a.setting.now.options.now.name; incarnation = a.setting.now.incarnation });
}

abbrev pub ghosts-serve_lanes-C-Lane : goal.ghosts-serve_lanes-C-Lane
ghosts-serve_lanes-C-Lane g a = record {
  node = a.setting.now.options.now.name;
  begins = λ h. h ≡ begun (record { name = a.setting.now.options.now.name; incarnation = a.setting.now.incarnation });
}

abbrev pub ghosts-serve_lanes-D-Lane : goal.ghosts-serve_lanes-D-Lane
ghosts-serve_lanes-D-Lane g a = record {
  node = a.setting.now.options.now.name;
  begins = λ h. h ≡ begun (record { name = a.setting.now.options.now.name; incarnation = a.setting.now.incarnation });
}
