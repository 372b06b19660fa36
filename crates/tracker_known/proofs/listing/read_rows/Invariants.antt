use Rattle.std.proofs.Common.{◌≡◌, drop}
use Rattle.std.specs.List.{list_all}
use Rattle.orswot_core.specs.Limits.{are_texts}
use Rattle.presence_journal.specs.StepLimits.{is_named}
use Rattle.tracker_known.proofs.listing.read_rows.Given as goal

abbrev pub invariant-loop-row : goal.invariant-loop-row
invariant-loop-row l = record {
  names : list_all is_named (drop l.row-index l.live) ≡ list_all is_named l.live;
  texts : list_all (λ x. are_texts x.1) (drop l.row-index l.live) ≡ list_all (λ x. are_texts x.1) l.live;
}
