use Rattle.session_laws.proofs.StdioMirroring.{mirrored}
use Rattle.session_laws.proofs.stdio_laws.joined_topics_are_mirrored.Goals as goal

pub returns : goal.returns
returns g c = mirrored g.H.PresenceHooks c.args.hooks.now
