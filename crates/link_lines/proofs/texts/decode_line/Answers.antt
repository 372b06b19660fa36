use Rattle.link_lines.proofs.Again.{decoded_only, found_from_answer}
use Rattle.link_lines.proofs.Faults.{faults_from_answer}
use Rattle.link_lines.proofs.texts.decode_line.Goals as goal

pub returns-clause-found : goal.returns-clause-found
returns-clause-found c = found_from_answer c.args.hearer c.args.text.now c.decode_exactly.result c.decode_exactly.ensures.exact

pub returns-clause-only : goal.returns-clause-only
returns-clause-only c = λ line is. rw (decoded_only c.args.hearer c.args.text.now line is) at c.decode_exactly.ensures.exact

pub returns-clause-faults : goal.returns-clause-faults
returns-clause-faults c = faults_from_answer c.args.hearer c.args.text.now c.decode_exactly.result c.decode_exactly.ensures.exact
